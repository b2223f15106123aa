-- A line judged, part by part: malformed, or at fault from 2 on; and so the line as a whole.
use Rattle.std.specs.Prelude.{Result, Ok, Err, IfOk}
use Rattle.std.proofs.Common.{◌≡◌, ℕ, ◌+◌, ◌*◌, ◌%◌, ◌<◌, Bool, true, false, cond, not, ◌&&◌, eqb, ltb, List, length, get_or, take, drop, sym, refl, ◌∙◌, arith, ltb-true, le-ltb, lt-ltb}
use Rattle.intelhex.specs.declared.parts.Head.{Head}
use Rattle.intelhex.specs.declared.parts.Data.{Data}
use Rattle.intelhex.specs.declared.Fault.{Fault}
use Rattle.intelhex.specs.declared.lines.Line.{Line}
use Rattle.intelhex.specs.Signs.{colon, no_digit, bytes_at, total}
use Rattle.intelhex.specs.Records.{end_kind}
use Rattle.intelhex.specs.Faults.{lawful, some_taken}
use Rattle.intelhex.specs.Inside.{all_bytes, count_at, address_at, kind_at, all_at, next_at, code_of, verdict, fault_at, HeadIs, DataIs, sum_with, Judged, LineIs}
use Rattle.intelhex.proofs.LineLaws.{choose, both}
use Rattle.intelhex.proofs.Forms.{all_total, data_all, whole_sum, by_tail}

pub above : {n : ℕ} → (n ≡ 0 → ⊥) → 0 < n
above {n} other = omega (arith, other)

-- what is said of a line without a fault
of_line : {P Q : Line → Type 0} (read : Result Line Fault) → (code_of read ≡ 0 → (line : Line) → P line → Q line) → IfOk read P → IfOk read Q
of_line (Ok line) says known = says refl line known
of_line (Err fault) says known = tt

-- of one with a fault nothing is said
no_line : (Q : Line → Type 0) (read : Result Line Fault) → (code_of read ≡ 0 → ⊥) → IfOk read Q
no_line Q (Ok line) fault = absurd (fault refl)
no_line Q (Err fault) at_fault = tt

-- a line that is malformed
pub malformed_line : {text before after : List ℕ} {at : ℕ} (read : Result Line Fault) → code_of read ≡ 1 → fault_at text at before ≡ 1 → LineIs text at before read after
malformed_line read is_one fault-one =
    let never : code_of read ≡ 0 → ⊥ = λ none. absurd (omega (arith, is_one, none)) in
    record { code = is_one ∙ sym fault-one; taken = no_line _ read never }

-- past the end of the cells it does not matter whether one was taken, and there is a fault
past_fault : (sum kind address count size : ℕ) (twice other : Bool) → size < address + count
    → (verdict sum kind address count size twice ≡ verdict sum kind address count size other) × (verdict sum kind address count size twice ≡ 0 → ⊥)
unfolding verdict
past_fault sum kind address count size twice other past =
    rw (lt-ltb size (address + count) past) (refl, nonzero (lawful kind address count) (eqb (sum % 256) 0) (ltb 1 kind))
  where
    nonzero : (a b c : Bool) → let fault : ℕ = cond a (cond (not b) 2 (cond c 3 4)) 1 in fault ≡ 0 → ⊥
    nonzero true true true none = absurd (omega (arith, none))
    nonzero true true false none = absurd (omega (arith, none))
    nonzero true false c none = absurd (omega (arith, none))
    nonzero false b c none = absurd (omega (arith, none))

nonzero : (b : Bool) (fault : ℕ) → (fault ≡ 0 → ⊥) → cond b fault 1 ≡ 0 → ⊥
nonzero true fault other none = other none
nonzero false fault other none = absurd (omega (arith, none))

module _ {text : List ℕ} (before : List ℕ) {at : ℕ} {head : Head} {held : Data} {read : Result Line Fault}
    (is : HeadIs text at head) (judged : Judged text (at + 9 + 2 * head.count) head held (length before) read) where
  module _ {cells after : List ℕ} {from : ℕ} (data_is : DataIs text (at + 9) head.count cells from held after) where
    -- the judgement in the parts of the line
    abbrev rest : Bool
    rest = ltb (total (all_at text at)) no_digit && ltb 0 (next_at text at)

    sum_is : sum_with text (at + 9 + 2 * head.count) head held ≡ total (all_at text at)
    sum_is = rw (is.sum, data_is.sum, is.count) (sym (all_total text at))

    code_is : code_of read
        ≡ cond rest (verdict (total (all_at text at)) (kind_at text at) (address_at text at) (count_at text at) (length before) held.twice) 1
    code_is =
        let ends : at + 9 + 2 * count_at text at + 2 ≡ at + 11 + 2 * count_at text at = omega arith in
        rw (sum_is, is.count, is.address, is.kind, ends) at judged.code

    -- where some are no bytes it is malformed
    no_bytes : {left : List ℕ} → ltb (total (all_at text at)) no_digit ≡ false → LineIs text at before read left
    no_bytes none = malformed_line read (rw none at code_is) (by_tail text at before is.formed ∙ rw none refl)

    all_data : ltb (total (all_at text at)) no_digit ≡ true → all_bytes (bytes_at text (at + 9) head.count) ≡ true
    all_data small = rw is.count (data_all text at (sym (whole_sum text at is.formed) ∙ small))

  -- its data were stored
  pub line_stored : {after : List ℕ} → DataIs text (at + 9) head.count before head.address held after → LineIs text at before read after
  line_stored {after} data_is =
      choose (ltb (total (all_at text at)) no_digit)
      (λ small. record {
        code =
            rw (rw (is.count, is.address) at (data_is.twice (all_data data_is small))) at (code_is data_is)
            ∙ sym (by_tail text at before is.formed);
        taken = of_line read (λ none line known.
            let ends : at + 9 + 2 * count_at text at + 2 ≡ at + 11 + 2 * count_at text at = omega arith in
            record {
              next = rw (is.count, ends) at known.0;
              filled = known.1 ∙ is.count;
              closed = rw is.kind at known.2;
              stored = rw (is.count, is.address) at (data_is.stored (all_data data_is small));
            }) judged.taken;
      })
      (no_bytes data_is)

  -- its data end past the cells, and were read aside
  pub line_aside : {cells aside after : List ℕ} → DataIs text (at + 9) head.count cells 0 held aside → length before < head.address + head.count
      → LineIs text at before read after
  line_aside data_is past =
      let far : length before < address_at text at + count_at text at = rw (is.count, is.address) at past in
      let other = some_taken (take (count_at text at) (drop (address_at text at) before)) in
      let beyond = past_fault (total (all_at text at)) (kind_at text at) _ _ _ held.twice other far in
      let never : code_of read ≡ 0 → ⊥ = λ none. nonzero (rest data_is) _ beyond.1 (sym (code_is data_is) ∙ none) in
      record {
        code = rw beyond.0 at (code_is data_is) ∙ sym (by_tail text at before is.formed);
        taken = no_line _ read never;
      }

-- the count of a head is a byte
pub count_small : {text : List ℕ} {at : ℕ} {head : Head} → HeadIs text at head → head.count < 256
count_small {text} {at} {head} is =
    rw is.count (ltb-true (count_at text at) 256 (both (eqb (get_or text at 0) colon) (ltb (count_at text at) 256) is.formed).1)

-- what an end record is at fault for
pub end_verdict : (sum size : ℕ) (twice : Bool) → verdict sum end_kind 0 0 size twice ≡ cond (not (eqb (sum % 256) 0)) 2 (cond twice 5 0)
unfolding verdict lawful
end_verdict sum size twice = rw (le-ltb size (0 + 0) (omega arith)) refl
