-- What is known of a line with no fault, and of a text that is read: no line has a fault, and in the end every address has its byte.
use Rattle.std.proofs.Common.{◌≡◌, ℕ, zero, suc, ◌+◌, ◌*◌, ◌%◌, ◌<◌, ◌≤◌, Bool, true, false, cond, not, ◌&&◌, ◌||◌, eqb, ltb, List, [], ◌∷◌, length, get_or, take, drop, refl, ◌∙◌, true≢false, add-one, arith, ltb-false, ltb-true, eqb-true}
use borrow.Author.Tests.{eqb-false, not-false}
use lib.ListN.{length-replicate}
use lib.Seq.{length-sets}
use Rattle.intelhex.specs.Signs.{colon, value_of, byte_at, bytes_at}
use Rattle.intelhex.specs.Records.{end_kind}
use Rattle.intelhex.specs.Lines.{Line, lines_of}
use Rattle.intelhex.specs.Faults.{count_of, address_of, kind_of, data_of, sum_of, all_digits, colon_and_digits, whole_length, in_form}
use Rattle.intelhex.specs.Faults.{Memory, not_yet, some_taken, all_taken, fault_of, after}
use Rattle.intelhex.specs.Doors.{sized, at_end, read_lines, blank, read_of}
use Rattle.intelhex.proofs.LineLaws.{choose, both}
use Rattle.intelhex.proofs.Standard.{sized_bounds}
use Rattle.intelhex.proofs.RecordLaws.{Bytes, bytes_cons}

-- ---- a line with no fault

-- a test that would give a code, and what comes after it
pub no_code : (b : Bool) (code rest : ℕ) → cond b (suc code) rest ≡ 0 → (b ≡ false) × (rest ≡ 0)
no_code true code rest none = absurd (omega arith)
no_code false code rest none = (refl, none)

-- two tests that fail together fail each
pub neither : (a b : Bool) → (a || b) ≡ false → (a ≡ false) × (b ≡ false)
neither true b none = absurd (true≢false none)
neither false b none = (refl, none)

-- what a line with no fault is known for
abbrev pub Faultless : List ℕ → List ℕ → Type 0
Faultless cells signs = record {
  digits : colon_and_digits signs ≡ true;
  whole : length signs ≡ 11 + 2 * count_of signs;
  inside : address_of signs + count_of signs ≤ length cells;
  free : some_taken (take (count_of signs) (drop (address_of signs) cells)) ≡ false;
}

-- a line is at no fault only if none of the tests gives one
pub faultless : (m : Memory) (line : Line) → fault_of m line ≡ 0 → Faultless m.cells line.signs
unfolding fault_of in_form
faultless m line none =
    let signs = line.signs in
    let first = no_code (m.closed || not (in_form line)) 0 _ none in
    let second = no_code (not (eqb (sum_of signs % 256) 0)) 1 _ first.1 in
    let third = no_code (ltb end_kind (kind_of signs)) 2 _ second.1 in
    let fourth = no_code (ltb (length m.cells) (address_of signs + count_of signs)) 3 _ third.1 in
    let form = both line.ended _ (not-false (in_form line) (neither m.closed _ first.0).1) in
    let shape = both (colon_and_digits signs) _ form.1 in
    record {
      digits = shape.0;
      whole = eqb-true _ _ (both (whole_length signs) _ shape.1).0;
      inside = ltb-false _ _ fourth.0;
      free = (no_code _ 4 0 fourth.1).0;
    }

-- ---- the bytes of a line

-- each sign is a digit, so a pair of them is a byte
digit_small : (signs : List ℕ) (k : ℕ) → all_digits signs ≡ true → k < length signs → value_of (get_or signs k 0) < 16
unfolding all_digits
digit_small [] k digits inside = absurd (omega arith)
digit_small (sign ∷ signs) zero digits inside = ltb-true (value_of sign) 16 (both _ _ digits).0
digit_small (sign ∷ signs) (suc k) digits inside = digit_small signs k (both (ltb (value_of sign) 16) _ digits).1 (omega arith)

byte_small : (signs : List ℕ) (i : ℕ) → colon_and_digits signs ≡ true → 0 < i → i + 1 < length signs → byte_at signs i < 256
unfolding colon_and_digits byte_at
byte_small [] i digits behind inside = absurd (omega arith)
byte_small (sign ∷ signs) zero digits behind inside = absurd (omega arith)
byte_small (sign ∷ signs) (suc i) digits behind inside =
    let all : all_digits signs ≡ true = (both (eqb sign colon) _ digits).1 in
    rw add-one (omega (arith, digit_small signs i all (omega arith), digit_small signs (suc i) all (omega arith)))

-- and so many bytes are bytes
pub data_bytes : (signs : List ℕ) (i n : ℕ) → colon_and_digits signs ≡ true → 0 < i → i + 2 * n ≤ length signs → Bytes (bytes_at signs i n)
unfolding bytes_at
data_bytes signs i zero digits behind room = λ k inside. absurd (omega arith)
data_bytes signs i (suc n) digits behind room =
    bytes_cons (byte_at signs i) (bytes_at signs (i + 2) n) (byte_small signs i digits behind (omega arith))
    (data_bytes signs (i + 2) n digits (omega arith) (omega arith))

-- ---- a text that is read

-- what holds where every address has its byte, and before a line with no fault if after it, holds of lines that are read
module _ (P : List Line → Memory → List ℕ → Type 0) (end : (m : Memory) → all_taken m.cells ≡ true → P [] m m.cells)
    (step : (line : Line) (more : List Line) (m : Memory) (x : List ℕ) → fault_of m line ≡ 0 → P more (after m line) x → P (line ∷ more) m x) where
  read_lines_lem : (before : List ℕ) (done : ℕ) (lines : List Line) (m : Memory) → (read_lines before done lines m).answer.code ≡ 0
      → P lines m (read_lines before done lines m).left
  unfolding read_lines at_end
  read_lines_lem before done [] m fine =
      choose (m.closed && all_taken m.cells) (λ t. rw t (end m (both m.closed _ t).1)) (λ f. absurd (omega (arith, rw f at fine)))
  read_lines_lem before done (line ∷ more) m fine =
      choose (eqb (fault_of m line) 0)
      (λ t. rw t (step line more m _ (eqb-true (fault_of m line) 0 t) (read_lines_lem before (done + 1) more (after m line) (rw t at fine))))
      (λ f. absurd (eqb-false (fault_of m line) 0 f (rw f at fine)))

  -- and of a text that is read, into an image of a length that it may have
  pub read_text : (text before : List ℕ) → (read_of text before).answer.code ≡ 0
      → (41 ≤ length before) × (length before ≤ 4096) × P (lines_of text) (blank (length before)) (read_of text before).left
  unfolding read_of
  read_text text before fine =
      choose (sized (length before))
      (λ t.
      let (least, most) = sized_bounds (length before) t in
      rw t (least, most, read_lines_lem before 0 (lines_of text) (blank (length before)) (rw t at fine)))
      (λ f. absurd (omega (arith, rw f at fine)))

-- where every address has its byte the cells are bytes
pub taken_bytes : (cells : List ℕ) → all_taken cells ≡ true → Bytes cells
unfolding all_taken
taken_bytes [] taken k inside = absurd (omega arith)
taken_bytes (cell ∷ cells) taken zero inside = ltb-true cell not_yet (both _ _ taken).0
taken_bytes (cell ∷ cells) taken (suc k) inside = taken_bytes cells (both (ltb cell not_yet) _ taken).1 k (omega arith)

-- an image that is read is as long as before, its length is one that an image may have, and it is of bytes
pub read_bytes : (text before : List ℕ) → (read_of text before).answer.code ≡ 0
    → (length (read_of text before).left ≡ length before) × (41 ≤ length before) × (length before ≤ 4096) × Bytes (read_of text before).left
unfolding after
read_bytes text before fine =
    let parts = read_text (λ lines m left. (length left ≡ length m.cells) × Bytes left) (λ m taken. (refl, taken_bytes m.cells taken))
    (λ line lines m left none more. (more.0 ∙ length-sets m.cells (address_of line.signs) (data_of line.signs), more.1)) text before fine in
    (parts.2.0 ∙ length-replicate (length before) not_yet, parts.0, parts.1, parts.2.1)
