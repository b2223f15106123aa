-- A text read line by line: what was read, and what is left from an index on.
use Rattle.std.specs.Prelude.{Result, Ok, Err}
use Rattle.std.proofs.Common.{◌≡◌, ℕ, zero, suc, ◌+◌, ◌<◌, ◌≤◌, Bool, true, false, cond, eqb, ltb, List, [], ◌∷◌, length, get_or, drop, sym, refl, ap, ◌∙◌, arith, ltb-false, ltb-true, eq-eqb, ne_eqb, eqb-true}
use borrow.Author.Tests.{eqb-false}
use lib.Seq.{sets, drop-nil}
use Rattle.intelhex.specs.declared.Answer.{Answer}
use Rattle.intelhex.specs.declared.Fault.{Fault}
use Rattle.intelhex.specs.declared.Refusal.{Refusal}
use Rattle.intelhex.specs.declared.Refusal.TheVariants.{AtLine, BadLength, NoRoom}
use Rattle.intelhex.specs.declared.lines.Line as one
use Rattle.intelhex.specs.Lines.{Line, lines_of}
use Rattle.intelhex.specs.Faults.{Memory, memory, count_of, address_of, data_of, all_taken, fault_of, after}
use Rattle.intelhex.specs.Doors.{answer, read_told, at_end, read_lines}
use Rattle.intelhex.specs.Inside.{fault_at, LineTaken, LineIs, TextIs}
use Rattle.intelhex.proofs.Told.{no_fault}
use Rattle.intelhex.proofs.LineLaws.{choose, Some, some_line}
use Rattle.intelhex.proofs.Bytes.{length_bytes}
use Rattle.intelhex.proofs.ReadLaws.{faultless, data_bytes}
use Rattle.intelhex.proofs.Taken.{free, none_free, free_sets}
use Rattle.intelhex.proofs.WholeLines.{one_more, fault_is, goes_on}

-- reading the text comes to reading what is left of it
pub record Under (text before cells : List ℕ) (at done : ℕ) (closed : Bool) : Type 0 where
  pub goes : (image : List ℕ) → read_lines image 0 (lines_of text) (memory before false) ≡ read_lines image done (lines_of (drop at text)) (memory cells closed)

pub begin : (text before : List ℕ) → Under text before before 0 0 false
begin text before = record { goes = λ image. refl }

pub tested : {text before cells : List ℕ} {at done : ℕ} {closed is : Bool} → closed ≡ is → Under text before cells at done closed
    → Under text before cells at done is
tested same under = rw same at under

-- from an index inside the text on there is a line
line_there : (text : List ℕ) (at : ℕ) → at < length text → Some (lines_of (drop at text))
line_there text at inside = rw (one_more text at inside) (some_line (get_or text at 0) (drop (at + 1) text))

-- a first line at fault
fault_first : (image cells : List ℕ) (done : ℕ) (closed : Bool) (first : Line) (more : List Line) {code : ℕ} → fault_of (memory cells closed) first ≡ code → (code ≡ 0 → ⊥)
    → read_lines image done (first ∷ more) (memory cells closed) ≡ record { answer = answer code (done + 1) 0; left = image }
unfolding read_lines
fault_first image cells done closed first more {code} fault other = rw (fault, ne_eqb code 0 other) refl

-- a refusal, and a text that is read
pub refusal : {text before after : List ℕ} {code line : ℕ} (says : Result (Unit {0}) Refusal) → read_told says ≡ answer code line 0 → (code ≡ 0 → ⊥)
    → ((image : List ℕ) → read_lines image 0 (lines_of text) (memory before false) ≡ record { answer = answer code line 0; left = image }) → TextIs text before says after
refusal (Ok done) same other reads = absurd (other (sym (ap (λ (a : Answer). a.code) same)))
refusal (Err why) same other reads = record { reads = λ image. rw same (sym (reads image)); taken = tt }

good : {text before after : List ℕ} (says : Result (Unit {0}) Refusal) → read_told says ≡ answer 0 0 0 → all_taken after ≡ true
    → ((image : List ℕ) → read_lines image 0 (lines_of text) (memory before false) ≡ record { answer = answer 0 0 0; left = after }) → TextIs text before says after
good (Ok done) same taken reads = record { reads = λ image. sym (reads image); taken = taken }
good (Err (AtLine fault line)) same taken reads = absurd (no_fault fault (ap (λ (a : Answer). a.code) same))
good (Err BadLength) same taken reads = absurd (omega (arith, ap (λ (a : Answer). a.code) same))
good (Err NoRoom) same taken reads = absurd (omega (arith, ap (λ (a : Answer). a.code) same))

-- past the text there is no line
over : (text : List ℕ) (at : ℕ) → length text ≤ at → lines_of (drop at text) ≡ []
unfolding lines_of
over [] at past = rw drop-nil refl
over (sign ∷ text) zero past = absurd (omega arith)
over (sign ∷ text) (suc at) past = over text at (omega arith)

module _ {text before cells : List ℕ} {at done : ℕ} where
  module _ (under : Under text before cells at done false) (inside : at < length text) where
    -- a line at fault
    pub line_refused : {code : ℕ} → fault_at text at cells ≡ code → (code ≡ 0 → ⊥)
        → (image : List ℕ) → read_lines image 0 (lines_of text) (memory before false) ≡ record { answer = answer code (done + 1) 0; left = image }
    line_refused fault other image =
        let (first, more, lines) = line_there text at inside in
        under.goes image ∙ rw lines (fault_first image cells done false first more (fault_is text at cells first more lines ∙ fault) other)

    module _ {line : one.Line} {left : List ℕ} (none : fault_at text at cells ≡ 0) (is : LineTaken text at cells line left) where
      -- a line without a fault, and the next one
      pub line_taken : (at < line.next) × Under text before left line.next (done + 1) line.closed
      unfolding read_lines
      line_taken =
          let (first, more, lines) = line_there text at inside in
          let (further, rest, count, leaves) = goes_on text at cells first more lines none in
          let fault : fault_of (memory cells false) first ≡ 0 = fault_is text at cells first more lines ∙ none in (
            omega (arith, further, is.next),
            record {
              goes = λ image. under.goes image ∙ rw (lines, fault, leaves, rest, is.next, is.closed, is.stored) refl;
            },
          )

      -- so many cells were filled
      pub line_filled : free left + line.filled ≡ free cells
      unfolding after
      line_filled =
          let (first, more, lines) = line_there text at inside in
          let (further, rest, count, leaves) = goes_on text at cells first more lines none in
          let signs = first.signs in
          let known = faultless (memory cells false) first (fault_is text at cells first more lines ∙ none) in
          let long = length_bytes signs 9 (count_of signs) in
          let each = data_bytes signs 9 (count_of signs) known.digits (omega arith) (omega (arith, known.whole)) in
          let stored : left ≡ sets cells (address_of signs) (data_of signs) = is.stored ∙ ap (λ (m : Memory). m.cells) (sym leaves) in
          rw (stored, is.filled, sym count ∙ sym long)
          (free_sets cells (address_of signs) (data_of signs) each (rw long known.inside) (rw long known.free))

    -- a line that the code has read
    pub line_read : {line : one.Line} {left : List ℕ} → LineIs text at cells (Ok line) left
        → (at < line.next) × Under text before left line.next (done + 1) line.closed × (free left + line.filled ≡ free cells)
    line_read is =
        let (on, next) = line_taken (sym is.code) is.taken in
        (on, next, line_filled (sym is.code) is.taken)

    -- or has refused
    pub line_wrong : {fault : Fault} {left : List ℕ} → LineIs text at cells (Err fault) left → TextIs text before (Err (AtLine fault (done + 1))) left
    line_wrong {fault} is = refusal _ refl (no_fault fault) (line_refused (sym is.code) (no_fault fault))

  -- a line behind the end record is malformed
  pub line_behind : Under text before cells at done true → at < length text
      → (image : List ℕ) → read_lines image 0 (lines_of text) (memory before false) ≡ record { answer = answer 1 (done + 1) 0; left = image }
  unfolding fault_of
  line_behind under inside image =
      let (first, more, lines) = line_there text at inside in
      under.goes image ∙ rw lines (fault_first image cells done true first more refl (λ none. absurd (omega (arith, none))))

  -- the text ends without its end record
  pub not_closed : (says : Result (Unit {0}) Refusal) → Under text before cells at done false → length text ≤ at → read_told says ≡ answer 6 done 0 → TextIs text before says cells
  unfolding read_lines at_end
  not_closed says under past same = refusal says same (λ none. absurd (omega (arith, none))) (λ image. under.goes image ∙ rw (over text at past) refl)

  -- or well, behind its end record: then a line more is malformed, and all cells have to be filled
  pub closed_well : (says : Result (Unit {0}) Refusal) (filled : ℕ) → Under text before cells at done true → filled + free cells ≡ length cells
      → read_told says ≡ cond (ltb at (length text)) (answer 1 (done + 1) 0) (cond (eqb filled (length cells)) (answer 0 0 0) (answer 6 done 0))
      → TextIs text before says cells
  unfolding read_lines at_end
  closed_well says filled under counted same =
      choose (ltb at (length text))
      (λ more. refusal says (rw more at same) (λ none. absurd (omega (arith, none))) (line_behind under (ltb-true at (length text) more)))
      (λ none.
      let past = over text at (ltb-false at (length text) none) in
      choose (eqb filled (length cells))
      (λ all.
      let taken : all_taken cells ≡ true = none_free cells ∙ eq-eqb (free cells) 0 (omega (arith, counted, eqb-true filled (length cells) all)) in
      good says (rw (none, all) at same) taken (λ image. under.goes image ∙ rw (past, taken) refl))
      (λ some.
      let lacking : all_taken cells ≡ false = none_free cells ∙ ne_eqb (free cells) 0 (λ zero. eqb-false filled (length cells) some (omega (arith, counted, zero))) in
      refusal says (rw (none, some) at same) (λ zero. absurd (omega (arith, zero))) (λ image. under.goes image ∙ rw (past, lacking) refl)))
