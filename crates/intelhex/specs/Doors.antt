-- What the two doors come to (document 02, P2): an answer, and what is left in the lent text or image.
use Rattle.std.specs.Prelude.{ℕ, ◌+◌, Bool, false, cond, ◌&&◌, List, [], ◌∷◌, ◌++◌, length, drop, replicate, ◌==◌, nat_le, nat_lt, Result, Ok, Err}
use Rattle.intelhex.specs.declared.Fault.{Fault}
use Rattle.intelhex.specs.declared.Fault.TheVariants.{Malformed, Checksum, Kind, PastEnd, Twice, Missing}
use Rattle.intelhex.specs.declared.Refusal.{Refusal}
use Rattle.intelhex.specs.declared.Refusal.TheVariants.{AtLine, BadLength, NoRoom}
use Rattle.intelhex.specs.declared.Answer.{Answer}
use Rattle.intelhex.specs.Records.{standard_text}
use Rattle.intelhex.specs.Lines.{Line, lines_of}
use Rattle.intelhex.specs.Faults.{Memory, memory, not_yet, all_taken, fault_of, after}

pub record Outcome : Type 0 where
  pub answer : Answer
  pub left : List ℕ

abbrev pub answer : ℕ → ℕ → ℕ → Answer
answer code line length = record { code = code; line = line; length = length }

-- the number of a fault
abbrev pub number_of : Fault → ℕ
number_of Malformed = 1
number_of Checksum = 2
number_of Kind = 3
number_of PastEnd = 4
number_of Twice = 5
number_of Missing = 6

-- a refusal in numbers, and so what writing and reading come to
abbrev pub refusal_told : Refusal → Answer
refusal_told (AtLine fault line) = answer (number_of fault) line 0
refusal_told BadLength = answer 7 0 0
refusal_told NoRoom = answer 8 0 0

abbrev pub written_told : Result ℕ Refusal → Answer
written_told (Ok length) = answer 0 0 length
written_told (Err refusal) = refusal_told refusal

abbrev pub read_told : Result (Unit {0}) Refusal → Answer
read_told (Ok done) = answer 0 0 0
read_told (Err refusal) = refusal_told refusal

abbrev pub outcome : Answer → List ℕ → Outcome
outcome answer left = record { answer = answer; left = left }

abbrev pub refused : ℕ → ℕ → List ℕ → Outcome
refused code line left = outcome (answer code line 0) left

abbrev pub good : ℕ → List ℕ → Outcome
good length left = outcome (answer 0 0 length) left

-- the lengths that an image may have
abbrev pub sized : ℕ → Bool
sized n = nat_le 41 n && nat_le n 4096

-- writing: refusals 7 and 8, or the standard text, and what stood past it
unfoldable pub write_of : List ℕ → List ℕ → Outcome
write_of image text =
    let standard = standard_text image in
    cond (sized (length image))
    (cond (nat_lt (length text) (length standard)) (refused 8 0 text) (good (length standard) (standard ++ drop (length standard) text)))
    (refused 7 0 text)

-- after the last line: every address and the end record were met, or refusal 6
unfoldable pub at_end : List ℕ → ℕ → Memory → Outcome
at_end image done m = cond (m.closed && all_taken m.cells) (good 0 m.cells) (refused 6 done image)

-- reading line by line; so many lines are done, and the first one at fault is refused
unfoldable pub read_lines : List ℕ → ℕ → List Line → Memory → Outcome
read_lines image done [] m = at_end image done m
read_lines image done (line ∷ lines) m =
    cond (fault_of m line == 0) (read_lines image (done + 1) lines (after m line)) (refused (fault_of m line) (done + 1) image)

-- no address has its byte yet
abbrev pub blank : ℕ → Memory
blank n = memory (replicate n not_yet) false

-- reading a text into an image
unfoldable pub read_of : List ℕ → List ℕ → Outcome
read_of text image = cond (sized (length image)) (read_lines image 0 (lines_of text) (blank (length image))) (refused 7 0 image)
