-- The four doors: each one's whole outcome, and its promise, the relation between what was lent, the answer
-- and what is left (document 01, "Storing, opening, stepping" and "What comes back"; document 02, P1).
use Rattle.std.specs.Prelude.{◌≡◌, ℕ, ◌+◌, ◌-◌, cond, ◌&&◌, List, length, take, drop, ℤ, pos, ◌==◌, nat_le, Ok, Err}
use Rattle.cells.specs.Chip.{Chip}
use Rattle.cells.specs.Run.{Run, still}
use Rattle.counter.specs.declared.doors.Part.{Part}
use Rattle.counter.specs.declared.doors.ReadAnswer.{ReadAnswer}
use Rattle.counter.specs.declared.places.Places.{Places}
use Rattle.counter.specs.declared.verdict.Answer.{Answer}
use Rattle.counter.specs.declared.verdict.Refusal.TheVariants.{BadLength, BadPlaces, UnsoundMap, BadCopy, LastCount}
use Rattle.counter.specs.Layout.{Layout, two, copy_cells}
use Rattle.counter.specs.Places.{length_good, places_good, lives_good}
use Rattle.counter.specs.Map.{map_in, marked, pointer_of, sound, part_at}
use Rattle.counter.specs.Verdict.{Outcome, outcome, outcome_of, refusal_of, answer_of, on_good, provided, ◌ending_in◌, ◌and_then◌, Verdict, read_as}
use Rattle.counter.specs.Reading.{unless, guarded, examine, verdict_of}
use Rattle.counter.specs.Mended.{bits_of}
use Rattle.counter.specs.Store.{store}
use Rattle.counter.specs.Opening.{first_opening}

-- the last count of 32 bits
abbrev pub last_count : ℕ
last_count = 4294967295

-- what a chip lent with its lives reads as
unfoldable pub chip_verdict : Layout → Places → Chip → Verdict
chip_verdict layout p s = unless (lives_good s) BadLength (verdict_of layout p s.cells)

-- Open, both mark bytes right: read c, store c.
abbrev pub reopening : Layout → Places → Chip → Run Verdict
reopening layout p s = on_good (examine layout p s.cells) (λ c lag. store layout p c s ending_in read_as c lag) s

-- Open, else: a first opening, whose count is 0.
abbrev pub beginning : Layout → Places → Chip → Run Verdict
beginning layout p s = first_opening layout p s ending_in read_as 0 (pos 0)

-- Open: refusals 1 and 2; otherwise the mark decides.
unfoldable pub open_run : Layout → Places → Chip → Run Verdict
open_run layout p s =
    let first = beginning layout p s in
    let again = reopening layout p s in
    provided (lives_good s) BadLength s
    (provided (length_good layout (length s.cells)) BadLength s
    (provided (places_good layout (length s.cells) p) BadPlaces s
    (cond (marked (map_in layout p s.cells)) again first)))

-- Step, from a count c with a lag that was read: store c, then store c + 1.
abbrev pub stepping : Layout → Places → ℕ → ℤ → Chip → Run Verdict
stepping layout p c lag s = (store layout p c s and_then store layout p (c + 1)) ending_in read_as (c + 1) lag

-- Step: read c, and go on from it unless it is the last count.
unfoldable pub step_run : Layout → Places → Chip → Run Verdict
step_run layout p s =
    on_good (chip_verdict layout p s)
    (λ c lag.
    let stepped = stepping layout p c lag s in
    cond (c == last_count) (still (Err LastCount) s) stepped)
    s

-- the outcomes of opening and stepping, and the answer of reading, which writes nothing
unfoldable pub open_of : Layout → Places → Chip → Outcome
open_of layout p s = outcome_of (open_run layout p s)

unfoldable pub step_of : Layout → Places → Chip → Outcome
step_of layout p s = outcome_of (step_run layout p s)

unfoldable pub read_of : Layout → Places → List ℕ → Answer
read_of layout p cells = answer_of (verdict_of layout p cells) 0 0

-- what read gives: its answer, and the counts of mended bits
abbrev pub read_answer_of : Layout → Places → List ℕ → ReadAnswer
read_answer_of layout p cells = record { answer = read_of layout p cells; bits = bits_of layout p cells }

-- Map part: its code, and where in the image the part starts and how long it is.
abbrev pub part : ℕ → ℕ → ℕ → Part
part code start size = record { code = code; start = start; size = size }

-- the tests of map part, in the order of the table; what the data read as is not among them
unfoldable pub part_verdict : Layout → Places → List ℕ → ℕ → Verdict
part_verdict layout p cells copy =
    guarded layout p cells
    (unless (sound layout p (pointer_of (map_in layout p cells))) UnsoundMap
    (unless (nat_le 1 copy && nat_le copy layout.copies) BadCopy
    (read_as 0 (pos 0))))

-- the eleven cells of a copy, or, on a refusal, an empty part
abbrev pub part_on : Verdict → Layout → Places → ℕ → Part
part_on (Ok (count, lag)) layout p copy = part 0 (p.map + part_at layout (copy - 1)) (copy_cells layout)
part_on (Err why) layout p copy = part (refusal_of why 0 0).code 0 0

unfoldable pub map_part_of : Layout → Places → List ℕ → ℕ → Part
map_part_of layout p cells copy = part_on (part_verdict layout p cells copy) layout p copy

-- The promises, at two copies.

-- of open, with the chip as lent, the answer and the chip as left
abbrev pub Opens : Places → Chip → Answer → Chip → Type 0
Opens p s says leaves = outcome says leaves ≡ open_of two p s

-- of step
abbrev pub Steps : Places → Chip → Answer → Chip → Type 0
Steps p s says leaves = outcome says leaves ≡ step_of two p s

-- of read
abbrev pub Reads : Places → List ℕ → ReadAnswer → Type 0
Reads p cells says = says ≡ read_answer_of two p cells

-- of map part: the lent number is the code, and the part returned is that part of the image itself; a place
-- is an allocation and an offset in it
pub record HandsBack (place : ℕ → Type 0) (p : Places) (cells : List ℕ) (copy code : ℕ) (given : List ℕ) : Type 0 where
  pub says : code ≡ (map_part_of two p cells copy).code
  pub holds : given ≡ take (map_part_of two p cells copy).size (drop (map_part_of two p cells copy).start cells)
  pub points : place (map_part_of two p cells copy).start
