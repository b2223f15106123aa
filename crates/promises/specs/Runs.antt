-- Runs: an opening, and steps after it on the same settings, nothing else touching the cells (condition 3). They are made
-- of the same work whose outcomes are `open_of` and `step_of`.
use Rattle.std.specs.Prelude.{ℕ, zero, suc, ◌+◌, ◌-◌, ◌*◌, ◌/◌, ◌^◌, ◌≤◌, ◌<◌, ◌≡◌, true, List, [], ◌∷◌, pos, length, Ok, Err}
use Rattle.cells.specs.Chip.{Chip, cell_at, life_at}
use Rattle.cells.specs.Run.{Run, Write, still, ◌then◌, ◌giving◌}
use Rattle.cells.specs.Log.{asked_in, asked_of}
use Rattle.counter.specs.declared.places.Places.{Places}
use Rattle.counter.specs.declared.verdict.Answer.{Answer}
use Rattle.counter.specs.declared.layout.Layout.{Layout}
use Rattle.counter.specs.Layout.{slots}
use Rattle.counter.specs.Places.{length_good, places_good, lives_good}
use Rattle.counter.specs.Map.{map_in, pointer_of}
use Rattle.counter.specs.Verdict.{answer, outcome_of, Verdict}
use Rattle.counter.specs.Doors.{open_run, step_run, open_of}

-- ## Runs

-- a step, and behind it the others if it was good; a refused step is the last
abbrev pub onward : Verdict → Run Verdict → Run (List Answer) → Run (List Answer)
onward (Ok (count, lag)) r rest = r then rest giving (outcome_of r).says ∷ rest.answer
onward (Err why) r rest = r giving (outcome_of r).says ∷ []

-- steps up to and including the first refused one, at most n: what each answered. As many were made as there are answers.
unfoldable pub steps_up_to : ℕ → Layout → Places → Chip → Run (List Answer)
steps_up_to zero layout p s = still [] s
steps_up_to (suc n) layout p s =
    let r = step_run layout p s in
    let rest = steps_up_to n layout p r.after in
    onward r.answer r rest

-- the chip as an opening leaves it, and the steps made on it
abbrev pub opened : Layout → Places → Chip → Chip
opened layout p s = (open_run layout p s).after

abbrev pub steps_after : ℕ → Layout → Places → Chip → Run (List Answer)
steps_after n layout p s = steps_up_to n layout p (opened layout p s)

-- ## Ample lives

-- an image with every cell at FF and at least n + 1 good writes in each, lent on good place settings
pub record Fresh (n : ℕ) (layout : Layout) (p : Places) (s : Chip) : Type 0 where
  pub lives : lives_good s ≡ true
  pub long : length_good layout (length s.cells) ≡ true
  pub places : places_good layout (length s.cells) p ≡ true
  pub blank : (a : ℕ) → a < length s.cells → cell_at s a ≡ 0xFF
  pub lasting : (a : ℕ) → a < length s.cells → n + 1 ≤ life_at s a

-- n good answers from count c on: each counts one more, with lag 0, one write a copy and no spare tried
unfoldable pub counting : ℕ → Layout → ℕ → List Answer
counting zero layout c = []
counting (suc n) layout c = answer 0 (c + 1) (pos 0) 0 layout.copies 0 ∷ counting n layout (c + 1)

-- the cell of nibble k in a copy, counted from 0, as the opening leaves it
abbrev pub cell_of : Layout → Places → Chip → ℕ → ℕ → ℕ
cell_of layout p s copy k = pointer_of (map_in layout p (opened layout p s).cells) (8 * copy + k)

-- how often it is written in the first n steps
unfoldable pub writes_of : ℕ → ℕ → ℕ
writes_of n k = n / 16 ^ k - n / 16 ^ (k + 1)

-- that cell has been written once by the opening, and then so often, and its life has fallen by both
pub record Worn (n : ℕ) (layout : Layout) (p : Places) (s : Chip) (copy k : ℕ) : Type 0 where
  pub first : asked_of (cell_of layout p s copy k) (open_run layout p s).log ≡ 1
  pub written : asked_of (cell_of layout p s copy k) (steps_after n layout p s).log ≡ writes_of n k
  pub life :
      life_at (steps_after n layout p s).after (cell_of layout p s copy k) + writes_of n k + 1
      ≡ life_at s (cell_of layout p s copy k)

-- the opening and every one of n steps answers, no spare is used, each pointer stays, and each nibble's cell is so worn
pub record Lasts (n : ℕ) (layout : Layout) (p : Places) (s : Chip) : Type 0 where
  pub opens : (open_of layout p s).says ≡ answer 0 0 (pos 0) 0 (length (open_run layout p s).log) 0
  pub answers : (steps_after n layout p s).answer ≡ counting n layout 0
  pub map : map_in layout p (steps_after n layout p s).after.cells ≡ map_in layout p (opened layout p s).cells
  pub worn : (copy k : ℕ) → copy < layout.copies → k < 8 → Worn n layout p s copy k

-- ## Any lives

-- data writes: those asked of area cells, worn ones included; map writes are left out
abbrev pub data_writes : Places → List Write → ℕ
data_writes p log = asked_in p.start p.end log

-- the area's cells
abbrev pub area_cells : Places → ℕ
area_cells p = p.end + 1 - p.start

-- what the data writes of n steps cannot exceed: one a copy and step, and the area's cells less one a slot
unfoldable pub data_bound : Layout → ℕ → Places → ℕ
data_bound layout n p = layout.copies * n + area_cells p - slots layout
