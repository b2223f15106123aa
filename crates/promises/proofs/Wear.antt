-- Steps where every slot's cell has a good write for each of them: they all answer, and the writes of each cell are counted.
--   step_says                 what such a step answers
--   StepsCalm, steps_calm     what n of them answer, keep and ask of each slot's cell
--   fresh_lasts               a fresh chip lasts for n steps
use Prim.Native.Nat.{ℕ, zero, suc, ◌+◌, ◌*◌, ◌%◌, ◌^◌, ◌≤◌, ◌<◌}
use mathlib.Core.Path.{◌≡◌, refl, ap, ◌∙◌}
use mathlib.Core.Bool.{Bool, true, false, cond}
use native.Mathlib.Nat.{add-zero, zero-add, div-le_self}
use native.Mathlib.Omega.{arith}
use lib.Dec.{eqb}
use lib.IntN.{pos}
use lib.ListN.{length}
use Rattle.code.proofs.ChangeLaws.{step_nibble_small}
use Rattle.cells.specs.Chip.{Chip, life_at}
use Rattle.cells.specs.Log.{asked_of}
use Rattle.cells.proofs.Logs.{asked_none, asked_append, within_life}
use Rattle.counter.specs.declared.places.Places.{Places}
use Rattle.counter.specs.declared.layout.Layout.{Layout}
use Rattle.counter.specs.Layout.{slots}
use Rattle.counter.specs.Map.{map_in}
use Rattle.counter.specs.Verdict.{answer, outcome_of}
use Rattle.counter.specs.Doors.{last_count, open_run, step_run, open_of}
use Rattle.promises.specs.Runs.{steps_up_to, opened, cell_of, counting, writes_of, Fresh, Worn, Lasts}
use Rattle.counter.proofs.Ready.{pointers, inside_cell}
use Rattle.counter.proofs.Exact.{Exact}
use Rattle.counter.proofs.DoorAnswers.{good_says, open_is}
use Rattle.promises.proofs.DoorRuns.{open_laws, step_laws}
use Rattle.counter.proofs.NextStores.{changed_nibble}
use Rattle.promises.proofs.ExactSteps.{step_writes, StepCalm, step_calm}
use Rattle.promises.proofs.RunSteps.{steps_next, steps_within}
use Rattle.promises.proofs.WriteCounts.{writes_none, writes_step}
use Rattle.promises.proofs.FirstOpenings.{alive_fewer, OpenCalm, open_calm}
use Rattle.promises.proofs.BlankOpenings.{fresh_ready, fresh_alive, fresh_unwritten}

-- one write a copy
step_length : (n copy : ℕ) (pointer : ℕ → ℕ) (c : ℕ) → length (step_writes n copy pointer c) ≡ n
unfolding step_writes
step_length zero copy pointer c = refl
step_length (suc n) copy pointer c = ap suc (step_length n (copy + 1) pointer c)

pub step_says :
    {layout : Layout} {p : Places} {c : ℕ} {s : Chip} → StepCalm layout p c s
    → (outcome_of (step_run layout p s)).says ≡ answer 0 (c + 1) (pos 0) 0 layout.copies 0
step_says {layout} {p} {c} {s} calm = rw (good_says (step_run layout p s) calm.answers, calm.tried, calm.log, step_length)

pub record StepsCalm (n : ℕ) (layout : Layout) (p : Places) (c : ℕ) (s : Chip) : Type 0 where
  pub answers : (steps_up_to n layout p s).answer ≡ counting n layout c
  pub map : map_in layout p (steps_up_to n layout p s).after.cells ≡ map_in layout p s.cells
  pub tally :
      (j : ℕ) → j < slots layout
      → asked_of (pointers layout p s j) (steps_up_to n layout p s).log + writes_of c (j % 8) ≡ writes_of (c + n) (j % 8)

-- every slot's cell has so many good writes
abbrev pub LiveFor : ℕ → Layout → Places → Chip → Type 0
LiveFor n layout p s = (j : ℕ) → j < slots layout → n ≤ life_at s (pointers layout p s j)

-- one or none
one_most : (t : Bool) → cond t 1 0 ≤ 1
one_most true = omega arith
one_most false = omega arith

module _ {layout : Layout} {p : Places} where
  none_calm : (c : ℕ) (s : Chip) → StepsCalm 0 layout p c s
  unfolding steps_up_to counting
  none_calm c s = record { answers = refl; map = refl; tally = λ j l. rw (asked_none, zero-add, add-zero) }

  module _ (n : ℕ) {c : ℕ} {s : Chip} (calm : StepCalm layout p c s) (small : c + 1 < 2 ^ 32) where
    next_live : LiveFor (suc n) layout p s → LiveFor n layout p (step_run layout p s).after
    next_live live j l =
        let most = one_most (eqb (j % 8) (changed_nibble c)) in
        let h = live j l in
        let e = within_life (step_laws layout p s).within (pointers layout p s j) in
        rw calm.map (omega (arith, calm.tally j l))

    more_calm : StepsCalm n layout p (c + 1) (step_run layout p s).after → StepsCalm (suc n) layout p c s
    unfolding counting
    more_calm rest =
        let on = steps_next n layout p s calm.answers in
        record {
          answers = rw (on, rest.answers, step_says calm);
          map = rw on (rest.map ∙ calm.map);
          tally = λ j l.
              let later = rw calm.map at (rest.tally j l) in
              let sum : c + suc n ≡ c + 1 + n = omega arith in
              rw (on, sum, asked_append) (omega (arith, calm.tally j l, writes_step c small (j % 8)));
        }

pub steps_calm :
    (n : ℕ) {layout : Layout} {p : Places} {c : ℕ} {s : Chip} → 1 ≤ layout.copies → c + n ≤ last_count → Exact layout p c s
    → LiveFor n layout p s → StepsCalm n layout p c s
steps_calm zero {layout} {p} {c} {s} one fits exact live = none_calm c s
steps_calm (suc n) {layout} {p} {c} {s} one fits exact live =
    let small = step_nibble_small c (omega arith) in
    let calm = step_calm one (omega arith) exact (λ copy l. let h = live (8 * copy + changed_nibble c) (omega arith) in omega arith) in
    more_calm n calm (omega arith) (steps_calm n one (omega arith) calm.exact (next_live n calm (omega arith) live))

-- ## A fresh chip

-- a cell is written at most once a step
writes_most : (n k : ℕ) → writes_of n k ≤ n
unfolding writes_of
writes_most n k = let h = div-le_self n (16 ^ k) in omega arith

module _ {n : ℕ} {layout : Layout} {p : Places} {s : Chip} (fresh : Fresh n layout p s) where
  opening : OpenCalm layout p s
  opening = open_calm (alive_fewer (omega arith) (fresh_alive fresh))

  opens : (open_of layout p s).says ≡ answer 0 0 (pos 0) 0 (length (open_run layout p s).log) 0
  opens = rw (open_is layout p s, good_says (open_run layout p s) opening.answers, opening.tried)

  -- the opening takes one good write from each slot's cell, and leaves n
  abbrev slot_cell : ℕ → ℕ
  slot_cell j = pointers layout p (opened layout p s) j

  slot_lasting : (j : ℕ) → j < slots layout → n + 1 ≤ life_at s (slot_cell j)
  slot_lasting j l = fresh.lasting _ (inside_cell (fresh_ready fresh) (opening.exact.sound.inside j l))

  opened_life : (j : ℕ) → j < slots layout → life_at (opened layout p s) (slot_cell j) + 1 ≡ life_at s (slot_cell j)
  opened_life j l =
      let left = within_life (open_laws layout p s).within (slot_cell j) in
      let one = opening.asked (fresh_unwritten fresh) j l in
      let had = slot_lasting j l in
      omega arith

  opened_live : LiveFor n layout p (opened layout p s)
  opened_live j l = let had = slot_lasting j l in omega (arith, opened_life j l)

  module _ (one : 1 ≤ layout.copies) (few : n ≤ last_count) where
    steps : StepsCalm n layout p 0 (opened layout p s)
    steps = steps_calm n one (omega arith) opening.exact opened_live

    worn : (copy k : ℕ) → copy < layout.copies → k < 8 → Worn n layout p s copy k
    worn copy k l m =
        let nibble : (8 * copy + k) % 8 ≡ k = omega arith in
        let tally = rw (nibble, zero-add n) at (steps.tally (8 * copy + k) (omega arith)) in
        let none = writes_none k in
        let most = writes_most n k in
        let left = within_life (steps_within n layout p (opened layout p s)) (cell_of layout p s copy k) in
        let had = opened_life (8 * copy + k) (omega arith) in
        let lasting = opened_live (8 * copy + k) (omega arith) in
        record { first = opening.asked (fresh_unwritten fresh) (8 * copy + k) (omega arith); written = omega arith; life = omega arith }

    pub fresh_lasts : Lasts n layout p s
    fresh_lasts = record { opens = opens; answers = steps.answers; map = steps.map; worn = worn }
