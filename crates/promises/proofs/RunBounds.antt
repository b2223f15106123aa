-- The data writes of steps up to and including the first refused one, whatever the lives are.
--   Bounded, steps_bound      they are no more than one a copy and step, and the room
--   run_bound                 behind an opening that answered: no more than the bound of condition 3
use Rattle.counter.specs.Verdict.{Verdict, read_as}
use Rattle.std.proofs.Common.{Ok, Err}
use Prim.Native.Nat.{ℕ, zero, suc, ◌+◌, ◌*◌, ◌^◌, ◌≤◌, ◌<◌}
use mathlib.Core.Path.{◌≡◌, refl, sym, ap, ◌∙◌}
use native.Mathlib.Nat.{mul-suc}
use native.Mathlib.Decide.{ℕ_discrete}
use native.Mathlib.Omega.{arith}
use lib.IntN.{ℤ, pos}
use lib.ListN.{length}
use Rattle.cells.specs.Chip.{Chip}
use Rattle.cells.specs.Run.{Run}
use Rattle.cells.proofs.Logs.{asked_none, asked_append}
use Rattle.counter.specs.declared.places.Places.{Places}
use Rattle.counter.specs.declared.layout.Layout.{Layout}
use Rattle.counter.specs.Doors.{last_count, open_run, step_run}
use Rattle.promises.specs.Runs.{steps_up_to, steps_after, data_writes, data_bound}
use Rattle.counter.proofs.Moves.{room_of}
use Rattle.counter.proofs.Exact.{Exact, exact_verdict}
use Rattle.counter.proofs.GoodVerdicts.{not_good}
use Rattle.counter.proofs.DoorViews.{step_last}
use Rattle.promises.proofs.DoorRuns.{open_laws}
use Rattle.promises.proofs.TurnsAndCells.{run_exact, step_good}
use Rattle.promises.proofs.ExactSteps.{StepBound, step_bound}
use Rattle.promises.proofs.RunSteps.{steps_next}
use Rattle.promises.proofs.RoomLeft.{exact_room}

-- the data writes of at most n steps are no more than one a copy and step, and the room
abbrev pub Bounded : ℕ → Layout → Places → Chip → Type 0
Bounded n layout p s = data_writes p (steps_up_to n layout p s).log ≤ layout.copies * length (steps_up_to n layout p s).answer + room_of layout p s

module _ {layout : Layout} {p : Places} (one : 1 ≤ layout.copies) where
  -- the bound of a step holds at the last count too, where it is refused
  step_any : {c : ℕ} {s : Chip} → c < 2 ^ 32 → Exact layout p c s → StepBound layout p s
  step_any {c} {s} small exact = go (ℕ_discrete c last_count)
    where
      go : Dec (c ≡ last_count) → StepBound layout p s
      go (yes e) =
          let last = step_last layout p s c (pos 0) (exact_verdict exact one small) e in
          record {
            bounded = rw (last, asked_none) (omega arith);
            paid = λ d lag g. not_good (sym (ap (λ (r : Run Verdict). r.answer) last) ∙ g);
          }
      go (no d) = step_bound one (omega arith) exact

  pub steps_bound : (n : ℕ) {c : ℕ} {s : Chip} → c < 2 ^ 32 → Exact layout p c s → Bounded n layout p s
  unfolding steps_up_to
  steps_bound zero small exact = rw asked_none (omega arith)
  steps_bound (suc n) {c} {s} small exact = go (step_run layout p s).answer refl (λ d l x. steps_bound n {c = d} l x)
    where
      next : Chip
      next = (step_run layout p s).after

      go :
          (v : Verdict) → (step_run layout p s).answer ≡ v → ((d : ℕ) → d < 2 ^ 32 → Exact layout p d next → Bounded n layout p next)
          → Bounded (suc n) layout p s
      go (Err why) e rest = let h = (step_any small exact).bounded in rw (steps_next n layout p s e) (omega (arith, mul-suc layout.copies 0))
      go (Ok (d, lag)) e rest =
          let good = step_good layout p s e in
          let below = good.below in
          let h = (step_any small exact).paid d lag e in
          let h' = rest (good.count + 1) (omega arith) good.exact in
          rw (steps_next n layout p s e, asked_append) (omega (arith, mul-suc layout.copies (length (steps_up_to n layout p next).answer)))

pub run_bound :
    (n : ℕ) (layout : Layout) (p : Places) (s : Chip) {c : ℕ} {lag : ℤ} → 1 ≤ layout.copies → (open_run layout p s).answer ≡ read_as c lag
    → data_writes p (steps_after n layout p s).log ≤ data_bound layout (length (steps_after n layout p s).answer) p
unfolding data_bound
run_bound n layout p s one e =
    let exact = run_exact (open_run layout p s) (open_laws layout p s).comes e in
    let h = steps_bound one n exact.0 exact.1 in
    let h' = exact_room exact.1 in
    omega arith
