-- Refusals leave everything as it was, but for 8 and 9 (document 01, the table of refusals; condition 1).
--   open_untouched, step_untouched
-- Read and map part take the cells and give an answer: that they write nothing is their type.
use mathlib.Core.Path.{◌≡◌, ap}
use Rattle.cells.specs.Chip.{Chip}
use Rattle.cells.specs.Run.{Run}
use Rattle.counter.specs.declared.places.Places.{Places}
use Rattle.counter.specs.declared.verdict.Answer.{Answer}
use Rattle.counter.specs.declared.layout.Layout.{Layout}
use Rattle.counter.specs.Verdict.{outcome_of, Verdict}
use Rattle.counter.specs.Doors.{open_run, step_run, open_of, step_of}
use Rattle.counter.proofs.DoorAnswers.{good_says, spareless_code, mapless_code, open_is, step_is}
use Rattle.promises.proofs.DoorRuns.{Comes, Comes.untouched, Comes.spareless, Comes.mapless, Comes.good, open_laws, step_laws}

-- a call that is neither good nor stopped while it stored
run_untouched :
    {layout : Layout} {p : Places} {s : Chip} (r : Run Verdict) → Comes layout p s r
    → ((outcome_of r).says.code ≡ 0 → ⊥) → ((outcome_of r).says.code ≡ 8 → ⊥) → ((outcome_of r).says.code ≡ 9 → ⊥)
    → r.after ≡ s
run_untouched r (untouched why reads e) zero eight nine = ap (λ (q : Run Verdict). q.after) e
run_untouched r (spareless k e) zero eight nine = absurd (eight (spareless_code r e))
run_untouched r (mapless a e) zero eight nine = absurd (nine (mapless_code r e))
run_untouched r (good c lag e small exact) zero eight nine = absurd (zero (ap (λ (a : Answer). a.code) (good_says r e)))

module _ (layout : Layout) (p : Places) (s : Chip) where
  pub open_untouched :
      ((open_of layout p s).says.code ≡ 0 → ⊥) → ((open_of layout p s).says.code ≡ 8 → ⊥)
      → ((open_of layout p s).says.code ≡ 9 → ⊥) → (open_of layout p s).leaves ≡ s
  open_untouched = rw (open_is layout p s) (run_untouched (open_run layout p s) (open_laws layout p s).comes)

  pub step_untouched :
      ((step_of layout p s).says.code ≡ 0 → ⊥) → ((step_of layout p s).says.code ≡ 8 → ⊥)
      → ((step_of layout p s).says.code ≡ 9 → ⊥) → (step_of layout p s).leaves ≡ s
  step_untouched = rw (step_is layout p s) (run_untouched (step_run layout p s) (step_laws layout p s).comes)
