-- Steps one after another.
--   steps_next                the first step, and the others if it was good
--   Made, steps_made          their answers and chips are those of `step_of`, one after another, up to the first refused one
--   steps_within              they write cells of map and area alone, and change nothing else
use Rattle.counter.specs.Verdict.{Verdict}
use Rattle.std.proofs.Common.{Ok, Err}
use Prim.Native.Nat.{ℕ, zero, suc, ◌≤◌}
use mathlib.Core.Path.{◌≡◌, refl, ap}
use mathlib.Core.List.{List, [], ◌∷◌}
use Rattle.cells.specs.Chip.{Chip}
use Rattle.cells.specs.Run.{Run}
use Rattle.cells.specs.Log.{Within}
use Rattle.cells.proofs.Logs.{within_still, within_giving, within_then}
use Rattle.counter.specs.declared.places.Places.{Places}
use Rattle.counter.specs.declared.verdict.Answer.{Answer}
use Rattle.counter.specs.declared.layout.Layout.{Layout}
use Rattle.counter.specs.Doors.{step_run, step_of}
use Rattle.promises.specs.Runs.{onward, steps_up_to}
use Rattle.counter.proofs.Ready.{Own}
use Rattle.counter.proofs.DoorAnswers.{good_says, refused_code}
use Rattle.promises.proofs.DoorRuns.{step_laws}

-- a step, and the others as it ended
pub steps_next :
    (n : ℕ) (layout : Layout) (p : Places) (s : Chip) {v : Verdict} → (step_run layout p s).answer ≡ v
    → steps_up_to (suc n) layout p s ≡ onward v (step_run layout p s) (steps_up_to n layout p (step_run layout p s).after)
unfolding steps_up_to
steps_next n layout p s e = rw e

-- at most n steps of `step_of` from one chip to another, with what each answered: each good but perhaps the last, and fewer than n only
-- where that one is a refusal
pub data Made (layout : Layout) (p : Places) : ℕ → Chip → List Answer → Chip → Type 0 where
  all : {s : Chip} → Made layout p 0 s [] s
  good :
      {n : ℕ} {s t : Chip} {rest : List Answer} → (step_of layout p s).says.code ≡ 0
      → Made layout p n (step_of layout p s).leaves rest t → Made layout p (suc n) s ((step_of layout p s).says ∷ rest) t
  refused : {n : ℕ} {s : Chip} → 1 ≤ (step_of layout p s).says.code → Made layout p (suc n) s ((step_of layout p s).says ∷ []) (step_of layout p s).leaves

pub steps_made : (n : ℕ) (layout : Layout) (p : Places) (s : Chip) → Made layout p n s (steps_up_to n layout p s).answer (steps_up_to n layout p s).after
unfolding steps_up_to step_of
steps_made zero layout p s = all
steps_made (suc n) layout p s = go r.answer refl (steps_made n layout p r.after)
  where
    r : Run Verdict
    r = step_run layout p s

    rest : Run (List Answer)
    rest = steps_up_to n layout p r.after

    go : (v : Verdict) → r.answer ≡ v → Made layout p n r.after rest.answer rest.after → Made layout p (suc n) s (onward v r rest).answer (onward v r rest).after
    go (Ok (c, lag)) e made = good (ap (λ (a : Answer). a.code) (good_says r e)) made
    go (Err why) e made = refused (refused_code r e)

-- a step and the others, or that step alone
onward_within :
    {Place : ℕ → Type 0} {s : Chip} (v : Verdict) {r : Run Verdict} {rest : Run (List Answer)}
    → Within Place s r → Within Place r.after rest → Within Place s (onward v r rest)
onward_within (Ok (c, lag)) w w' = within_giving _ (within_then w w')
onward_within (Err why) w w' = within_giving _ w

pub steps_within : (n : ℕ) (layout : Layout) (p : Places) (s : Chip) → Within (Own layout p) s (steps_up_to n layout p s)
unfolding steps_up_to
steps_within zero layout p s = within_still [] s
steps_within (suc n) layout p s = onward_within (step_run layout p s).answer (step_laws layout p s).within (steps_within n layout p (step_run layout p s).after)
