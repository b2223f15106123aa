-- Trials of the doors (document 02, P6).
--   trial_open_plain, trial_step_plain  with power for every write the trial is the plain call
--   trial_open_cut, trial_step_cut  with less it is the plain call's first writes and then a torn one
--   step_first, step_second   a step has stored the count that was read before it asks for anything of the next
--   open_lit, step_lit        11 is met at the trial doors alone (read: `read_lit`, counter/proofs/DoorAnswers.antt)
use Rattle.std.proofs.Common.{Ok}
use Prim.Native.Nat.{ℕ, ◌+◌, ◌-◌, ◌≤◌}
use mathlib.Core.Path.{◌≡◌, sym, ap, ◌∙◌}
use mathlib.Core.List.{List, ◌∷◌, ◌++◌}
use native.Mathlib.Omega.{arith}
use lib.IntN.{ℤ, pos}
use lib.ListN.{length}
use Rattle.cells.specs.Chip.{Chip, write_at}
use Rattle.cells.specs.Run.{Run, Write}
use Rattle.cells.specs.Log.{write_all}
use Rattle.cells.specs.Cut.{Cut.lost, cut, later}
use Rattle.cells.proofs.Cuts.{cut_first, cut_then}
use Rattle.cells.proofs.CutLogs.{cut_at}
use Rattle.counter.specs.declared.places.Places.{Places}
use Rattle.counter.specs.declared.verdict.Answer.{Answer}
use Rattle.counter.specs.declared.layout.Layout.{Layout}
use Rattle.counter.specs.Verdict.{outcome, outcome_of, answer, ◌ending_in◌, Verdict, Work, read_as, complete}
use Rattle.counter.specs.Store.{store}
use Rattle.counter.specs.Doors.{last_count, chip_verdict, open_run, step_run, open_of, step_of}
use Rattle.counter.specs.Trials.{cut_outcome, trial_open_of, trial_step_of}
use Rattle.counter.proofs.Stores.{store_laws, done_then}
use Rattle.counter.proofs.Behind.{starts_and}
use Rattle.counter.proofs.Exact.{Exact, exact_stored}
use Rattle.counter.proofs.GoodVerdicts.{verdict_good}
use Rattle.counter.proofs.DoorAnswers.{reading_code, good_says, spareless_code, mapless_code, open_is, step_is, trial_open_is, trial_step_is}
use Rattle.counter.proofs.DoorViews.{cut_steady, step_on}
use Rattle.promises.proofs.DoorRuns.{Comes, Comes.untouched, Comes.spareless, Comes.mapless, Comes.good, open_laws, step_laws}

module _ (layout : Layout) (p : Places) (power torn : ℕ) (s : Chip) where
  pub trial_open_plain : length (open_run layout p s).log ≤ power → trial_open_of layout p power torn s ≡ open_of layout p s
  trial_open_plain few = trial_open_is layout p s power torn ∙ cut_steady power torn (open_run layout p s) s few ∙ sym (open_is layout p s)

  pub trial_step_plain : length (step_run layout p s).log ≤ power → trial_step_of layout p power torn s ≡ step_of layout p s
  trial_step_plain few = trial_step_is layout p s power torn ∙ cut_steady power torn (step_run layout p s) s few ∙ sym (step_is layout p s)

  -- after the first writes of its log, and the torn one behind them
  pub trial_open_cut : (first : List Write) (w : Write) (rest : List Write) → (open_run layout p s).log ≡ first ++ (w ∷ rest)
      → trial_open_of layout p (length first) torn s ≡ outcome (answer 11 0 (pos 0) w.at 0 0) (write_at w.at torn (write_all first s))
  trial_open_cut first w rest e = trial_open_is layout p s (length first) torn ∙ ap cut_outcome (cut_at torn (open_run layout p s) s first w rest e)

  pub trial_step_cut : (first : List Write) (w : Write) (rest : List Write) → (step_run layout p s).log ≡ first ++ (w ∷ rest)
      → trial_step_of layout p (length first) torn s ≡ outcome (answer 11 0 (pos 0) w.at 0 0) (write_at w.at torn (write_all first s))
  trial_step_cut first w rest e = trial_step_is layout p s (length first) torn ∙ ap cut_outcome (cut_at torn (step_run layout p s) s first w rest e)

  module _ (c : ℕ) (lag : ℤ) (reads : chip_verdict layout p s ≡ read_as c lag) (below : c ≡ last_count → ⊥) where
    abbrev settling : Run Work
    settling = store layout p c s

    -- a step that is cut while it stores the count that was read asks for nothing of the next
    pub step_first : {a : ℕ} {t : Chip} → cut power torn settling s ≡ lost a t → cut power torn (step_run layout p s) s ≡ lost a t
    step_first e = cut_first power torn settling (step_run layout p s) s (rw (step_on layout p s c lag reads below) (starts_and settling (store layout p (c + 1)))) e

    -- one that was not cut there has the count in every slot, and what may be cut is the storing of the next
    pub step_second : settling.answer ≡ complete → length settling.log ≤ power
        → Exact layout p c settling.after
        × (cut power torn (step_run layout p s) s ≡ later (length settling.log) settling.tried (cut (power - length settling.log) torn (store layout p (c + 1) settling.after ending_in read_as (c + 1) lag) settling.after))
    step_second done few =
        let good = (verdict_good layout p s reads).1 in
        let laws = store_laws layout p c s good.ready good.sound in (
          exact_stored good.ready c good.marks good.sound done,
          rw (step_on layout p s c lag reads below, done_then settling (store layout p (c + 1)) done)
              (cut_then power torn settling s (store layout p (c + 1) settling.after ending_in read_as (c + 1) lag) few laws.within.logged),
        )

-- ## 11 is met at the trial doors alone

run_lit : {layout : Layout} {p : Places} {s : Chip} (r : Run Verdict) → Comes layout p s r → (outcome_of r).says.code ≡ 11 → ⊥
run_lit r (untouched why reads e) h = reading_code r why reads (ap (λ (q : Run Verdict). q.answer) e) h
run_lit r (spareless k e) h = let code = spareless_code r e in omega arith
run_lit r (mapless a e) h = let code = mapless_code r e in omega arith
run_lit r (good c lag e small exact) h = let code = ap (λ (a : Answer). a.code) (good_says r e) in omega arith

module _ (layout : Layout) (p : Places) where
  pub open_lit : (s : Chip) → (open_of layout p s).says.code ≡ 11 → ⊥
  open_lit s = rw (open_is layout p s) (run_lit (open_run layout p s) (open_laws layout p s).comes)

  pub step_lit : (s : Chip) → (step_of layout p s).says.code ≡ 11 → ⊥
  step_lit s = rw (step_is layout p s) (run_lit (step_run layout p s) (step_laws layout p s).comes)
