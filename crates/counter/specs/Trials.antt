-- Trials: an opening or a step under power for so many writes (document 02, P6). A cut call is cut out of the plain one.
use Rattle.std.specs.Prelude.{◌≡◌, ℕ}
use Rattle.cells.specs.Chip.{Chip}
use Rattle.cells.specs.Cut.{Cut, Cut.whole, Cut.lost, cut}
use Rattle.counter.specs.declared.places.Places.{Places}
use Rattle.counter.specs.declared.verdict.Answer.{Answer}
use Rattle.counter.specs.declared.verdict.Refusal.TheVariants.{PowerLost}
use Rattle.counter.specs.Layout.{Layout, two}
use Rattle.counter.specs.Verdict.{Outcome, outcome, refusal_of, answer_of, Verdict}
use Rattle.counter.specs.Doors.{open_run, step_run}

-- what a call gives that may be cut: its own answer, or refusal 11, with the cells as written so far
abbrev pub cut_outcome : Cut Verdict → Outcome
cut_outcome (whole v) = outcome (answer_of v.answer v.writes v.tried) v.after
cut_outcome (lost a t) = outcome (refusal_of (PowerLost a) 0 0) t

-- the outcomes of opening and stepping with power for so many writes, the write behind them leaving the torn byte
unfoldable pub trial_open_of : Layout → Places → ℕ → ℕ → Chip → Outcome
trial_open_of layout p power torn s = cut_outcome (cut power torn (open_run layout p s) s)

unfoldable pub trial_step_of : Layout → Places → ℕ → ℕ → Chip → Outcome
trial_step_of layout p power torn s = cut_outcome (cut power torn (step_run layout p s) s)

-- The promises, at two copies: of a trial of open, with the chip as lent, the answer and the chip as left.
abbrev pub TrialOpens : Places → ℕ → ℕ → Chip → Answer → Chip → Type 0
TrialOpens p power torn s says leaves = outcome says leaves ≡ trial_open_of two p power torn s

-- of a trial of step
abbrev pub TrialSteps : Places → ℕ → ℕ → Chip → Answer → Chip → Type 0
TrialSteps p power torn s says leaves = outcome says leaves ≡ trial_step_of two p power torn s
