-- The kept doors (document 02, P8): the plain doors and their trials, with the ends of the map handed through the calls.
use Rattle.std.specs.Prelude.{ℕ, Bool, cond, ◌||◌, List, ltb, eqb}
use Rattle.cells.specs.Chip.{Chip}
use Rattle.counter.specs.declared.ends.Ends.{Ends}
use Rattle.counter.specs.declared.layout.Layout.{Layout}
use Rattle.counter.specs.declared.places.Places.{Places}
use Rattle.counter.specs.declared.verdict.Answer.{Answer}
use Rattle.counter.specs.Ends.{ends_of}
use Rattle.counter.specs.Verdict.{Outcome}
use Rattle.counter.specs.Doors.{open_of, step_of}
use Rattle.counter.specs.Trials.{trial_open_of, trial_step_of}

-- what a kept door gives: the plain door's answer and chip, and the ends afterwards
pub record KeptOutcome : Type 0 where
  pub gives : Outcome
  pub ends : Ends

abbrev pub kept : Outcome → Ends → KeptOutcome
kept gives ends = record { gives = gives; ends = ends }

-- a pointer may have moved: a spare was tried, or the call ended with 9 or 11
unfoldable pub may_have_moved : Answer → Bool
may_have_moved says = ltb 0 says.tried || eqb says.code 9 || eqb says.code 11

-- the ends after a step that answered so and left such cells: worked out from the map again, or those before it
unfoldable pub ends_after : Layout → Places → Ends → Answer → List ℕ → Ends
ends_after layout p before says cells = cond (may_have_moved says) (ends_of layout p cells) before

-- an opening, whose ends are worked out from the map, and a step
abbrev pub open_kept : Layout → Places → Outcome → KeptOutcome
open_kept layout p gives = kept gives (ends_of layout p gives.leaves.cells)

abbrev pub step_kept : Layout → Places → Ends → Outcome → KeptOutcome
step_kept layout p before gives = kept gives (ends_after layout p before gives.says gives.leaves.cells)

-- the four doors
unfoldable pub kept_open_of : Layout → Places → Chip → KeptOutcome
kept_open_of layout p s = open_kept layout p (open_of layout p s)

unfoldable pub kept_step_of : Layout → Places → Ends → Chip → KeptOutcome
kept_step_of layout p before s = step_kept layout p before (step_of layout p s)

unfoldable pub kept_trial_open_of : Layout → Places → ℕ → ℕ → Chip → KeptOutcome
kept_trial_open_of layout p power torn s = open_kept layout p (trial_open_of layout p power torn s)

unfoldable pub kept_trial_step_of : Layout → Places → ℕ → ℕ → Ends → Chip → KeptOutcome
kept_trial_step_of layout p power torn before s = step_kept layout p before (trial_step_of layout p power torn s)
