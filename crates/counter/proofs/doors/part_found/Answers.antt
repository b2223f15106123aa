-- `doors::part_found` meets its contract.
use Rattle.std.proofs.Common.{sym, ◌∙◌}
use Rattle.counter.proofs.Standings.{guard_unfit, guard_unmarked}
use Rattle.counter.specs.Doors.{part_verdict}
use Rattle.counter.specs.Layout.{two}
use Rattle.counter.proofs.doors.part_found.Goals as goal

pub returns-in-Unfit : goal.returns-in-Unfit
unfolding part_verdict
returns-in-Unfit c = sym (guard_unfit two _ _ _ (sym c.standing_of.ensures ∙ c.in-Unfit.is))

pub returns-in-Unmarked : goal.returns-in-Unmarked
unfolding part_verdict
returns-in-Unmarked c = sym (guard_unmarked two _ _ _ (sym c.standing_of.ensures ∙ c.in-Unmarked.is))
