-- `kept::ends_behind` meets its contract.
use mathlib.Core.Path.{sym, ◌∙◌}
use Rattle.room.specs.Kept.{ends_after}
use Rattle.room.proofs.kept.ends_behind.Goals as goal

pub returns-then-may_have_moved : goal.returns-then-may_have_moved
unfolding ends_after
returns-then-may_have_moved c = rw (sym c.may_have_moved.ensures ∙ c.if-may_have_moved.true) c.ends_of.ensures

pub returns : goal.returns
unfolding ends_after
returns c = rw (sym c.may_have_moved.ensures ∙ c.if-may_have_moved.false)
