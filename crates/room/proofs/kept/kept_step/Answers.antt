-- `kept::kept_step` meets its contract: what the door gave, and the ends behind it.
use mathlib.Core.Path.{ap, ◌∙◌}
use Rattle.counter.specs.Layout.{two}
use Rattle.room.specs.Kept.{kept, step_kept, kept_step_of}
use Rattle.room.proofs.kept.kept_step.Goals as goal

pub returns : goal.returns
unfolding kept_step_of
returns c =
    let gave = c.step-answer in
    ap (kept _) c.ends_behind.ensures ∙ ap (step_kept two _ _) gave.ensures
