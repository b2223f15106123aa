-- `kept::kept_open` meets its contract: what the door gave, and the ends behind it.
use mathlib.Core.Path.{ap, ◌∙◌}
use Rattle.counter.specs.Layout.{two}
use Rattle.room.specs.Kept.{kept, open_kept, kept_open_of}
use Rattle.room.proofs.kept.kept_open.Goals as goal

pub returns : goal.returns
unfolding kept_open_of
returns c =
    let gave = c.open-answer in
    ap (kept _) c.ends_of.ensures ∙ ap (open_kept two _) gave.ensures
