-- `doors::begin` meets its contract.
use Rattle.std.proofs.Common.{pos, ap, ◌∙◌}
use Rattle.cells.specs.Chip.{chip}
use Rattle.counter.specs.declared.verdict.Answer.{Answer}
use Rattle.counter.specs.Verdict.{outcome, read_as}
use Rattle.counter.proofs.DoorViews.{cut_ending}
use Rattle.counter.proofs.doors.begin.Goals as goal

pub returns : goal.returns
returns c =
    let opened = c.open_first in
    ap (λ (a : Answer). outcome a (chip opened.new.image opened.new.lives)) c.finished_on.ensures
    ∙ cut_ending _ opened.ensures (read_as 0 (pos 0))
