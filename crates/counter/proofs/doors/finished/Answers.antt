-- `doors::finished` meets its contract.
use Rattle.std.proofs.Common.{ap}
use Rattle.counter.proofs.DoorViews.{ending_and}
use Rattle.counter.specs.Verdict.{answer_of, Verdict}
use Rattle.counter.proofs.doors.finished.Goals as goal

pub returns : goal.returns
returns c =
    let s = c.args in
    rw (c.answer_of.ensures, c.and.ensures) (ap (λ (v : Verdict). answer_of v s.stored.writes s.stored.tried) (ending_and s.verdict s.stored.work))
