-- `doors::read_count` keeps its promise.
use Rattle.std.proofs.Common.{ap, ◌∙◌}
use Rattle.counter.specs.Verdict.{answer_of, Verdict}
use Rattle.counter.specs.Doors.{read_of}
use Rattle.counter.proofs.doors.read_count.Goals as goal

pub returns : goal.returns
unfolding read_of
returns c = c.read_answer.ensures ∙ ap (λ (v : Verdict). answer_of v 0 0) c.verdict_of.ensures.0
