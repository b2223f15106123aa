-- `doors::read` keeps its promise.
use Rattle.std.proofs.Common.{ap, ◌∙◌}
use Rattle.counter.specs.Verdict.{answer_of, Verdict}
use Rattle.counter.specs.Doors.{read_of}
use Rattle.counter.proofs.doors.read.Goals as goal

pub returns : goal.returns
unfolding read_of
returns c =
    let says = c.read_answer.ensures ∙ ap (λ (v : Verdict). answer_of v 0 0) c.verdict_of-found.ensures.0 in
    λ i. record { answer = says i; bits = c.bits_of.ensures i }
