-- `doors::read_answer` meets its contract.
use Rattle.std.proofs.Common.{ℤ, ap, ◌∙◌, to_z-of_z, w64, rules}
use Rattle.counter.specs.Verdict.{answer_of, read_as}
use Rattle.counter.proofs.doors.read_answer.Goals as goal

pub returns-in-Ok : goal.returns-in-Ok
returns-in-Ok c =
    let read = c.in-Ok.read in
    rw c.in-Ok.is (c.answer_of.ensures ∙ ap (λ (z : ℤ). answer_of (read_as read.count z) 0 0) (to_z-of_z {w = w64} {z = read.lag} (search rules)))

pub returns-in-Err : goal.returns-in-Err
unfolding answer_of
returns-in-Err c = rw c.in-Err.is c.refusal_of.ensures
