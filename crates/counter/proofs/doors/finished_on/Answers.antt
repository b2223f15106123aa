-- `doors::finished_on` meets its contract.
use Rattle.counter.proofs.doors.finished_on.Goals as goal

pub returns-in-Ok : goal.returns-in-Ok
returns-in-Ok c = rw c.in-Ok.is c.finished.ensures

pub returns-in-Err : goal.returns-in-Err
returns-in-Err c = rw c.in-Err.is c.refusal_of.ensures
