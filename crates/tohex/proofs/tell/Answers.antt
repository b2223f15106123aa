-- `tell` meets its contract: the door's text, or the line that is written over nothing.
use Rattle.std.proofs.Common.{refl}
use Rattle.intelhex.proofs.Told.{no_refusal}
use Rattle.tohex.proofs.Answers.{taken, unfit}
use Rattle.tohex.proofs.tell.Goals as goal

pub returns-in-Ok : goal.returns-in-Ok
returns-in-Ok c = record { text = taken _ _ c.requires c.in-Ok.ensures refl; refusal = tt }

pub returns-in-Err : goal.returns-in-Err
returns-in-Err c =
    let (wrong, kept, line) = unfit _ _ c.requires c.in-Err.ensures (no_refusal _) in
    record { text = tt; refusal = (wrong, rw line (rw kept at c.write_bytes-end.ensures)) }
