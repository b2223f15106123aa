-- `fill` meets its contract.
use native.Mathlib.Omega.{arith}
use Rattle.counter.specs.Layout.{two}
use Rattle.counter.specs.Doors.{read_of}
use Rattle.dumps.proofs.Rows.{next_read}
use Rattle.dumps.proofs.tray.fill.Goals as goal

pub loop-done-preserved : goal.loop-done-preserved
loop-done-preserved c =
    let s = c.args in
    next_read (read_of two s.p) s.each c.loop-done.done s.tray.now {answer = c.read_count-answer.result}
    c.read_count-answer.ensures s.counts.now s.codes.now c.loop-done.invariant (omega arith) (omega arith)
