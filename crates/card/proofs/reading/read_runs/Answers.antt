-- `read_runs` meets its contract.
use Rattle.card.proofs.RowLaws.{passed_none, passed_stuck, passed_more}
use Rattle.card.proofs.reading.read_runs.Goals as goal

pub loop-at-init : goal.loop-at-init
loop-at-init c = rw (c.requires.0, c.requires.1) (passed_none _)

pub returns-in_err-run : goal.returns-in_err-run
returns-in_err-run c = rw c.from_residual.ensures (passed_stuck c.loop-at.invariant c.loop-at-test.true c.in_err-run.ensures)

pub loop-at-preserved : goal.loop-at-preserved
loop-at-preserved c =
    rw (c.keep.ensures, c.keep-in-loop-at.ensures) (passed_more c.loop-at.invariant c.loop-at-test.true c.in_ok-run.ensures)
