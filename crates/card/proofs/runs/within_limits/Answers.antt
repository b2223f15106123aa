-- `within_limits` meets its contract.
use borrow.Author.Tests.{le-leb, lt-leb}
use Rattle.card.specs.Answers.{limit_fault}
use Rattle.card.proofs.runs.within_limits.Goals as goal

pub returns-then-allowed-lt1 : goal.returns-then-allowed-lt1
unfolding limit_fault
returns-then-allowed-lt1 c = rw (lt-leb 1 _ c.if-allowed-lt1.true)

pub returns-then-allowed-gt1000000 : goal.returns-then-allowed-gt1000000
unfolding limit_fault
returns-then-allowed-gt1000000 c = rw (le-leb 1 _ c.if-allowed-lt1.false, lt-leb _ 1000000 c.if-allowed-gt1000000.true)

pub returns-then-runs-gt64 : goal.returns-then-runs-gt64
unfolding limit_fault
returns-then-runs-gt64 c = rw (le-leb 1 _ c.if-allowed-lt1.false, le-leb _ 1000000 c.if-allowed-gt1000000.false, lt-leb _ 64 c.if-runs-gt64.true)

pub returns : goal.returns
unfolding limit_fault
returns c = rw (le-leb 1 _ c.if-allowed-lt1.false, le-leb _ 1000000 c.if-allowed-gt1000000.false, le-leb _ 64 c.if-runs-gt64.false)
