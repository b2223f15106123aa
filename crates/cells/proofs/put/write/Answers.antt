-- `write` meets its contract: a cell with life left is set and loses one, a worn cell stays.
use borrow.Author.Tests.{lt-ltb, le-ltb}
use Rattle.cells.specs.Chip.{write_at}
use Rattle.cells.proofs.put.write.Goals as goal

pub returns-then-life-gt0 : goal.returns-then-life-gt0
unfolding write_at
returns-then-life-gt0 c = simp (lt-ltb _ _ c.if-life-gt0.true)

pub returns-else-life-gt0 : goal.returns-else-life-gt0
unfolding write_at
returns-else-life-gt0 c = simp (le-ltb _ _ c.if-life-gt0.false)
