-- `put` meets its contract: the byte is there already, or one write is asked and the cell read back.
use mathlib.Core.Path.{ap, sym}
use Rattle.cells.specs.Run.{view}
use Rattle.cells.proofs.Puts.{put_there, put_back}
use Rattle.cells.proofs.put.put.Goals as goal

pub returns-then-image-at : goal.returns-then-image-at
returns-then-image-at c = sym (ap view (put_there _ _ _ c.if-image-at.true))

pub returns : goal.returns
returns c =
    put_back _ _ _ c.write.ensures c.if-image-at.false
