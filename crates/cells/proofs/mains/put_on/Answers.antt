-- `put_on` meets its contract: the write that is asked is torn where no power is left, and else it is a put.
use Rattle.cells.proofs.Puts.{put_torn, put_whole}
use Rattle.cells.proofs.mains.put_on.Goals as goal
use Rattle.cells.proofs.mains.put_on.Goals.{then-mains-eq0+else-image-at, else-mains-eq0}

pub returns-then-image-at : goal.returns-then-image-at
returns-then-image-at c = put_torn _ _ c.if-mains-eq0.true c.if-image-at.true c.write.ensures

pub returns : goal.returns
returns c =
    put_whole _ _ (λ z. elim c.if-mains-eq0.branch [ then-mains-eq0+else-image-at w ↦ w.if-image-at.false | else-mains-eq0 w ↦ absurd (w.if-mains-eq0.false z) ])
    c.put.ensures
