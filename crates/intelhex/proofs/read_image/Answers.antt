-- `read_image` meets its contract: an image of no allowed length is refused, and else the text is read.
use Rattle.std.proofs.Common.{sym, ◌∙◌}
use Rattle.intelhex.specs.Doors.{read_of}
use Rattle.intelhex.proofs.read_image.Goals as goal

pub returns-then-not-is_sized : goal.returns-then-not-is_sized
unfolding read_of
returns-then-not-is_sized c = rw (sym c.is_sized.ensures ∙ c.if-not-is_sized.true)

pub returns-then-n-le256 : goal.returns-then-n-le256
unfolding read_of
returns-then-n-le256 c =
    rw (sym c.is_sized.ensures ∙ c.if-not-is_sized.false) c.read_within.ensures

pub returns : goal.returns
unfolding read_of
returns c =
    rw (sym c.is_sized.ensures ∙ c.if-not-is_sized.false) c.read_within-2.ensures
