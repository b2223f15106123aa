-- `left::room_of` meets its contract: the ends leave the room that is counted.
use mathlib.Core.Path.{ap, ◌∙◌}
use Rattle.counter.specs.Layout.{two}
use Rattle.room.specs.Room.{left_of}
use Rattle.room.proofs.Rooms.{left_counted}
use Rattle.room.proofs.left.room_of.Goals as goal

pub returns : goal.returns
returns c = c.room_left.ensures ∙ ap left_of c.ends_of.ensures ∙ left_counted two _ _
