-- What the loop of `opening::take_addresses` keeps. Its measure is the room between the two kinds.
use Rattle.std.proofs.Common.{◌-◌}
use Rattle.cells.specs.Chip.{chip}
use Rattle.counter.proofs.OpeningViews.{Taking}
use Rattle.counter.proofs.opening.take_addresses.Given as goal

abbrev pub invariant-loop-slot : goal.invariant-loop-slot
invariant-loop-slot l =
    Taking l.slots l.mains.power l.mains.torn l.initial.gap (chip l.initial.image l.initial.lives) (chip l.image l.lives) l.bytes l.end l.gap l.writes l.slot

abbrev pub decreases-loop-slot : goal.decreases-loop-slot
decreases-loop-slot l = l.gap.low - l.gap.high
