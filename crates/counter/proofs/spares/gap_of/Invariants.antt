-- What the loop of `spares::gap_of` keeps.
use Rattle.std.proofs.Common.{◌≡◌}
use Rattle.counter.specs.Map.{pointer_of}
use Rattle.counter.specs.Spares.{gap_to}
use Rattle.counter.proofs.spares.gap_of.Given as goal

abbrev pub invariant-loop-slot : goal.invariant-loop-slot
invariant-loop-slot l = l.gap ≡ gap_to l.slot l.fn.p (pointer_of l.map)
