-- What the loop of `soundness::in_order` keeps.
use Rattle.std.proofs.Common.{◌≡◌, true}
use Rattle.counter.specs.Slots.{kind_of, every}
use Rattle.counter.specs.Map.{pointer_of}
use Rattle.counter.specs.Spares.{gap_to, may_try}
use Rattle.counter.proofs.soundness.in_order.Given as goal

abbrev pub invariant-loop-slot : goal.invariant-loop-slot
invariant-loop-slot l =
    record {
      left : l.gap ≡ gap_to l.slot l.p (pointer_of l.map);
      all : every l.slot (λ k. may_try l.p (kind_of k) (gap_to k l.p (pointer_of l.map)) (pointer_of l.map k)) ≡ true;
    }
