-- `soundness::in_order` meets its contract: each of the slots passed could be tried, and the gap is what they leave.
use Rattle.std.proofs.Common.{◌≡◌, sym, refl, ◌∙◌, arith}
use Rattle.counter.specs.Slots.{kind_of, every}
use Rattle.counter.specs.Map.{pointer_of}
use Rattle.counter.specs.Spares.{gap_to, may_try}
use Rattle.counter.proofs.RangeTests.{every_more, every_not}
use Rattle.counter.proofs.Gaps.{gap_more}
use Rattle.counter.proofs.soundness.in_order.Goals as goal

pub loop-slot-init : goal.loop-slot-init
unfolding every gap_to
loop-slot-init c = record { left = c.whole-gap.ensures; all = refl }

pub returns-then-not-may_try : goal.returns-then-not-may_try
returns-then-not-may_try c =
    let tested :
    let s = c.args in
    may_try s.p (kind_of c.loop-slot.slot) (gap_to c.loop-slot.slot s.p (pointer_of s.map.now)) (pointer_of s.map.now c.loop-slot.slot) ≡ c.may_try.result =
    rw (← c.loop-slot.invariant.left, ← c.pointer_of-a.ensures.0, ← c.of-kind.ensures) (sym c.may_try.ensures) in sym (every_not _ _ c.loop-slot.slot (omega arith) (tested ∙ c.if-not-may_try.true))

pub loop-slot-preserved : goal.loop-slot-preserved
loop-slot-preserved c =
    let tested :
    let s = c.args in
    may_try s.p (kind_of c.loop-slot.slot) (gap_to c.loop-slot.slot s.p (pointer_of s.map.now)) (pointer_of s.map.now c.loop-slot.slot) ≡ c.may_try.result =
    rw (← c.loop-slot.invariant.left, ← c.pointer_of-a.ensures.0, ← c.of-kind.ensures) (sym c.may_try.ensures) in
    let loop = c.loop-slot in
    record {
      left = c.narrowed-gap.ensures ∙ rw (c.of-kind.ensures, c.pointer_of-a.ensures.0, loop.invariant.left) (gap_more _ _ _);
      all = every_more loop.slot _ loop.invariant.all (tested ∙ c.if-not-may_try.false);
    }
