-- `soundness::all_differ` meets its contract: none of the slots passed has the pointer of one before it.
use Rattle.std.proofs.Common.{◌≡◌, ℕ, ◌<◌, not, eqb, sym, refl, ◌∙◌, arith}
use Rattle.counter.specs.Slots.{every}
use Rattle.counter.proofs.RangeTests.{every_more, every_not, every_same}
use Rattle.counter.proofs.soundness.all_differ.Goals as goal
use Rattle.counter.proofs.soundness.all_differ.Invariants.{new}

-- the same of other values that are equal at each place
new_same : (f g : ℕ → ℕ) → ((k : ℕ) → k < 16 → f k ≡ g k) → every 16 (new f) ≡ every 16 (new g)
new_same f g same = every_same 16 _ _ (λ j l. every_same j _ _ (λ i m. λ t. not (eqb (same i (omega arith) t) (same j l t))))

pub loop-slot-init : goal.loop-slot-init
unfolding every
loop-slot-init c = refl

pub returns-then-not-is_new : goal.returns-then-not-is_new
returns-then-not-is_new c =
    sym
    (sym (new_same _ _ c.pointers_of-pointers.ensures)
    ∙ every_not 16 _ c.loop-slot.slot (omega arith) (sym c.is_new.ensures ∙ c.if-not-is_new.true))

pub loop-slot-preserved : goal.loop-slot-preserved
loop-slot-preserved c =
    let loop = c.loop-slot in
    every_more loop.slot _ loop.invariant (sym c.is_new.ensures ∙ c.if-not-is_new.false)

pub returns : goal.returns
returns c =
    let loop = c.loop-slot in
    let end : loop.slot ≡ 16 = omega arith in
    sym (sym (new_same _ _ c.pointers_of-pointers.ensures) ∙ rw end at loop.invariant)
