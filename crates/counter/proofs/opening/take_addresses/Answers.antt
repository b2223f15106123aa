-- `opening::take_addresses` meets its contract. Whenever the loop's test is reached, what is left of the taking stands behind the
-- addresses taken and the writes asked so far.
use Rattle.std.proofs.Common.{◌≡◌, ◌+◌, ◌<◌, ◌++◌, [], length, take, sym, ◌∙◌, refl, Err, arith, rules, length-set}
use Rattle.cells.proofs.Cuts.{left_all, said_as}
use Rattle.counter.specs.declared.map.Kind.{Kind}
use Rattle.counter.specs.declared.map.Kind.TheVariants.{High, Low}
use Rattle.counter.specs.Layout.{Layout, slots}
use Rattle.counter.specs.Slots.{kind_of}
use Rattle.counter.specs.Map.{offset_in, offset_of, pointer_bytes}
use Rattle.counter.specs.Inside.{pointer_row}
use Rattle.counter.proofs.Offsets.{bytes_some, low_bytes, high_bytes, offset_next, offset_inside, low_slot, high_slot, low_inside, high_inside}
use Rattle.counter.proofs.PointerRows.{laid_low, laid_high}
use Rattle.counter.proofs.Ready.{ready_placed}
use Rattle.counter.proofs.Fitted.{fitted_ready, ready_short}
use Rattle.counter.proofs.OpeningViews.{whole_fits, taking_paired, turn_inside, turn_reach, turn_less, turn_lost, turn_enough, turn_held, turn_passed, take_left_all, taking_done, taking_roomless}
use Rattle.counter.proofs.opening.take_addresses.Goals as goal
use Rattle.counter.proofs.opening.take_addresses.Goals.{in-Low, in_default-kind}

-- room is for three copies
abbrev three : Layout
three = record { copies = 3 }

pub whole-gap-requires : goal.whole-gap-requires
whole-gap-requires c = let ready = fitted_ready c.requires.0 in omega (arith, ready_placed ready, ready_short ready)

pub loop-slot-init : goal.loop-slot-init
unfolding pointer_row offset_of offset_in
loop-slot-init c =
    record {
      addresses = [];
      many = refl;
      row = refl;
      place = refl;
      most = omega arith;
      size = refl;
      cells_kept = refl;
      lives_kept = refl;
      fits = rw c.whole-gap.ensures (whole_fits (fitted_ready c.requires.0));
      rest = rw (take_left_all _ _ _) left_all;
    }

pub next_spare-requires : goal.next_spare-requires
next_spare-requires c =
    let fits = c.loop-slot.invariant.fits in
    (fits.reach, fits.ordered)

pub put_on-requires : goal.put_on-requires
put_on-requires c =
    (turn_inside c.loop-slot.invariant c.loop-slot-test.true (rw c.of-kind.ensures at c.in-Some.ensures), taking_paired c.loop-slot.invariant (fitted_ready c.requires.0).paired)

pub returns-in_err-done : goal.returns-in_err-done
returns-in_err-done c =
    let same : c.from_residual.result ≡ Err c.in_err-done.field-0.0 = search rules in
    let paired = taking_paired c.loop-slot.invariant (fitted_ready c.requires.0).paired in
    let said = said_as c.in_err-done.ensures c.behind.ensures.0 c.behind.ensures.1 in
    rw (same, ← c.whole-gap.ensures) (turn_lost c.loop-slot.invariant c.loop-slot-test.true (rw c.of-kind.ensures at c.in-Some.ensures) paired c.code_of.ensures said)

pub overflow_add-writes : goal.overflow_add-writes
overflow_add-writes c =
    let paired = taking_paired c.loop-slot.invariant (fitted_ready c.requires.0).paired in
    let said = said_as c.in_ok-done.ensures c.behind.ensures.0 c.behind.ensures.1 in
    omega (arith, turn_enough c.loop-slot.invariant c.loop-slot-test.true (rw c.of-kind.ensures at c.in-Some.ensures) paired c.code_of.ensures said, c.behind.ensures.2)

-- ## The bytes of the address

pub bounds-bytes-end : goal.bounds-bytes-end
bounds-bytes-end c =
    let slot_small : c.loop-slot.slot < slots three = omega (arith, c.loop-slot-test.true, c.requires.1) in
    let loop = c.loop-slot in
    omega (arith, loop.invariant.place, loop.invariant.size, offset_inside three loop.slot slot_small, bytes_some (kind_of loop.slot))

pub overflow_add-end : goal.overflow_add-end
overflow_add-end c =
    let slot_small : c.loop-slot.slot < slots three = omega (arith, c.loop-slot-test.true, c.requires.1) in
    omega (arith, c.loop-slot.invariant.place, offset_inside three _ slot_small)

pub overflow_cast-bytes-in-Low : goal.overflow_cast-bytes-in-Low
overflow_cast-bytes-in-Low c =
    let short = ready_short (fitted_ready c.requires.0) in
    omega (arith, turn_inside c.loop-slot.invariant c.loop-slot-test.true (rw c.of-kind.ensures at c.in-Some.ensures), c.loop-slot.invariant.cells_kept, short)

pub bounds-bytes-end-in-Low : goal.bounds-bytes-end-in-Low
bounds-bytes-end-in-Low c =
    let slot_small : c.loop-slot.slot < slots three = omega (arith, c.loop-slot-test.true, c.requires.1) in
    let loop = c.loop-slot in
    omega (arith, loop.invariant.place, loop.invariant.size, low_inside three loop.slot slot_small (low_slot _ (sym c.of-kind.ensures ∙ c.in-Low.is)))

pub overflow_add-end-in-Low : goal.overflow_add-end-in-Low
overflow_add-end-in-Low c =
    let slot_small : c.loop-slot.slot < slots three = omega (arith, c.loop-slot-test.true, c.requires.1) in
    omega (arith, c.loop-slot.invariant.place, offset_inside three _ slot_small)

-- ## The next turn

other_kind : (kind : Kind) → (kind ≡ Low → ⊥) → kind ≡ High
other_kind High h = refl
other_kind Low h = absurd (h refl)

pub loop-slot-smaller-then-done : goal.loop-slot-smaller-then-done
loop-slot-smaller-then-done c = turn_less c.loop-slot.invariant c.loop-slot-test.true (rw c.of-kind.ensures at c.in-Some.ensures)

pub loop-slot-preserved-then-done : goal.loop-slot-preserved-then-done
loop-slot-preserved-then-done c =
    let paired = taking_paired c.loop-slot.invariant (fitted_ready c.requires.0).paired in
    let said = said_as c.in_ok-done.ensures c.behind.ensures.0 c.behind.ensures.1 in
    let slot_small : c.loop-slot.slot < slots three = omega (arith, c.loop-slot-test.true, c.requires.1) in
    let laid : let loop = c.loop-slot in
    (length c.match-kind.bytes ≡ 33) × (c.match-kind.end + 2 ≡ offset_of (loop.slot + 1)) × (take c.match-kind.end c.match-kind.bytes ≡ take loop.end loop.bytes ++ pointer_bytes (kind_of loop.slot) c.in-Some.at) =
    let loop = c.loop-slot in
    let inv = loop.invariant in
    let next = offset_next loop.slot in
    elim c.match-kind.branch [
      | in-Low w ↦
          let low = low_slot _ (sym c.of-kind.ensures ∙ w.in-Low.is) in
          let fits = low_inside three loop.slot slot_small low in
          rw (w.bytes-is, w.end-is) (simp length-set inv.size, omega (arith, next, inv.place, low_bytes loop.slot low), laid_low loop.bytes loop.slot c.in-Some.at loop.end low (omega (arith, fits, inv.place, inv.size)))
      | in_default-kind w ↦
          let high = high_slot _ (sym c.of-kind.ensures ∙ other_kind _ w.in_default-kind.not-Low) in
          let fits = high_inside three loop.slot slot_small high in
          rw (w.bytes-is, w.end-is) (simp length-set inv.size, omega (arith, next, inv.place, high_bytes loop.slot high), laid_high loop.bytes loop.slot c.in-Some.at loop.end high (omega (arith, fits, inv.place, inv.size)) (turn_reach inv c.loop-slot-test.true (rw c.of-kind.ensures at c.in-Some.ensures) high))
    ] in
    turn_held c.loop-slot.invariant c.loop-slot-test.true (rw c.of-kind.ensures at c.in-Some.ensures) paired c.code_of.ensures said c.if-done.true laid.0 laid.1 laid.2

pub loop-slot-smaller : goal.loop-slot-smaller
loop-slot-smaller c = turn_less c.loop-slot.invariant c.loop-slot-test.true (rw c.of-kind.ensures at c.in-Some.ensures)

pub loop-slot-preserved : goal.loop-slot-preserved
loop-slot-preserved c =
    let paired = taking_paired c.loop-slot.invariant (fitted_ready c.requires.0).paired in
    let said = said_as c.in_ok-done.ensures c.behind.ensures.0 c.behind.ensures.1 in
    turn_passed c.loop-slot.invariant c.loop-slot-test.true (rw c.of-kind.ensures at c.in-Some.ensures) paired c.code_of.ensures said c.if-done.false

-- ## The end

pub returns-after-loop-slot : goal.returns-after-loop-slot
returns-after-loop-slot c = let s = c.args in taking_done s.layout s.p (rw c.whole-gap.ensures at c.loop-slot.invariant) c.loop-slot-test.false

pub returns-in_default : goal.returns-in_default
returns-in_default c = let s = c.args in taking_roomless s.layout s.p (rw c.whole-gap.ensures at c.loop-slot.invariant) c.loop-slot-test.true (rw c.of-kind.ensures at c.in_default.ensures)
