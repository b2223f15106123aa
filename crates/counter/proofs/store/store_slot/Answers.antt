-- `store::store_slot` meets its contract: the put at the slot's cell holds, or leaves the chip as it was for the move.
use Rattle.std.proofs.Common.{◌≡◌, Err, arith, rules}
use Rattle.cells.proofs.Cuts.{left_says, said_as, said_view, said_enough}
use Rattle.counter.proofs.SoundPointers.{test_sound}
use Rattle.counter.proofs.Ready.{ready_placed, inside_cell}
use Rattle.counter.proofs.Fitted.{fitted_ready, ready_short}
use Rattle.counter.proofs.StoreViews.{map_long, pointer_here, slot_still, slot_lost, slot_done, slot_moves}
use Rattle.counter.proofs.StoreCosts.{move_few}
use Rattle.counter.proofs.store.store_slot.Goals as goal

pub cells_for-requires : goal.cells_for-requires
cells_for-requires c = let ready = fitted_ready c.requires.0 in omega (arith, ready_placed ready, ready_short ready)

pub pointer_of-at-requires : goal.pointer_of-at-requires
pointer_of-at-requires c =
    let ready = fitted_ready c.requires.0 in
    let long = map_long _ _ _ c.requires.0 c.at.ensures c.cells_for.ensures in
    (omega (arith, c.requires.2, ready_placed ready, ready_short ready), omega (arith, long.0, c.requires.2))

pub put_on-requires : goal.put_on-requires
put_on-requires c =
    let ready = fitted_ready c.requires.0 in
    (rw (pointer_here _ _ _ c.requires.0 c.at.ensures c.cells_for.ensures _ c.pointer_of-at.ensures.0) (inside_cell ready ((test_sound _ _ _ c.requires.1).inside _ c.requires.2)), ready.paired)

pub returns-in_err-done : goal.returns-in_err-done
returns-in_err-done c =
    let same : c.from_residual.result ≡ Err c.in_err-done.field-0.0 = search rules in
    rw same (slot_lost _ _ _ _ _ (pointer_here _ _ _ c.requires.0 c.at.ensures c.cells_for.ensures _ c.pointer_of-at.ensures.0) c.in_err-done.ensures)

pub returns-then-done : goal.returns-then-done
returns-then-done c = slot_done _ _ _ _ _ (pointer_here _ _ _ c.requires.0 c.at.ensures c.cells_for.ensures _ c.pointer_of-at.ensures.0) c.in_ok-done.ensures c.if-done.true

pub behind-left-requires : goal.behind-left-requires
behind-left-requires c = said_enough c.in_ok-done.ensures

pub move_slot-requires : goal.move_slot-requires
move_slot-requires c =
    let fit = slot_still _ _ _ _ _ (pointer_here _ _ _ c.requires.0 c.at.ensures c.cells_for.ensures _ c.pointer_of-at.ensures.0) (said_view c.in_ok-done.ensures) c.requires.0 c.requires.1 c.if-done.false in
    (fit.0, fit.1, c.requires.2)

pub returns-in_err-moved : goal.returns-in_err-moved
returns-in_err-moved c =
    let same : c.from_residual-in_err-moved.result ≡ Err c.in_err-moved.field-0.0 = search rules in
    let left = slot_moves _ _ _ _ _ (pointer_here _ _ _ c.requires.0 c.at.ensures c.cells_for.ensures _ c.pointer_of-at.ensures.0) c.in_ok-done.ensures c.if-done.false in
    rw same (left_says left (said_as c.in_err-moved.ensures c.behind-left.ensures.0 c.behind-left.ensures.1))

pub behind-requires : goal.behind-requires
behind-requires c =
    let fit = slot_still _ _ _ _ _ (pointer_here _ _ _ c.requires.0 c.at.ensures c.cells_for.ensures _ c.pointer_of-at.ensures.0) (said_view c.in_ok-done.ensures) c.requires.0 c.requires.1 c.if-done.false in
    let few = move_few (fitted_ready fit.0) _ _ (said_view c.in_ok-moved.ensures) in
    (omega (arith, said_enough c.in_ok-done.ensures, said_enough c.in_ok-moved.ensures, c.behind-left.ensures), omega (arith, few))

pub returns : goal.returns
returns c =
    let left = slot_moves _ _ _ _ _ (pointer_here _ _ _ c.requires.0 c.at.ensures c.cells_for.ensures _ c.pointer_of-at.ensures.0) c.in_ok-done.ensures c.if-done.false in
    rw c.behind.ensures (left_says left (said_as c.in_ok-moved.ensures c.behind-left.ensures.0 c.behind-left.ensures.1))
