-- `store::store_at` meets its contract: the put at the slot's cell holds, or leaves the chip as it was for the move.
use Rattle.std.proofs.Common.{◌≡◌, true, sym, refl, ap, ◌∙◌, arith}
use Rattle.cells.specs.Chip.{chip}
use Rattle.cells.specs.Run.{plus}
use Rattle.cells.proofs.Views.{plus_plus}
use Rattle.cells.proofs.Puts.{put_few}
use Rattle.counter.specs.Layout.{two}
use Rattle.counter.specs.Inside.{fitted}
use Rattle.counter.specs.Map.{sound}
use Rattle.counter.proofs.SoundPointers.{test_sound}
use Rattle.counter.proofs.Ready.{pointers, inside_cell}
use Rattle.counter.proofs.Fitted.{fitted_ready}
use Rattle.counter.proofs.StoreViews.{slot_put, slot_still, slot_moved}
use Rattle.counter.proofs.store.store_at.Goals as goal

pub put-done-requires : goal.put-done-requires
put-done-requires c =
    let ready = fitted_ready c.requires.0 in
    (rw c.requires.3 (inside_cell ready ((test_sound two _ _ c.requires.1).inside _ c.requires.2)), ready.paired)

pub overflow_add-asked : goal.overflow_add-asked
overflow_add-asked c =
    omega (arith, put_few _ _ _ c.put-done.ensures, c.requires.4)

pub returns-then-done : goal.returns-then-done
returns-then-done c =
    ap (plus c.args.writes 0) (sym (slot_put two _ _ _ _ c.requires.3 c.put-done.ensures c.if-done.true))

pub move_behind-requires : goal.move_behind-requires
move_behind-requires c =
    let still_fit :
    let t = chip c.put-done.new.image c.put-done.new.lives in
    (fitted two c.args.p t ≡ true) × (sound two c.args.p (pointers two c.args.p t) ≡ true) =
    slot_still two _ _ _ _ c.requires.3 c.put-done.ensures c.requires.0 c.requires.1 c.if-done.false in
    (still_fit.0, still_fit.1, c.requires.2, omega (arith, put_few _ _ _ c.put-done.ensures, c.requires.4))

pub returns : goal.returns
returns c =
    c.move_behind.ensures
    ∙ sym (plus_plus c.args.writes 0 c.put-done.result.writes 0 _)
    ∙ ap (plus c.args.writes 0) (sym (slot_moved two _ _ _ _ c.requires.3 c.put-done.ensures c.if-done.false refl))
