-- `store::store_pair` meets its contract: the first slot, stored where its cell is or moved, leaves the chip fit for the second.
use Rattle.std.proofs.Common.{◌≡◌, ◌+◌, true, false, sym, refl, ◌∙◌, zero-add, arith}
use Rattle.cells.specs.Chip.{chip}
use Rattle.cells.specs.Run.{seen, view}
use Rattle.cells.proofs.Puts.{put_few}
use Rattle.std.specs.Result.{is_err}
use Rattle.counter.specs.Verdict.{complete}
use Rattle.counter.specs.Layout.{two}
use Rattle.counter.specs.Map.{sound}
use Rattle.counter.specs.Store.{store_slot}
use Rattle.counter.specs.Inside.{fitted}
use Rattle.counter.proofs.SoundPointers.{test_sound}
use Rattle.counter.proofs.Ready.{pointers, inside_cell}
use Rattle.counter.proofs.Fitted.{fitted_ready}
use Rattle.counter.proofs.Behind.{behind_done, said_stopped}
use Rattle.counter.proofs.StoreViews.{slot_put, slot_still, slot_moved, slot_next}
use Rattle.counter.proofs.StoreCosts.{slot_few}
use Rattle.counter.proofs.store.store_pair.Goals as goal

pub cells_of-cells-requires : goal.cells_of-cells-requires
cells_of-cells-requires c = ((fitted_ready c.requires.0).good, c.requires.2)

pub put-taken-requires : goal.put-taken-requires
put-taken-requires c =
    let ready = fitted_ready c.requires.0 in
    (rw c.cells_of-cells.ensures.0 (inside_cell ready ((test_sound two _ _ c.requires.1).inside _ (omega arith))), ready.paired)

-- ## The put holds

pub store_at-requires : goal.store_at-requires
store_at-requires c =
    let stored : let put = c.put-taken in
    seen complete put.result.writes 0 (chip put.new.image put.new.lives) ≡ view (store_slot two c.args.p c.args.nibble c.args.byte (chip c.args.image.now c.args.lives.now)) =
    sym (slot_put two _ _ _ _ c.cells_of-cells.ensures.0 c.put-taken.ensures c.if-taken.true) in
    let next_fit : let p = c.args.p in
    let t = chip c.put-taken.new.image c.put-taken.new.lives in
    (fitted two p t ≡ true) × (sound two p (pointers two p t) ≡ true) × (c.cells_of-cells.result.other ≡ pointers two p t (8 + c.args.nibble)) =
    slot_next two _ _ c.requires.0 c.requires.1 _ _ (omega arith) stored refl _ (omega arith) (λ e. omega arith) c.cells_of-cells.ensures.1 in
    let fit = next_fit in
    (fit.0, fit.1, omega arith, fit.2, omega (arith, put_few _ _ _ c.put-taken.ensures))

pub returns-then-taken : goal.returns-then-taken
returns-then-taken c =
    let stored : let put = c.put-taken in
    seen complete put.result.writes 0 (chip put.new.image put.new.lives) ≡ view (store_slot two c.args.p c.args.nibble c.args.byte (chip c.args.image.now c.args.lives.now)) =
    sym (slot_put two _ _ _ _ c.cells_of-cells.ensures.0 c.put-taken.ensures c.if-taken.true) in
    c.store_at.ensures ∙ behind_done (store_slot two _ _ _ _) (store_slot two _ _ _) stored refl refl

-- ## The put fails

pub move_behind-first-requires : goal.move_behind-first-requires
move_behind-first-requires c =
    let still_fit : let p = c.args.p in
    let t = chip c.put-taken.new.image c.put-taken.new.lives in
    (fitted two p t ≡ true) × (sound two p (pointers two p t) ≡ true) =
    slot_still two _ _ _ _ c.cells_of-cells.ensures.0 c.put-taken.ensures c.requires.0 c.requires.1 c.if-taken.false in
    let low = c.requires.2 in
    (still_fit.0, still_fit.1, omega arith, omega (arith, put_few _ _ _ c.put-taken.ensures))

pub returns-then-is_err : goal.returns-then-is_err
returns-then-is_err c =
    let moved_first : let move = c.move_behind-first in
    seen move.result.work move.result.writes move.result.tried (chip move.new.image move.new.lives) ≡ view (store_slot two c.args.p c.args.nibble c.args.byte (chip c.args.image.now c.args.lives.now)) =
    c.move_behind-first.ensures ∙ sym (slot_moved two _ _ _ _ c.cells_of-cells.ensures.0 c.put-taken.ensures c.if-taken.false refl) in
    sym (said_stopped (store_slot two _ _ _ _) (store_slot two _ _ _) moved_first (sym c.if-is_err.ensures.value))

pub store_at-second-requires : goal.store_at-second-requires
store_at-second-requires c =
    let moved_first : let move = c.move_behind-first in
    seen move.result.work move.result.writes move.result.tried (chip move.new.image move.new.lives) ≡ view (store_slot two c.args.p c.args.nibble c.args.byte (chip c.args.image.now c.args.lives.now)) =
    c.move_behind-first.ensures ∙ sym (slot_moved two _ _ _ _ c.cells_of-cells.ensures.0 c.put-taken.ensures c.if-taken.false refl) in
    let done : is_err c.move_behind-first.result.work ≡ false =
    sym c.if-is_err.ensures.value in
    let settled : let p = c.args.p in
    let t = chip c.move_behind-first.new.image c.move_behind-first.new.lives in
    (fitted two p t ≡ true) × (sound two p (pointers two p t) ≡ true) × (c.cells_of-cells.result.other ≡ pointers two p t (8 + c.args.nibble)) =
    slot_next two _ _ c.requires.0 c.requires.1 _ _ (omega arith) moved_first done _ (omega arith) (λ e. omega arith) c.cells_of-cells.ensures.1 in
    let fit = settled in
    let low = c.requires.2 in
    (fit.0, fit.1, omega arith, fit.2, omega arith)

pub behind-requires : goal.behind-requires
behind-requires c =
    let moved_first : let move = c.move_behind-first in
    seen move.result.work move.result.writes move.result.tried (chip move.new.image move.new.lives) ≡ view (store_slot two c.args.p c.args.nibble c.args.byte (chip c.args.image.now c.args.lives.now)) =
    c.move_behind-first.ensures ∙ sym (slot_moved two _ _ _ _ c.cells_of-cells.ensures.0 c.put-taken.ensures c.if-taken.false refl) in
    let settled = slot_next two _ _ c.requires.0 c.requires.1 _ _ (omega arith) moved_first (sym c.if-is_err.ensures.value) _ (omega arith) (λ e. omega arith) c.cells_of-cells.ensures.1 in
    let one = slot_few (fitted_ready c.requires.0) _ _ moved_first in
    let stored_second :
    let s = c in let call = c.store_at-second in
    seen call.result.work call.result.writes call.result.tried (chip call.new.image call.new.lives) ≡ view (store_slot two s.args.p (8 + s.args.nibble) s.args.byte (chip c.move_behind-first.new.image c.move_behind-first.new.lives)) =
    c.store_at-second.ensures ∙ simp zero-add in
    let other = slot_few (fitted_ready settled.0) _ _ stored_second in
    (omega (arith, one, other), omega (arith, one, other))

pub returns : goal.returns
returns c =
    let moved_first : let move = c.move_behind-first in
    seen move.result.work move.result.writes move.result.tried (chip move.new.image move.new.lives) ≡ view (store_slot two c.args.p c.args.nibble c.args.byte (chip c.args.image.now c.args.lives.now)) =
    c.move_behind-first.ensures ∙ sym (slot_moved two _ _ _ _ c.cells_of-cells.ensures.0 c.put-taken.ensures c.if-taken.false refl) in
    let done : is_err c.move_behind-first.result.work ≡ false =
    sym c.if-is_err.ensures.value in
    let settled : let p = c.args.p in
    let t = chip c.move_behind-first.new.image c.move_behind-first.new.lives in
    (fitted two p t ≡ true) × (sound two p (pointers two p t) ≡ true) × (c.cells_of-cells.result.other ≡ pointers two p t (8 + c.args.nibble)) =
    slot_next two _ _ c.requires.0 c.requires.1 _ _ (omega arith) moved_first done _ (omega arith) (λ e. omega arith) c.cells_of-cells.ensures.1 in
    let stored_second :
    let s = c in let call = c.store_at-second in
    seen call.result.work call.result.writes call.result.tried (chip call.new.image call.new.lives) ≡ view (store_slot two s.args.p (8 + s.args.nibble) s.args.byte (chip c.move_behind-first.new.image c.move_behind-first.new.lives)) =
    c.store_at-second.ensures ∙ simp zero-add in
    rw c.behind.ensures (behind_done (store_slot two _ _ _ _) (store_slot two _ _ _) moved_first done stored_second)
