-- `store::store_count` meets its contract. At each turn what is left of the store stands behind the writes asked and the spares tried
-- so far, few for each slot.
use Rattle.std.proofs.Common.{ℕ, ◌≡◌, ◌%◌, sym, refl, ap, ◌∙◌, Err, arith, rules}
use Rattle.code.specs.Codes.{code_of}
use Rattle.code.specs.Gray.{gray_of}
use Rattle.code.specs.Nibbles.{nibble_of}
use Rattle.cells.proofs.Cuts.{left_on, left_all, left_none, left_says, said_as, said_view, said_enough}
use Rattle.counter.specs.Store.{slot_code}
use Rattle.counter.proofs.Ready.{ready_placed}
use Rattle.counter.proofs.Fitted.{fitted_ready, ready_short}
use Rattle.counter.proofs.Behind.{stopped_not}
use Rattle.counter.proofs.StoreViews.{slot_settled, store_left_all, store_left_none, store_left_lost, store_left_done, store_left_stopped}
use Rattle.counter.proofs.StoreCosts.{slot_few}
use Rattle.counter.proofs.store.store_count.Goals as goal

-- the byte of a slot at a count, by the word, the nibble and the code that are worked out
code_right : (count slot word nibble code : ℕ) → word ≡ gray_of count → nibble ≡ nibble_of word (slot % 8) → code ≡ code_of nibble → code ≡ slot_code count slot
unfolding slot_code
code_right count slot word nibble code w n b = b ∙ ap code_of (n ∙ ap (λ w. nibble_of w (slot % 8)) w)

-- there are few slots
pub overflow_mul-slots : goal.overflow_mul-slots
overflow_mul-slots c = let ready = fitted_ready c.requires.0 in omega (arith, ready_placed ready, ready_short ready)

pub loop-slot-init : goal.loop-slot-init
loop-slot-init c =
    record {
      work = refl;
      tries = omega arith;
      cells_kept = refl;
      lives_kept = refl;
      good = c.requires.0;
      well = c.requires.1;
      rest = rw store_left_all left_all;
    }

pub returns-in_err-stored : goal.returns-in_err-stored
returns-in_err-stored c =
    let same : c.from_residual.result ≡ Err c.in_err-stored.field-0.0 = search rules in
    let code_here = code_right c.args.count c.loop-slot.slot _ _ _ c.gray_of-word.ensures c.nibble_of.ensures c.code_of-byte.ensures in
    rw same
    (left_says c.loop-slot.invariant.rest (store_left_lost _ _ _ _ _ c.loop-slot-test.true code_here (said_as c.in_err-stored.ensures c.behind-left.ensures.0 c.behind-left.ensures.1)))

pub behind-done-requires : goal.behind-done-requires
behind-done-requires c =
    let ready = fitted_ready c.requires.0 in
    let few = slot_few (fitted_ready c.loop-slot.invariant.good) _ _ (said_view c.in_ok-stored.ensures) in
    (omega (arith, said_enough c.in_ok-stored.ensures, c.loop-slot.invariant.rest.few, c.behind-left.ensures), omega (arith, few, c.loop-slot.invariant.tries, c.loop-slot-test.true, ready_placed ready, ready_short ready))

pub returns-then-is_err : goal.returns-then-is_err
returns-then-is_err c =
    let code_here = code_right c.args.count c.loop-slot.slot _ _ _ c.gray_of-word.ensures c.nibble_of.ensures c.code_of-byte.ensures in
    let told = said_as c.in_ok-stored.ensures c.behind-left.ensures.0 c.behind-left.ensures.1 in
    rw c.behind-done.ensures (left_says c.loop-slot.invariant.rest (store_left_stopped _ _ _ _ _ c.loop-slot-test.true code_here told (sym c.if-is_err.ensures.value)))

pub loop-slot-preserved : goal.loop-slot-preserved
loop-slot-preserved c =
    let loop = c.loop-slot in
    let code_here = code_right c.args.count loop.slot _ _ _ c.gray_of-word.ensures c.nibble_of.ensures c.code_of-byte.ensures in
    let said = said_as c.in_ok-stored.ensures c.behind-left.ensures.0 c.behind-left.ensures.1 in
    let done = sym c.if-is_err.ensures.value in
    let settled = slot_settled _ _ _ loop.invariant.good loop.invariant.well _ _ c.loop-slot-test.true (said_view said) done in
    let few = slot_few (fitted_ready loop.invariant.good) _ _ (said_view said) in
    rw c.behind-done.ensures
    record {
      work = stopped_not _ done;
      tries = omega (arith, loop.invariant.tries, few);
      cells_kept = c.store_slot.auto.image ∙ loop.invariant.cells_kept;
      lives_kept = c.store_slot.auto.lives ∙ loop.invariant.lives_kept;
      good = settled.0;
      well = settled.1;
      rest = left_on loop.invariant.rest (store_left_done _ _ _ _ _ c.loop-slot-test.true code_here said loop.invariant.good loop.invariant.well done);
    }

pub returns : goal.returns
returns c =
    let loop = c.loop-slot in
    rw loop.invariant.work (left_none loop.invariant.rest (store_left_none _ _ _ loop.slot _ (search rules)))
