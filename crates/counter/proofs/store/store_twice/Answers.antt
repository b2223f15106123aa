-- `store::store_twice` meets its contract: what is stored first leaves the chip fit for the second store.
use Rattle.std.proofs.Common.{◌≡◌, sym, Err, arith, rules}
use Rattle.cells.proofs.Cuts.{left_says, said_as, said_view, said_enough}
use Rattle.counter.specs.Store.{store}
use Rattle.counter.proofs.Ready.{ready_placed}
use Rattle.counter.proofs.Fitted.{fitted_ready, ready_short}
use Rattle.counter.proofs.SoundPointers.{test_sound}
use Rattle.counter.proofs.Stores.{store_laws}
use Rattle.counter.proofs.Behind.{works_lost, works_stopped, works_done}
use Rattle.counter.proofs.StoreViews.{store_settled}
use Rattle.counter.proofs.StoreCosts.{store_few}
use Rattle.counter.proofs.store.store_twice.Goals as goal

pub returns-in_err-settled : goal.returns-in_err-settled
returns-in_err-settled c =
    let same : c.from_residual.result ≡ Err c.in_err-settled.field-0.0 = search rules in
    rw same (works_lost c.in_err-settled.ensures (store _ _ _))

pub returns-then-is_err : goal.returns-then-is_err
returns-then-is_err c = works_stopped c.in_ok-settled.ensures (store _ _ _) (sym c.if-is_err.ensures.value)

pub behind-left-requires : goal.behind-left-requires
behind-left-requires c = said_enough c.in_ok-settled.ensures

pub store_count-requires-2 : goal.store_count-requires-2
store_count-requires-2 c = store_settled _ _ _ c.requires.0 c.requires.1 _ (said_view c.in_ok-settled.ensures) (sym c.if-is_err.ensures.value)

pub returns-in_err-stepped : goal.returns-in_err-stepped
returns-in_err-stepped c =
    let same : c.from_residual-in_err-stepped.result ≡ Err c.in_err-stepped.field-0.0 = search rules in
    let logged = (store_laws _ _ _ _ (fitted_ready c.requires.0) (test_sound _ _ _ c.requires.1)).within.logged in
    let left = works_done c.in_ok-settled.ensures (store _ _ _) (sym c.if-is_err.ensures.value) logged in
    rw same (left_says left (said_as c.in_err-stepped.ensures c.behind-left.ensures.0 c.behind-left.ensures.1))

pub behind-requires : goal.behind-requires
behind-requires c =
    let first = c.in_ok-settled.ensures in
    let second = c.in_ok-stepped.ensures in
    let fit = store_settled _ _ _ c.requires.0 c.requires.1 _ (said_view first) (sym c.if-is_err.ensures.value) in
    let ready = fitted_ready c.requires.0 in
    let one = store_few _ _ _ _ c.requires.0 c.requires.1 (said_view first) in
    let other = store_few _ _ _ _ fit.0 fit.1 (said_view second) in
    (omega (arith, said_enough first, said_enough second, c.behind-left.ensures), omega (arith, one, other, ready_placed ready, ready_short ready))

pub returns : goal.returns
returns c =
    let logged = (store_laws _ _ _ _ (fitted_ready c.requires.0) (test_sound _ _ _ c.requires.1)).within.logged in
    let left = works_done c.in_ok-settled.ensures (store _ _ _) (sym c.if-is_err.ensures.value) logged in
    rw c.behind.ensures (left_says left (said_as c.in_ok-stepped.ensures c.behind-left.ensures.0 c.behind-left.ensures.1))
