-- `store::move_behind` meets its contract: a move asks few writes, fewer than there is power for.
use Rattle.std.proofs.Common.{ap, arith}
use Rattle.cells.specs.Run.{plus}
use Rattle.counter.proofs.Fitted.{fitted_ready}
use Rattle.counter.proofs.Behind.{works_ok, works_steady}
use Rattle.counter.proofs.StoreCosts.{move_cost, move_few}
use Rattle.counter.proofs.store.move_behind.Goals as goal

pub unwrap-moved-requires : goal.unwrap-moved-requires
unwrap-moved-requires c =
    let few = move_cost (fitted_ready c.requires.0) c.args.slot c.args.byte in
    works_ok _ _ c.move_slot.ensures (omega (arith, few.asks, c.steady.ensures.0))

pub behind-requires : goal.behind-requires
behind-requires c =
    let few = move_cost (fitted_ready c.requires.0) c.args.slot c.args.byte in
    let least = move_few (fitted_ready c.requires.0) _ _ (works_steady _ c.unwrap-moved.ensures c.move_slot.ensures (omega (arith, few.asks, c.steady.ensures.0))) in
    (omega (arith, least, c.requires.3), omega (arith, least))

pub returns : goal.returns
returns c =
    let few = move_cost (fitted_ready c.requires.0) c.args.slot c.args.byte in
    rw c.behind.ensures (ap (plus c.args.writes 0) (works_steady _ c.unwrap-moved.ensures c.move_slot.ensures (omega (arith, few.asks, c.steady.ensures.0))))
