-- `store::settle` meets its contract: a store asks few writes, fewer than there is power for, and nothing where the codes are held.
use Rattle.std.proofs.Common.{sym, ap, arith}
use Rattle.cells.specs.Run.{Run, view}
use Rattle.counter.specs.Layout.{two}
use Rattle.counter.specs.Verdict.{Work}
use Rattle.counter.proofs.NextStores.{store_held}
use Rattle.counter.proofs.Behind.{works_ok, works_steady}
use Rattle.counter.proofs.StoreCosts.{store_cost}
use Rattle.counter.proofs.store.settle.Goals as goal

pub returns-then-exact : goal.returns-then-exact
returns-then-exact c =
    sym (ap (λ (r : Run Work). view r) (store_held two c.args.p c.args.count _ (c.requires.2 c.if-exact.true)))

pub unwrap-requires : goal.unwrap-requires
unwrap-requires c =
    let few = store_cost two c.args.p c.args.count _ c.requires.0 c.requires.1 in
    works_ok _ _ c.store_count.ensures (omega (arith, few, c.steady.ensures.0))

pub returns : goal.returns
returns c =
    let few = store_cost two c.args.p c.args.count _ c.requires.0 c.requires.1 in
    works_steady _ c.unwrap.ensures c.store_count.ensures (omega (arith, few, c.steady.ensures.0))
