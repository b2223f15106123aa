-- `store::mapped` meets its contract.
use Rattle.counter.specs.Store.{mapped}
use Rattle.counter.proofs.store.mapped.Goals as goal

pub returns-in-None : goal.returns-in-None
unfolding mapped
returns-in-None c = rw c.in-None.is

pub returns-in-Some : goal.returns-in-Some
unfolding mapped
returns-in-Some c = rw c.in-Some.is
