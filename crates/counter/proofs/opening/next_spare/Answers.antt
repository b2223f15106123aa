-- `opening::next_spare` meets its contract: the next address is the lowest Low pointer's neighbour, or the next High address.
use Rattle.std.proofs.Common.{arith}
use Rattle.counter.proofs.NextSpares.{next_low, next_high, met_none, far_none}
use Rattle.counter.proofs.opening.next_spare.Goals as goal

pub returns-then-high-low : goal.returns-then-high-low
returns-then-high-low c = met_none _ _ c.if-high-low.true

pub returns-in-Low : goal.returns-in-Low
returns-in-Low c = rw c.in-Low.is (next_low _ (omega arith))

pub returns-then-high-eq256 : goal.returns-then-high-eq256
returns-then-high-eq256 c = rw c.in-High.is (far_none _ c.if-high-eq256.true)

pub returns-else-high-eq256 : goal.returns-else-high-eq256
returns-else-high-eq256 c = let near = c.if-high-eq256.false in rw c.in-High.is (next_high _ (omega arith) (omega arith))
