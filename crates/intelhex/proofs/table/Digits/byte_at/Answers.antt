-- `byte_at` meets its contract: what its two digits count.
use Rattle.std.proofs.Common.{arith}
use Rattle.intelhex.specs.Signs.{byte_at}
use Rattle.intelhex.proofs.table.Digits.byte_at.Goals as goal

pub returns : goal.returns
unfolding byte_at
returns c =
    let high = c.value.ensures in
    let low = c.value-2.ensures in
    (rw (high.0, low.0), omega (arith, high.1, low.1))
