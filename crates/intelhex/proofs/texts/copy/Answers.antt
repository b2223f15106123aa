-- `copy` meets its contract: a cell that has its byte is one.
use Rattle.std.proofs.Common.{arith}
use Rattle.intelhex.proofs.ReadLaws.{taken_bytes}
use Rattle.intelhex.proofs.texts.copy.Goals as goal

pub overflow_cast-byte : goal.overflow_cast-byte
overflow_cast-byte c =
    let loop = c.loop-k in
    omega (arith, taken_bytes c.args.cells.now c.requires.2 loop.k (omega (arith, loop.invariant.same, c.requires.0)))
