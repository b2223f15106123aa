-- `write_bit` meets its contract: the line of a number of 32 bits is short enough.
use Rattle.std.proofs.Common.{arith}
use Rattle.look.proofs.Room.{bit_fits}
use Rattle.look.proofs.lines.write_bit.Goals as goal

pub write_line-requires : goal.write_line-requires
write_line-requires c = omega (arith, bit_fits c.args.bit c.args.count (omega arith))

pub returns : goal.returns
returns c = (c.write_line.ensures, omega (arith, bit_fits c.args.bit c.args.count (omega arith)))
