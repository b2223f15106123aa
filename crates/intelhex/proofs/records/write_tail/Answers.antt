-- `write_tail` meets its contract: behind the two digits there is room for the line feed.
use Rattle.std.proofs.Common.{arith}
use Rattle.intelhex.specs.Signs.{two_digits}
use Rattle.intelhex.proofs.records.write_tail.Goals as goal

pub write_byte-requires : goal.write_byte-requires
unfolding two_digits
write_byte-requires c =
    omega (arith, c.write_pair-next.ensures.ends, c.requires)
