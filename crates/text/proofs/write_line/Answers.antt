-- `write_line` meets its contract: the four runs that it writes are the line.
use Rattle.std.proofs.Common.{arith}
use Rattle.text.specs.Text.{line}
use Rattle.text.proofs.Writing.{length_line, wrote_four}
use Rattle.text.proofs.write_line.Goals as goal

pub write_bytes-equals-requires : goal.write_bytes-equals-requires
write_bytes-equals-requires g c = omega (arith, rw length_line at c.requires)

pub write_byte-start-requires : goal.write_byte-start-requires
write_byte-start-requires g c = omega (arith, rw length_line at c.requires)

pub write-end-requires : goal.write-end-requires
write-end-requires g c = omega (arith, rw length_line at c.requires)

pub write_byte-requires : goal.write_byte-requires
write_byte-requires g c = omega (arith, rw length_line at c.requires)

pub returns : goal.returns
unfolding line
returns g c =
    wrote_four _ _ _ _ c.requires c.write_bytes-equals.ensures c.write_byte-start.ensures c.write-end.ensures c.write_byte.ensures
