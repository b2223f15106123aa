-- `write_pair` meets its contract: the two digits, one after the other.
use Rattle.std.proofs.Common.{arith}
use Rattle.intelhex.specs.Signs.{two_digits}
use Rattle.text.proofs.Writing.{wrote_on}
use Rattle.intelhex.proofs.records.write_pair.Goals as goal

pub returns : goal.returns
unfolding two_digits
returns c =
    rw (← c.sign_of.ensures, ← c.sign_of-2.ensures)
    (wrote_on _ _ (omega (arith, c.write_byte-next.ensures.ends, c.write_byte.ensures.ends, c.requires)) c.write_byte-next.ensures c.write_byte.ensures)
