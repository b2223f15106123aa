-- `write_head` meets its contract: the colon and four bytes, one after another.
use Rattle.std.proofs.Common.{arith}
use Rattle.intelhex.specs.Signs.{in_digits, two_digits}
use Rattle.text.proofs.Writing.{wrote_on}
use Rattle.intelhex.proofs.records.write_head.Goals as goal

pub write_pair-third-requires : goal.write_pair-third-requires
unfolding two_digits
write_pair-third-requires c =
    omega (arith, c.write_pair-second.ensures.ends, c.write_byte-first.ensures.ends, c.requires)

pub write_pair-fourth-requires : goal.write_pair-fourth-requires
unfolding two_digits
write_pair-fourth-requires c =
    omega (arith, c.write_pair-third.ensures.ends, c.write_pair-second.ensures.ends, c.write_byte-first.ensures.ends, c.requires)

pub write_pair-requires : goal.write_pair-requires
unfolding two_digits
write_pair-requires c =
    omega (arith, c.write_pair-fourth.ensures.ends, c.write_pair-third.ensures.ends, c.write_pair-second.ensures.ends, c.write_byte-first.ensures.ends, c.requires)

pub returns : goal.returns
unfolding in_digits two_digits
returns c =
    let one = c.write_byte-first.ensures in
    let two = c.write_pair-second.ensures in
    let three = c.write_pair-third.ensures in
    let four = c.write_pair-fourth.ensures in
    let five = c.write_pair.ensures in
    let room = c.requires in
    wrote_on _ _ (omega (arith, room, one.ends, two.ends, three.ends, four.ends, five.ends))
    (wrote_on _ _ (omega (arith, room, one.ends, two.ends, three.ends, four.ends))
    (wrote_on _ _ (omega (arith, room, one.ends, two.ends, three.ends))
    (wrote_on _ _ (omega (arith, room, one.ends, two.ends)) one two) three) four) five
