-- `write_line` meets its contract: what stands before the data, the data, and what stands behind them.
use Rattle.std.proofs.Common.{◌/◌, ◌%◌, length, refl, arith}
use Rattle.intelhex.specs.Signs.{in_digits, two_digits, total}
use Rattle.text.proofs.Writing.{wrote_on}
use Rattle.intelhex.proofs.Standard.{high_first, line_parts, sum_three}
use Rattle.intelhex.proofs.records.write_line.Goals as goal

pub write_pairs-sum-requires : goal.write_pairs-sum-requires
unfolding in_digits two_digits
write_pairs-sum-requires c =
    omega (arith, c.write_head-next.ensures.ends, c.requires.2)

pub write_tail-requires : goal.write_tail-requires
unfolding in_digits two_digits
write_tail-requires c =
    omega (arith, c.write_head-next.ensures.ends, c.requires.2)

pub returns : goal.returns
unfolding in_digits two_digits
returns c =
    let one = c.write_head-next.ensures in
    let two = c.write_pairs-sum.ensures.1 in
    let three = c.write_tail.ensures in
    let room = c.requires.2 in
    let address = c.args.address in
    let bytes = c.args.bytes.now in
    let is = high_first address c.requires.0 c.to_be_bytes.ensures in
    let sum = sum_three (length bytes) (address / 256) (address % 256) (total bytes) refl refl (rw (is.0, is.1) at c.write_pairs-sum.ensures.0) in
    rw (line_parts address bytes _ sum)
    (wrote_on _ _ (omega (arith, room, one.ends, three.ends)) (wrote_on _ _ (omega (arith, room, one.ends)) (rw (is.0, is.1) at one) two) three)
