-- `write_bits` meets its contract: no line at first, and one more at each turn.
use mathlib.Core.List.{[]}
use Rattle.std.proofs.Common.{◌+◌, ◌*◌, ◌≤◌, arith}
use Rattle.code.proofs.TabulateLaws.{at}
use Rattle.text.proofs.Writing.{wrote_no_line, wrote_line}
use Rattle.look.specs.Look.{bit_line, bit_lines, bit_longest}
use Rattle.look.proofs.lines.write_bits.Goals as goal

pub loop-bit-init : goal.loop-bit-init
loop-bit-init c = record { ends = omega arith; wrote = wrote_no_line _ _ (omega arith) }

pub loop-bit-preserved : goal.loop-bit-preserved
loop-bit-preserved c =
    let this = at (bit_line c.args.bits) [] 8 c.loop-bit.bit c.loop-bit-test.true in
    let ends : c.write_bit-next.result ≤ c.args.at + (c.loop-bit.bit + 1) * bit_longest = omega (arith, c.write_bit-next.ensures.1) in
    record {
      ends = ends;
      wrote = wrote_line (bit_lines c.args.bits) c.loop-bit.bit (omega arith) (omega (arith, ends)) c.loop-bit.invariant.wrote (rw this c.write_bit-next.ensures.0);
    }
