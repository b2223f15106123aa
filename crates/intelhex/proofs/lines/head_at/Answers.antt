-- `head_at` meets its contract: no colon, a count that is no byte, or four bytes behind the first sign.
use Rattle.std.proofs.Common.{refl, arith, eq-eqb, lt-ltb}
use Rattle.intelhex.specs.Signs.{total}
use Rattle.intelhex.proofs.Bytes.{head_bytes}
use Rattle.intelhex.proofs.lines.head_at.Goals as goal

pub returns : goal.returns
unfolding total
returns c =
    let bytes = head_bytes c.args.text.now c.args.at in
    record {
      formed = rw (eq-eqb _ 58 c.if-text-at-ne58.false, ← c.byte_at-count.ensures.0, lt-ltb c.byte_at-count.result 256 (omega (arith, c.if-count-gt255.false))) refl;
      count = c.byte_at-count.ensures.0;
      address = rw (c.byte_at-high.ensures.0, c.byte_at-low.ensures.0);
      kind = c.byte_at-kind.ensures.0;
      sum = rw (bytes, ← c.byte_at-count.ensures.0, ← c.byte_at-high.ensures.0, ← c.byte_at-low.ensures.0, ← c.byte_at-kind.ensures.0) (omega arith);
      small = (omega (arith, c.byte_at-high.ensures.1, c.byte_at-low.ensures.1), omega (arith, c.byte_at-count.ensures.1, c.byte_at-high.ensures.1, c.byte_at-low.ensures.1, c.byte_at-kind.ensures.1));
    }
