-- `write_pairs` meets its contract: the next byte is written and added.
use Rattle.std.proofs.Common.{refl, ◌∙◌, arith}
use Rattle.text.proofs.Writing.{wrote_none, wrote_on}
use Rattle.intelhex.specs.Signs.{two_digits, in_digits, total}
use Rattle.intelhex.proofs.Digits.{digits_next, total_next}
use Rattle.intelhex.proofs.records.write_pairs.Goals as goal

pub loop-byte-init : goal.loop-byte-init
unfolding in_digits total
loop-byte-init c = record {
  sums = omega (arith, c.ranges.sum);
  place = omega arith;
  wrote = wrote_none _ _ (omega (arith, c.requires));
  same = refl;
}

pub loop-byte-preserved : goal.loop-byte-preserved
unfolding two_digits
loop-byte-preserved c =
    let inv = c.loop-byte.invariant in
    record {
      sums = rw (inv.sums, total_next _ _ c.loop-byte-test.true) (omega arith);
      place = omega (arith, inv.place, c.write_pair-next.ensures.ends);
      wrote = rw (digits_next _ _ c.loop-byte-test.true)
          (wrote_on _ _ (omega (arith, c.loop-byte-test.true, inv.place, c.write_pair-next.ensures.ends, c.requires)) inv.wrote c.write_pair-next.ensures);
      same = c.write_pair-next.auto.text ∙ inv.same;
    }
