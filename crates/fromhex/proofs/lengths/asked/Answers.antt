-- `asked` meets its contract: one digit more at each turn, and none left at the end.
use Rattle.std.proofs.Common.{sym, ◌∙◌}
use lib.ListN.{drop_of_length-le}
use Rattle.fromhex.proofs.Digits.{length_next, length_end}
use Rattle.fromhex.proofs.lengths.asked.Goals as goal

pub loop-byte-preserved : goal.loop-byte-preserved
loop-byte-preserved c = record {
  small = c.with_digit-n.ensures.1;
  rest = rw c.with_digit-n.ensures.0 (sym (length_next _ _ _ c.loop-byte-test.true) ∙ c.loop-byte.invariant.rest);
}

pub returns : goal.returns
returns c =
    (sym (length_end _ _ (drop_of_length-le _ c.loop-byte-test.false)) ∙ c.loop-byte.invariant.rest, c.loop-byte.invariant.small)
