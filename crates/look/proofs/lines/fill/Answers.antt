-- `fill` meets its contract: the lines of the answer, and those of the bits behind them.
use Rattle.std.proofs.Common.{arith}
use Rattle.text.proofs.Writing.{wrote_within, wrote_on}
use Rattle.look.specs.Look.{look_text}
use Rattle.look.proofs.lines.fill.Goals as goal

pub returns : goal.returns
unfolding look_text
returns c =
    let within = wrote_within (omega (arith, c.fill_answer-next.ensures.1)) c.write_bits.ensures in
    wrote_on _ _ (omega (arith, within)) c.fill_answer-next.ensures.0 c.write_bits.ensures
