-- `write_run` meets its contract: its two lines, one after the other, and there is room for them.
use native.Mathlib.Omega.{arith}
use Rattle.text.proofs.Writing.{wrote_on}
use Rattle.card.proofs.WriteLaws.{run_lines}
use Rattle.card.proofs.writing.write_run.Goals as goal

pub returns : goal.returns
returns c =
    wrote_on _ _ (omega (arith, c.requires, run_lines c.args.speed c.args.turns)) c.write_line-next.ensures c.write_line.ensures
