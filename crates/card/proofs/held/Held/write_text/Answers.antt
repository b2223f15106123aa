-- `write_text` meets its contract: the lines before the runs, and those of the runs behind them.
use native.Mathlib.Omega.{arith}
use Rattle.text.proofs.Writing.{wrote_within, wrote_on}
use Rattle.card.specs.Cards.{text_of}
use Rattle.card.specs.Inside.{rows_of}
use Rattle.card.proofs.RunLaws.{in_form_lem}
use Rattle.card.proofs.WriteLaws.{text_lines}
use Rattle.card.proofs.held.Held.write_text.Goals as goal

pub write_head-next-requires : goal.write_head-next-requires
write_head-next-requires c = omega (arith, c.requires.room, text_lines (rows_of c.args.self.now))

pub write_runs-requires : goal.write_runs-requires
write_runs-requires c =
    let held = rows_of c.args.self.now in
    ((in_form_lem held c.requires.form).0, omega (arith, c.write_head-next.ensures.ends, c.requires.room, text_lines held))

pub returns : goal.returns
unfolding text_of
returns c =
    let held = rows_of c.args.self.now in
    let within = wrote_within (omega (arith, c.write_head-next.ensures.ends, c.requires.room, text_lines held)) c.write_runs.ensures in
    wrote_on _ _ (omega (arith, within)) c.write_head-next.ensures c.write_runs.ensures
