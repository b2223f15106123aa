-- `fill` meets its contract: the first lines, and the others behind them.
use Rattle.std.proofs.Common.{rules, arith, w64, subst, sym}
use Rattle.std.proofs.lemmas.Int.{to_z-of_z}
use Rattle.text.specs.Text.{Wrote}
use Rattle.text.proofs.Writing.{wrote_within, wrote_on}
use Rattle.card.specs.Answers.{answered}
use Rattle.stylus.specs.Prints.{lines_of}
use Rattle.stylus.proofs.lines.fill.Goals as goal

pub returns-in-Ok : goal.returns-in-Ok
unfolding lines_of
returns-in-Ok c =
    let last = rw (to_z-of_z w64 c.in-Ok.wear.left (search rules)) at c.write_last.ensures in
    let within = wrote_within (omega (arith, c.write_first-next.ensures.1)) last in
    subst (λ a. Wrote c.args.text.now 0 (lines_of (record { read = c.args.chip.read; answer = answered a })) c.write_last.result c.write_last.new.text)
    (sym c.in-Ok.is) (wrote_on _ _ (omega (arith, within)) c.write_first-next.ensures.0 last)

pub returns-in-Err : goal.returns-in-Err
unfolding lines_of
returns-in-Err c =
    let last = c.write_last-in-Err.ensures in
    let within = wrote_within (omega (arith, c.write_first-next-in-Err.ensures.1)) last in
    subst (λ a. Wrote c.args.text.now 0 (lines_of (record { read = c.args.chip.read; answer = answered a })) c.write_last-in-Err.result c.write_last-in-Err.new.text)
    (sym c.in-Err.is) (wrote_on _ _ (omega (arith, within)) (rw c.into.ensures at c.write_first-next-in-Err.ensures.0) last)
