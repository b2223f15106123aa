-- `fill_answer` meets its contract: its four lines, one after another, are the text of the answer.
use Rattle.std.proofs.Common.{rules, arith, w64}
use Rattle.std.proofs.lemmas.Int.{to_z-of_z}
use Rattle.text.proofs.Writing.{wrote_four}
use Rattle.look.specs.Look.{answer_text}
use Rattle.look.proofs.Room.{lines_fit, text_fits}
use Rattle.look.proofs.lines.fill_answer.Goals as goal

pub write_line-coded-requires : goal.write_line-coded-requires
write_line-coded-requires c = omega (arith, lines_fit c.args.answer (omega arith) (omega arith) (search rules) (omega arith))

pub write_line-counted-requires : goal.write_line-counted-requires
write_line-counted-requires c = omega (arith, lines_fit c.args.answer (omega arith) (omega arith) (search rules) (omega arith))

pub write_line-lagged-requires : goal.write_line-lagged-requires
write_line-lagged-requires c =
    rw (to_z-of_z w64 c.args.answer.lag (search rules))
    (omega (arith, lines_fit c.args.answer (omega arith) (omega arith) (search rules) (omega arith)))

pub write_line-requires : goal.write_line-requires
write_line-requires c =
    let lagged = rw (to_z-of_z w64 c.args.answer.lag (search rules)) at c.write_line-lagged.ensures in
    omega (arith, lagged.ends, lines_fit c.args.answer (omega arith) (omega arith) (search rules) (omega arith))

pub returns : goal.returns
unfolding answer_text
returns c =
    let room = text_fits c.args.answer (omega arith) (omega arith) (search rules) (omega arith) in
    let lagged = rw (to_z-of_z w64 c.args.answer.lag (search rules)) at c.write_line-lagged.ensures in
    let wrote =
    wrote_four _ _ _ _ (omega arith)
    c.write_line-coded.ensures c.write_line-counted.ensures lagged c.write_line.ensures in
    (wrote, omega (arith, wrote.ends, room))
