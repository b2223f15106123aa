-- `write_head` meets its contract: its three lines, one after another, and there is room for them.
use native.Mathlib.Omega.{arith}
use Rattle.text.proofs.Writing.{wrote_on}
use Rattle.card.proofs.WriteLaws.{head_lines}
use Rattle.card.proofs.writing.write_head.Goals as goal

pub returns : goal.returns
returns c =
    let room = head_lines c.args.fitted c.args.allowed c.args.runs in
    wrote_on _ _ (omega (arith, c.requires, room))
    (wrote_on _ _ (omega (arith, c.requires, room)) c.write_line-first.ensures c.write_line-second.ensures) c.write_line.ensures
