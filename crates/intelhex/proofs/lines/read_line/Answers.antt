-- `read_line` meets its contract: a line without its head or too short is malformed; else its data were stored, or read aside.
use Rattle.std.proofs.Common.{refl, arith}
use Rattle.intelhex.proofs.Forms.{no_head, too_short}
use Rattle.intelhex.proofs.Judging.{malformed_line, line_stored, line_aside}
use Rattle.intelhex.proofs.lines.read_line.Goals as goal

pub returns-then-text-least : goal.returns-then-text-least
returns-then-text-least c = malformed_line _ refl (too_short _ _ _ (omega (arith, c.if-text-least.true)))

pub returns-in_default : goal.returns-in_default
returns-in_default c = malformed_line _ refl (no_head _ _ _ c.in_default.ensures)

pub returns-then-text-least-2 : goal.returns-then-text-least-2
returns-then-text-least-2 c = malformed_line _ refl (too_short _ _ _ (omega (arith, c.if-text-least-2.true, c.in-Some.ensures.count)))

pub returns-then-address-count : goal.returns-then-address-count
returns-then-address-count c =
    line_stored _ c.in-Some.ensures (rw c.read_data-held.auto.cells at c.judge.ensures) c.read_data-held.ensures

pub returns : goal.returns
returns c = line_aside _ c.in-Some.ensures c.judge-2.ensures c.read_aside-held.ensures.1 c.if-address-count.false
