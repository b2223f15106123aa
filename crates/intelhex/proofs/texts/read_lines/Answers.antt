-- `read_lines` meets its contract: the next line is refused, or read, or read as the last one.
use Rattle.std.proofs.Common.{length, refl, ap, ◌∙◌, arith}
use Rattle.intelhex.proofs.Taken.{free, blank_free}
use Rattle.intelhex.proofs.TextLaws.{begin, tested, line_read, line_wrong, not_closed, closed_well}
use Rattle.intelhex.proofs.texts.read_lines.Goals as goal

pub loop-at-init : goal.loop-at-init
loop-at-init c =
    record { behind = omega arith; counted = omega (arith, ap free c.requires.1 ∙ blank_free (length c.args.cells.now)); under = begin _ _; same = refl }

pub returns-in-Err : goal.returns-in-Err
returns-in-Err c = line_wrong c.loop-at.invariant.under c.loop-at-test.true c.in-Err.ensures

pub overflow_add-filled : goal.overflow_add-filled
overflow_add-filled c =
    let (on, next, filled) = line_read c.loop-at.invariant.under c.loop-at-test.true c.in-Ok.ensures in
    omega (arith, filled, c.loop-at.invariant.counted, c.requires.0)

pub returns-then-line : goal.returns-then-line
returns-then-line c =
    let inv = c.loop-at.invariant in
    let (on, next, filled) = line_read inv.under c.loop-at-test.true c.in-Ok.ensures in
    closed_well _ _ (tested c.if-line.true next) (omega (arith, filled, inv.counted, c.read_line.auto.cells ∙ inv.same)) c.closing.ensures

pub loop-at-smaller : goal.loop-at-smaller
loop-at-smaller c =
    let (on, next, filled) = line_read c.loop-at.invariant.under c.loop-at-test.true c.in-Ok.ensures in
    omega (arith, c.loop-at-test.true, on)

pub loop-at-preserved : goal.loop-at-preserved
loop-at-preserved c =
    let inv = c.loop-at.invariant in
    let (on, next, filled) = line_read inv.under c.loop-at-test.true c.in-Ok.ensures in
    record {
      behind = omega (arith, on, inv.behind);
      counted = omega (arith, filled, inv.counted);
      under = tested c.if-line.false next;
      same = c.read_line.auto.cells ∙ inv.same;
    }

pub returns : goal.returns
returns c = not_closed _ c.loop-at.invariant.under c.loop-at-test.false refl
