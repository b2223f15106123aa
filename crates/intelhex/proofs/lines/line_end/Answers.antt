-- `line_end` meets its contract: a line feed, or a carriage return and a line feed.
use Rattle.std.proofs.Common.{◌+◌, refl, arith, eq-eqb, ne_eqb}
use lib.ListN.{get_or-eq_default}
use Rattle.intelhex.specs.Inside.{end_at}
use Rattle.intelhex.proofs.lines.line_end.Goals as goal
use Rattle.intelhex.proofs.lines.line_end.Goals.{else-text-at-eq13-via-then-text-at-eq13+then-at-text+else-text-at-eq10-2, else-text-at-eq13-via-then-text-at-eq13+else-at-text, else-text-at-eq13-via-else-text-at-eq13}

pub returns-then-text-at-eq10 : goal.returns-then-text-at-eq10
unfolding end_at
returns-then-text-at-eq10 c = rw (eq-eqb _ 10 c.if-text-at-eq10.true) (refl, omega arith)

pub returns-then-text-at-eq10-2 : goal.returns-then-text-at-eq10-2
unfolding end_at
returns-then-text-at-eq10-2 c =
    rw (ne_eqb _ 10 c.if-text-at-eq10.false, eq-eqb _ 13 c.if-text-at-eq13.true, eq-eqb _ 10 c.if-text-at-eq10-2.true) (refl, omega arith)

pub returns : goal.returns
unfolding end_at
returns c =
    elim c.else-text-at-eq13.branch [
      | else-text-at-eq13-via-then-text-at-eq13+then-at-text+else-text-at-eq10-2 w ↦
          rw (ne_eqb _ 10 c.if-text-at-eq10.false, eq-eqb _ 13 w.if-text-at-eq13.true, ne_eqb _ 10 w.if-text-at-eq10-2.false)
      | else-text-at-eq13-via-then-text-at-eq13+else-at-text w ↦
          rw (ne_eqb _ 10 c.if-text-at-eq10.false, eq-eqb _ 13 w.if-text-at-eq13.true, get_or-eq_default c.args.text.now 0 {n = c.args.at + 1} (omega (arith, w.if-at-text.false)))
      | else-text-at-eq13-via-else-text-at-eq13 w ↦
          rw (ne_eqb _ 10 c.if-text-at-eq10.false, ne_eqb _ 13 w.if-text-at-eq13.false)
    ]
