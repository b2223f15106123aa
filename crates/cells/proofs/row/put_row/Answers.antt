-- `put_row` meets its contract. At each turn what is left of the row stands behind the writes asked so far, at most one a byte.
use Rattle.std.proofs.Common.{◌≡◌, Err, rules}
use mathlib.Core.Path.{◌∙◌}
use native.Mathlib.Omega.{arith}
use borrow.Author.Tests.{not-true, not-false}
use Rattle.cells.proofs.Puts.{put_few}
use Rattle.cells.proofs.Cuts.{left_on, left_says, left_none, said_as, said_view}
use Rattle.cells.proofs.Rows.{row_left_none, row_left_lost, row_left_held, row_left_failed}
use Rattle.cells.proofs.row.put_row.Goals as goal

pub returns-in_err-done : goal.returns-in_err-done
returns-in_err-done c =
    let same : c.from_residual.result ≡ Err c.in_err-done.field-0.0 = search rules in
    rw same
    (left_says c.loop-i.invariant.rest (row_left_lost _ _ _ _ c.loop-i-test.true (said_as c.in_err-done.ensures c.behind.ensures.0 c.behind.ensures.1)))

pub overflow_add-writes : goal.overflow_add-writes
overflow_add-writes c =
    omega (arith, c.loop-i.invariant.few, put_few _ _ _ (said_view c.in_ok-done.ensures))

pub returns-then-not-done : goal.returns-then-not-done
returns-then-not-done c =
    left_says c.loop-i.invariant.rest (row_left_failed _ _ _ _ c.loop-i-test.true (said_as c.in_ok-done.ensures c.behind.ensures.0 c.behind.ensures.1) (not-true _ c.if-not-done.true))

pub loop-i-preserved : goal.loop-i-preserved
loop-i-preserved c =
    record {
      few = omega (arith, c.loop-i.invariant.few, put_few _ _ _ (said_view c.in_ok-done.ensures));
      cells_kept = c.put_on.auto.image ∙ c.loop-i.invariant.cells_kept;
      lives_kept = c.put_on.auto.lives ∙ c.loop-i.invariant.lives_kept;
      rest = left_on c.loop-i.invariant.rest (row_left_held _ _ _ _ c.loop-i-test.true (said_as c.in_ok-done.ensures c.behind.ensures.0 c.behind.ensures.1) (not-false _ c.if-not-done.false));
    }

pub returns : goal.returns
returns c = left_none c.loop-i.invariant.rest (row_left_none _ _ c.loop-i.i _ (search rules))
