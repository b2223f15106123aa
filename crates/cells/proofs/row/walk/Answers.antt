-- `walk` meets its contract. At each turn what is left of the walk stands behind one write and one try for each cell passed over.
use Rattle.std.proofs.Common.{◌≡◌, Err, rules}
use native.Mathlib.Omega.{arith}
use Rattle.cells.proofs.Puts.{put_few}
use Rattle.cells.proofs.Cuts.{left_on, left_says, left_none, said_as, said_view}
use Rattle.cells.proofs.Walks.{walk_left_none, walk_left_lost, walk_left_held, walk_left_passed}
use Rattle.cells.proofs.row.walk.Goals as goal

pub returns-in_err-done : goal.returns-in_err-done
returns-in_err-done c =
    let same : c.from_residual.result ≡ Err c.in_err-done.field-0.0 = search rules in
    rw same
    (left_says c.loop-j.invariant.rest (walk_left_lost _ _ _ _ _ _ _ c.loop-j-test.true c.nth-at.ensures (said_as c.in_err-done.ensures c.behind.ensures.0 c.behind.ensures.1)))

pub overflow_add-result : goal.overflow_add-result
overflow_add-result c = omega (arith, put_few _ _ _ (said_view c.in_ok-done.ensures))

pub returns-then-done : goal.returns-then-done
returns-then-done c =
    left_says c.loop-j.invariant.rest (walk_left_held _ _ _ _ _ _ _ c.loop-j-test.true c.nth-at.ensures (said_as c.in_ok-done.ensures c.behind.ensures.0 c.behind.ensures.1) c.if-done.true)

pub loop-j-preserved : goal.loop-j-preserved
loop-j-preserved c =
    record {
      cells_kept = omega arith;
      lives_kept = omega arith;
      rest = left_on c.loop-j.invariant.rest (walk_left_passed _ _ _ _ _ _ _ c.loop-j-test.true c.nth-at.ensures (said_as c.in_ok-done.ensures c.behind.ensures.0 c.behind.ensures.1) c.if-done.false);
    }

pub returns : goal.returns
returns c =
    let all : c.loop-j.j ≡ c.args.cells = search rules in
    rw all at (left_none c.loop-j.invariant.rest (walk_left_none _ _ _ _ _ _ all))
