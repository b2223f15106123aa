-- `opening::put_mark` meets its contract: the mark is a row of two bytes.
use Rattle.std.proofs.Common.{◌≡◌, Err, arith, rules}
use Rattle.cells.proofs.Cuts.{starts_same, said_lost}
use Rattle.counter.proofs.Ready.{ready_placed}
use Rattle.counter.proofs.Fitted.{fitted_ready}
use Rattle.counter.proofs.StoreViews.{mapped_works}
use Rattle.counter.proofs.OpeningViews.{mark_works}
use Rattle.counter.proofs.opening.put_mark.Goals as goal

pub put_row-requires : goal.put_row-requires
put_row-requires c =
    let ready = fitted_ready c.requires in
    (omega (arith, ready_placed ready), ready.paired)

pub returns-in_err-row : goal.returns-in_err-row
returns-in_err-row c =
    let same : c.from_residual.result ≡ Err c.in_err-row.field-0.0 = search rules in
    rw same (mark_works c.args.layout c.args.p (said_lost c.in_err-row.ensures (starts_same _)))

pub returns : goal.returns
returns c = rw c.mapped.ensures (mark_works c.args.layout c.args.p (mapped_works c.in_ok-row.ensures))
