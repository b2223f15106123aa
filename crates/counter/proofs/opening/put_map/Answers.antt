-- `opening::put_map` meets its contract: the pointers are put, and the mark behind them.
use Rattle.std.proofs.Common.{◌≡◌, ◌+◌, sym, ap, ◌∙◌, Err, arith, rules}
use Rattle.cells.specs.Chip.{chip}
use Rattle.cells.specs.Cut.{Says, Cut.lost}
use Rattle.cells.proofs.Rows.{row_within}
use Rattle.cells.proofs.Cuts.{starts_same, said_lost, left_says, said_as, said_view, said_enough}
use Rattle.counter.specs.Opening.{put_mark}
use Rattle.counter.specs.Inside.{map_row}
use Rattle.counter.proofs.Ready.{ready_placed}
use Rattle.counter.proofs.Fitted.{fitted_ready, ready_fitted, ready_short}
use Rattle.counter.proofs.Behind.{works_lost, works_stopped, works_done}
use Rattle.counter.proofs.StoreViews.{mapped_works}
use Rattle.counter.proofs.OpeningViews.{ready_same, mark_tried}
use Rattle.counter.proofs.opening.put_map.Goals as goal

pub overflow_add-p : goal.overflow_add-p
overflow_add-p c = let ready = fitted_ready c.requires.0 in omega (arith, ready_placed ready, ready_short ready)

pub put_row-requires : goal.put_row-requires
put_row-requires c =
    let ready = fitted_ready c.requires.0 in
    (omega (arith, c.requires.1, ready_placed ready), ready.paired)

pub returns-in_err-row : goal.returns-in_err-row
returns-in_err-row c =
    let same : c.from_residual.result ≡ Err c.in_err-row.field-0.0 = search rules in
    let s = c.args in
    let torn : Says (lost c.in_err-row.field-0.0.at (chip c.put_row.new.image c.put_row.new.lives)) s.mains.power s.mains.torn (map_row s.bytes.now (s.p.map + 2) (chip s.image.now s.lives.now)) (chip s.image.now s.lives.now) =
    said_lost c.in_err-row.ensures (starts_same _) in
    rw same (works_lost torn (put_mark s.layout s.p))

pub returns-then-is_err : goal.returns-then-is_err
returns-then-is_err c =
    let said = mapped_works c.in_ok-row.ensures in
    rw c.mapped-pointers.ensures (works_stopped said (put_mark c.args.layout c.args.p) (rw c.mapped-pointers.ensures at (sym c.if-is_err.ensures.value)))

pub behind-left-requires : goal.behind-left-requires
behind-left-requires c = rw c.mapped-pointers.ensures (said_enough c.in_ok-row.ensures)

pub put_mark-requires : goal.put_mark-requires
put_mark-requires c =
    ready_fitted (ready_same (fitted_ready c.requires.0) c.put_row.auto.image c.put_row.auto.lives)

pub returns-in_err-marked : goal.returns-in_err-marked
returns-in_err-marked c =
    let same : c.from_residual-in_err-marked.result ≡ Err c.in_err-marked.field-0.0 = search rules in
    let left = works_done (mapped_works c.in_ok-row.ensures) (put_mark c.args.layout c.args.p) (rw c.mapped-pointers.ensures at (sym c.if-is_err.ensures.value)) (row_within _ _ _).logged in
    let power = rw c.mapped-pointers.ensures at c.behind-left.ensures in
    rw same (left_says left (said_as c.in_err-marked.ensures power.0 power.1))

pub behind-requires : goal.behind-requires
behind-requires c =
    let row = c.in_ok-row.ensures in
    let mark = c.in_ok-marked.ensures in
    let power = rw c.mapped-pointers.ensures at c.behind-left.ensures in
    let last : c.in_ok-marked.marked.tried ≡ 0 = ap (λ v. v.tried) (said_view mark) ∙ mark_tried c.args.layout c.args.p _ in
    rw c.mapped-pointers.ensures (omega (arith, said_enough row, said_enough mark, power), omega (arith, last))

pub returns : goal.returns
returns c =
    let left = works_done (mapped_works c.in_ok-row.ensures) (put_mark c.args.layout c.args.p) (rw c.mapped-pointers.ensures at (sym c.if-is_err.ensures.value)) (row_within _ _ _).logged in
    let power = rw c.mapped-pointers.ensures at c.behind-left.ensures in
    rw (c.behind.ensures, c.mapped-pointers.ensures) (left_says left (said_as c.in_ok-marked.ensures power.0 power.1))
