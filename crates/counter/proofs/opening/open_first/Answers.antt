-- `opening::open_first` meets its contract: all addresses are taken, and then the map is put.
use Rattle.std.proofs.Common.{ℕ, List, ◌≤◌, ◌≡◌, ◌-◌, ◌*◌, take, ap, ◌∙◌, Err, arith, rules, length-take}
use Rattle.cells.proofs.Cuts.{left_says, said_as, said_view, said_enough}
use Rattle.counter.specs.declared.layout.Layout.{Layout}
use Rattle.counter.specs.Map.{offset_of}
use Rattle.counter.specs.Inside.{pointer_row}
use Rattle.counter.proofs.Offsets.{offset_low}
use Rattle.counter.proofs.Fitted.{fitted_ready, ready_fitted}
use Rattle.counter.proofs.OpeningViews.{ready_same, served_some, served_all, opening_lost, opening_stopped, opening_left, map_tried}
use Rattle.counter.proofs.opening.open_first.Goals as goal

pub returns-in_err-takings : goal.returns-in_err-takings
returns-in_err-takings c =
    let same : c.from_residual.result ≡ Err c.in_err-takings.field-0.0 = search rules in
    rw same (opening_lost c.args.layout c.args.p _ c.in_err-takings.ensures)

pub returns-then-count-layout : goal.returns-then-count-layout
returns-then-count-layout c =
    let s = c.args in
    opening_stopped s.layout s.p _ c.in_ok-takings.ensures.says (served_some s.layout _ c.if-count-layout.true)

-- the bytes of all pointers, by those of the slots that were served
row_of : (layout : Layout) (count : ℕ) (bytes : List ℕ) (addresses : List ℕ) → count ≤ 8 * layout.copies → 8 * layout.copies ≤ count
    → take (offset_of count - 2) bytes ≡ pointer_row addresses 0
    → take (11 * layout.copies) bytes ≡ pointer_row addresses 0
row_of layout count bytes addresses most least row =
    let last : count ≡ 8 * layout.copies = omega arith in
    let end : 11 * layout.copies ≡ offset_of count - 2 = omega (arith, last, offset_low count (omega (arith, last))) in
    rw end row

pub behind-left-requires : goal.behind-left-requires
behind-left-requires c = said_enough c.in_ok-takings.ensures.says

pub put_map-requires : goal.put_map-requires
put_map-requires c =
    let size = c.in_ok-takings.ensures.size in
    (ready_fitted (ready_same (fitted_ready c.requires.0) c.take_addresses.auto.image c.take_addresses.auto.lives), rw length-take (omega (arith, size, c.requires.1)))

pub returns-in_err-mapped : goal.returns-in_err-mapped
returns-in_err-mapped c =
    let same : c.from_residual-in_err-mapped.result ≡ Err c.in_err-mapped.field-0.0 = search rules in
    let took = c.in_ok-takings.ensures in
    let row = row_of c.args.layout c.in_ok-takings.takings.count _ _ took.few c.if-count-layout.false took.row in
    let left = opening_left c.args.layout c.args.p _ took.says (fitted_ready c.requires.0) (served_all c.args.layout _ c.if-count-layout.false) row in
    rw same (left_says left (said_as c.in_err-mapped.ensures c.behind-left.ensures.0 c.behind-left.ensures.1))

pub behind-requires : goal.behind-requires
behind-requires c =
    let took = c.in_ok-takings.ensures in
    let row = row_of c.args.layout c.in_ok-takings.takings.count _ _ took.few c.if-count-layout.false took.row in
    let map = c.in_ok-mapped.ensures in
    let none : c.in_ok-mapped.mapped.tried ≡ 0 =
    ap (λ v. v.tried) (said_view map) ∙ map_tried c.args.layout c.args.p _ took.says (fitted_ready c.requires.0) (served_all c.args.layout _ c.if-count-layout.false) row in
    (omega (arith, said_enough took.says, said_enough map, c.behind-left.ensures), omega (arith, none))

pub returns : goal.returns
returns c =
    let took = c.in_ok-takings.ensures in
    let row = row_of c.args.layout c.in_ok-takings.takings.count _ _ took.few c.if-count-layout.false took.row in
    let left = opening_left c.args.layout c.args.p _ took.says (fitted_ready c.requires.0) (served_all c.args.layout _ c.if-count-layout.false) row in
    rw c.behind.ensures (left_says left (said_as c.in_ok-mapped.ensures c.behind-left.ensures.0 c.behind-left.ensures.1))
