-- `store::put_pointer` meets its contract: a Low pointer is a row of two bytes, a High one of one.
use Rattle.std.proofs.Common.{◌≡◌, sym, ◌∙◌, Err, arith, rules}
use Rattle.cells.proofs.Cuts.{starts_same, said_lost}
use Rattle.counter.specs.Slots.{kind_of}
use Rattle.counter.proofs.Offsets.{kind_high, low_slot, high_slot, offset_inside, low_inside, high_inside}
use Rattle.counter.proofs.SoundPointers.{test_reach}
use Rattle.counter.proofs.Ready.{ready_placed}
use Rattle.counter.proofs.Fitted.{fitted_ready, ready_short}
use Rattle.counter.proofs.StoreViews.{mapped_works, low_pointer, high_pointer}
use Rattle.counter.proofs.store.put_pointer.Goals as goal

pub offset_of-requires : goal.offset_of-requires
offset_of-requires c =
    let ready = fitted_ready c.requires.0 in
    omega (arith, ready_placed ready, ready_short ready, c.requires.1)

pub overflow_add-at : goal.overflow_add-at
overflow_add-at c =
    let ready = fitted_ready c.requires.0 in
    omega (arith, ready_placed ready, ready_short ready, offset_inside c.args.layout c.args.slot c.requires.1, c.offset_of.ensures)

-- ## A Low one

pub put_row-requires : goal.put_row-requires
put_row-requires c =
    let ready = fitted_ready c.requires.0 in
    (omega (arith, ready_placed ready, low_inside c.args.layout c.args.slot c.requires.1 (low_slot _ (sym c.of.ensures ∙ c.in-Low.is)), c.offset_of.ensures), ready.paired)

pub returns-in_err-row-in-Low : goal.returns-in_err-row-in-Low
returns-in_err-row-in-Low c =
    let same : c.from_residual.result ≡ Err c.in_err-row-in-Low.field-0.0 = search rules in
    rw same (low_pointer c.args.layout c.args.p c.args.slot c.args.a _ c.offset_of.ensures (low_slot _ (sym c.of.ensures ∙ c.in-Low.is)) (said_lost c.in_err-row-in-Low.ensures (starts_same _)))

pub returns-in_ok-row-in-Low : goal.returns-in_ok-row-in-Low
returns-in_ok-row-in-Low c =
    rw c.mapped.ensures (low_pointer c.args.layout c.args.p c.args.slot c.args.a _ c.offset_of.ensures (low_slot _ (sym c.of.ensures ∙ c.in-Low.is)) (mapped_works c.in_ok-row-in-Low.ensures))

-- ## A High one

pub put_row-requires-in-High : goal.put_row-requires-in-High
put_row-requires-in-High c =
    let ready = fitted_ready c.requires.0 in
    (omega (arith, ready_placed ready, high_inside c.args.layout c.args.slot c.requires.1 (high_slot _ (sym c.of.ensures ∙ c.in-High.is)), c.offset_of.ensures), ready.paired)

pub returns-in_err-row-in-High : goal.returns-in_err-row-in-High
returns-in_err-row-in-High c =
    let same : c.from_residual-in_err-row-in-High.result ≡ Err c.in_err-row-in-High.field-0.0 = search rules in
    let reach = test_reach (kind_of c.args.slot) c.args.a c.requires.3 (kind_high c.args.slot (high_slot _ (sym c.of.ensures ∙ c.in-High.is))) in
    rw same (high_pointer c.args.layout c.args.p c.args.slot c.args.a _ c.offset_of.ensures (high_slot _ (sym c.of.ensures ∙ c.in-High.is)) reach (said_lost c.in_err-row-in-High.ensures (starts_same _)))

pub returns-in_ok-row-in-High : goal.returns-in_ok-row-in-High
returns-in_ok-row-in-High c =
    let reach = test_reach (kind_of c.args.slot) c.args.a c.requires.3 (kind_high c.args.slot (high_slot _ (sym c.of.ensures ∙ c.in-High.is))) in
    rw c.mapped-in-High.ensures (high_pointer c.args.layout c.args.p c.args.slot c.args.a _ c.offset_of.ensures (high_slot _ (sym c.of.ensures ∙ c.in-High.is)) reach (mapped_works c.in_ok-row-in-High.ensures))
