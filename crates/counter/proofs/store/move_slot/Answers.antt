-- `store::move_slot` meets its contract: the gap is that of the map, and what the spares come to says how it ends.
use Rattle.std.proofs.Common.{◌≡◌, length, Err, arith, rules}
use Rattle.cells.proofs.Cuts.{left_says, said_as, said_view, said_enough}
use Rattle.counter.proofs.Ready.{ready_placed}
use Rattle.counter.proofs.Fitted.{fitted_ready, ready_fitted, ready_short}
use Rattle.counter.proofs.StoreViews.{GapFits, map_long, gap_here, gap_fits, spare_held, move_lost, move_nowhere, move_at}
use Rattle.counter.proofs.StoreCosts.{tries_few, pointer_few}
use Rattle.counter.proofs.SoundPointers.{test_sound}
use Rattle.counter.proofs.store.move_slot.Goals as goal

pub cells_for-requires : goal.cells_for-requires
cells_for-requires c = let ready = fitted_ready c.requires.0 in omega (arith, ready_placed ready, ready_short ready)

pub gap_of-gap-requires : goal.gap_of-gap-requires
gap_of-gap-requires c =
    let ready = fitted_ready c.requires.0 in
    let long = map_long _ _ _ c.requires.0 c.at.ensures c.cells_for.ensures in
    (long.0, long.1, omega (arith, ready_placed ready, ready_short ready))

pub try_spares-requires : goal.try_spares-requires
try_spares-requires c =
    let fits : GapFits (length c.args.image.now) c.gap_of-gap.result =
    rw (gap_here _ _ _ c.requires.0 c.at.ensures c.cells_for.ensures c.gap_of-gap.ensures) (gap_fits (fitted_ready c.requires.0) (test_sound _ _ _ c.requires.1)) in
    ((fitted_ready c.requires.0).paired, fits.first, fits.reach, fits.ordered, fits.inside)

pub returns-in_err-walked : goal.returns-in_err-walked
returns-in_err-walked c =
    let same : c.from_residual.result ≡ Err c.in_err-walked.field-0.0 = search rules in
    rw same (move_lost _ _ _ _ (gap_here _ _ _ c.requires.0 c.at.ensures c.cells_for.ensures c.gap_of-gap.ensures) c.in_err-walked.ensures)

pub returns-in_default : goal.returns-in_default
returns-in_default c =
    move_nowhere _ _ _ _ (gap_here _ _ _ c.requires.0 c.at.ensures c.cells_for.ensures c.gap_of-gap.ensures) c.in_ok-walked.ensures (fitted_ready c.requires.0) (search rules)

pub behind-left-requires : goal.behind-left-requires
behind-left-requires c = said_enough c.in_ok-walked.ensures

pub put_pointer-requires : goal.put_pointer-requires
put_pointer-requires c =
    let held = spare_held _ _ _ _ (gap_here _ _ _ c.requires.0 c.at.ensures c.cells_for.ensures c.gap_of-gap.ensures) c.in_ok-walked.ensures (fitted_ready c.requires.0) c.in-Some.is in
    (ready_fitted held.ready, c.requires.2, held.small, held.reach)

pub returns-in_err-stored : goal.returns-in_err-stored
returns-in_err-stored c =
    let same : c.from_residual-in_err-stored.result ≡ Err c.in_err-stored.field-0.0 = search rules in
    let left = move_at _ _ _ _ (gap_here _ _ _ c.requires.0 c.at.ensures c.cells_for.ensures c.gap_of-gap.ensures) c.in_ok-walked.ensures (fitted_ready c.requires.0) c.in-Some.is in
    rw same (left_says left (said_as c.in_err-stored.ensures c.behind-left.ensures.0 c.behind-left.ensures.1))

pub behind-requires : goal.behind-requires
behind-requires c =
    let few = tries_few _ _ _ _ (said_view c.in_ok-walked.ensures) in
    let short = ready_short (fitted_ready c.requires.0) in
    (omega (arith, said_enough c.in_ok-walked.ensures, said_enough c.in_ok-stored.ensures, c.behind-left.ensures), omega (arith, few, short, pointer_few _ _ _ _ _ (said_view c.in_ok-stored.ensures)))

pub returns : goal.returns
returns c =
    let left = move_at _ _ _ _ (gap_here _ _ _ c.requires.0 c.at.ensures c.cells_for.ensures c.gap_of-gap.ensures) c.in_ok-walked.ensures (fitted_ready c.requires.0) c.in-Some.is in
    rw c.behind.ensures (left_says left (said_as c.in_ok-stored.ensures c.behind-left.ensures.0 c.behind-left.ensures.1))
