-- `store::try_spares` meets its contract: the spares of a kind are a row of cells.
use Rattle.std.proofs.Common.{length}
use Rattle.counter.specs.Slots.{kind_of}
use Rattle.counter.specs.Store.{try_spares}
use Rattle.counter.proofs.StoreViews.{GapFits}
use Rattle.counter.proofs.NextSpares.{spares_fit}
use Rattle.counter.proofs.store.try_spares.Goals as goal

pub walk-requires : goal.walk-requires
walk-requires c =
    let fits : GapFits (length c.args.image.now) c.args.gap = record { first = c.requires.1; reach = c.requires.2; ordered = c.requires.3; inside = c.requires.4 } in
    (rw (c.spares.ensures, c.way.ensures, c.next.ensures, c.of-kind.ensures) (spares_fit (kind_of c.args.slot) fits), c.requires.0)

pub returns : goal.returns
unfolding try_spares
returns c =
    rw (← c.of-kind.ensures, ← c.spares.ensures, ← c.way.ensures, ← c.next.ensures) c.walk.ensures
