-- `soundness::map_sound` meets its contract.
use mathlib.Core.Bool.{false≢true}
use Rattle.std.proofs.Common.{arith}
use Rattle.counter.specs.Layout.{two}
use Rattle.counter.proofs.Settings.{good_placed, length_good_lem}
use Rattle.counter.proofs.Standings.{stands_marked}
use Rattle.counter.proofs.soundness.map_sound.Goals as goal

pub cells-requires : goal.cells-requires
cells-requires c = let placed = good_placed two _ _ (stands_marked two _ _ c.requires).1 in omega arith

pub plainly_sound-requires : goal.plainly_sound-requires
plainly_sound-requires c =
    let facts = stands_marked two _ _ c.requires in
    let placed = good_placed two _ _ facts.1 in
    let long = length_good_lem two _ facts.0 in
    (omega arith, λ e. absurd (false≢true e))
