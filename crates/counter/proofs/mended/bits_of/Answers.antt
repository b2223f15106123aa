-- `mended::bits_of` meets its contract, by what was found.
use Rattle.std.proofs.Common.{◌≡◌, ℕ, take, drop, sym, ap, ◌∙◌, arith}
use Rattle.counter.specs.Layout.{two, map_cells}
use Rattle.counter.specs.Map.{map_in}
use Rattle.counter.proofs.Settings.{good_placed}
use Rattle.counter.proofs.Ready.{sound_reaches}
use Rattle.counter.proofs.GoodVerdicts.{cells_good}
use Rattle.counter.proofs.MendedBits.{bits_good, bits_refused, bits_held}
use Rattle.counter.proofs.mended.bits_of.Goals as goal

pub returns-then-read : goal.returns-then-read
returns-then-read c =
    let found = rw c.in-Ok.is at c.requires in
    sym (bits_held two _ _ (sym found.0) (found.1 c.if-read.true))

pub cells-requires : goal.cells-requires
cells-requires c =
    let found = rw c.in-Ok.is at c.requires.0 in
    let placed = good_placed two _ _ (cells_good two _ _ (sym found)).0.good in omega arith

pub counted-requires : goal.counted-requires
counted-requires c =
    let found = rw c.in-Ok.is at c.requires.0 in
    let facts = (cells_good two _ _ (sym found)).0 in
    let map : let s = c.args in c.cells.result.now ≡ map_in two s.p s.image.now =
    c.cells.ensures ∙ ap (λ (place : ℕ). take (map_cells two) (drop place c.args.image.now)) c.at.ensures in
    rw map (sound_reaches _ (good_placed two _ _ facts.good) facts.sound)

pub returns-else-read : goal.returns-else-read
returns-else-read c =
    let found = rw c.in-Ok.is at c.requires.0 in
    let map : let s = c.args in c.cells.result.now ≡ map_in two s.p s.image.now =
    c.cells.ensures ∙ ap (λ (place : ℕ). take (map_cells two) (drop place c.args.image.now)) c.at.ensures in
    rw map at c.counted.ensures ∙ sym (bits_good two _ _ (sym found))

pub returns-in-Err : goal.returns-in-Err
returns-in-Err c = sym (bits_refused two _ _ (sym (rw c.in-Err.is at c.requires.0)))
