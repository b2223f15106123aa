-- `store::cells_of` meets its contract.
use Rattle.std.proofs.Common.{◌≡◌, ℕ, length, take, drop, ap, ◌∙◌, arith, length-drop, length-take}
use Rattle.counter.specs.Map.{map_in}
use Rattle.counter.proofs.Settings.{good_placed}
use Rattle.counter.specs.Layout.{two}
use Rattle.counter.proofs.store.cells_of.Goals as goal

pub cells-map-requires : goal.cells-map-requires
cells-map-requires c = let placed = good_placed two _ _ c.requires.0 in omega arith

pub pointer_of-requires : goal.pointer_of-requires
pointer_of-requires c =
    let map : let s = c.args in c.cells-map.result.now ≡ map_in two s.p s.image.now =
    let s = c.args in
    c.cells-map.ensures ∙ ap (λ (m : ℕ). take 24 (drop m s.image.now)) c.at.ensures in
    let long : length c.cells-map.result.now ≡ 24 =
    let placed = good_placed two _ _ c.requires.0 in
    rw map (simp (length-take, length-drop) (omega arith)) in let h = c.requires.1 in (omega arith, omega (arith, long))

pub pointer_of-requires-2 : goal.pointer_of-requires-2
pointer_of-requires-2 c =
    let map : let s = c.args in c.cells-map.result.now ≡ map_in two s.p s.image.now =
    let s = c.args in
    c.cells-map.ensures ∙ ap (λ (m : ℕ). take 24 (drop m s.image.now)) c.at.ensures in
    let long : length c.cells-map.result.now ≡ 24 =
    let placed = good_placed two _ _ c.requires.0 in
    rw map (simp (length-take, length-drop) (omega arith)) in let h = c.requires.1 in (omega arith, omega (arith, long))
