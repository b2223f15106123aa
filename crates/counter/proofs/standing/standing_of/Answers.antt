-- `standing::standing_of` meets its contract.
use Rattle.std.proofs.Common.{◌≡◌, true, length, take, drop, sym, ap, ◌∙◌, arith}
use Rattle.counter.specs.Places.{length_good, places_good}
use Rattle.counter.specs.Map.{map_in, marked}
use Rattle.counter.specs.Inside.{standing_of}
use Rattle.counter.proofs.Settings.{good_placed}
use Rattle.counter.specs.Layout.{two, map_cells}
use Rattle.counter.proofs.standing.standing_of.Goals as goal

pub returns-then-not-length_good : goal.returns-then-not-length_good
unfolding standing_of
returns-then-not-length_good c = rw (sym c.length_good.ensures ∙ c.if-not-length_good.true)

pub returns-then-not-places_good : goal.returns-then-not-places_good
unfolding standing_of
returns-then-not-places_good c =
    let long : length_good two (length c.args.image.now) ≡ true =
    sym c.length_good.ensures ∙ c.if-not-length_good.false in rw (long, sym c.places_good.ensures ∙ c.if-not-places_good.true)

pub cells-requires : goal.cells-requires
cells-requires c =
    let placed : let s = c.args in places_good two (length s.image.now) s.p ≡ true =
    sym c.places_good.ensures ∙ c.if-not-places_good.false in let good = good_placed two _ _ placed in omega arith

pub returns-then-is_marked : goal.returns-then-is_marked
unfolding standing_of
returns-then-is_marked c =
    let long : length_good two (length c.args.image.now) ≡ true =
    sym c.length_good.ensures ∙ c.if-not-length_good.false in
    let placed : let s = c.args in places_good two (length s.image.now) s.p ≡ true =
    sym c.places_good.ensures ∙ c.if-not-places_good.false in
    let map : let s = c.args in c.cells.result.now ≡ map_in two s.p s.image.now =
    c.cells.ensures ∙ ap (λ at. take (map_cells two) (drop at c.args.image.now)) c.at.ensures in
    let mark : let s = c.args in marked (map_in two s.p s.image.now) ≡ c.is_marked.result =
    sym (c.is_marked.ensures ∙ ap marked map) in rw (long, placed, mark ∙ c.if-is_marked.true)

pub returns-else-is_marked : goal.returns-else-is_marked
unfolding standing_of
returns-else-is_marked c =
    let long : length_good two (length c.args.image.now) ≡ true =
    sym c.length_good.ensures ∙ c.if-not-length_good.false in
    let placed : let s = c.args in places_good two (length s.image.now) s.p ≡ true =
    sym c.places_good.ensures ∙ c.if-not-places_good.false in
    let map : let s = c.args in c.cells.result.now ≡ map_in two s.p s.image.now =
    c.cells.ensures ∙ ap (λ at. take (map_cells two) (drop at c.args.image.now)) c.at.ensures in
    let mark : let s = c.args in marked (map_in two s.p s.image.now) ≡ c.is_marked.result =
    sym (c.is_marked.ensures ∙ ap marked map) in rw (long, placed, mark ∙ c.if-is_marked.false)
