-- `ends::ends_of` meets its contract.
use Rattle.std.proofs.Common.{◌≡◌, sym, ◌∙◌, arith}
use Rattle.counter.specs.Layout.{two}
use Rattle.counter.specs.Map.{map_in, pointer_of}
use Rattle.counter.specs.Spares.{gap_of}
use Rattle.counter.proofs.Settings.{good_placed, length_good_lem}
use Rattle.counter.proofs.MapBytes.{map_whole}
use Rattle.counter.proofs.Gaps.{between_map}
use Rattle.counter.proofs.EndLaws.{Usable, usable_facts, ends_used, ends_unused}
use Rattle.counter.proofs.ends.ends_of.Goals as goal

pub returns-then-not-is_usable : goal.returns-then-not-is_usable
returns-then-not-is_usable c = sym (ends_unused two _ _ (sym c.is_usable.ensures ∙ c.if-not-is_usable.true))

pub cells-requires : goal.cells-requires
cells-requires c =
    let facts : let s = c.args in Usable two s.p s.image.now =
    usable_facts two _ _ (sym c.is_usable.ensures ∙ c.if-not-is_usable.false) in let placed = good_placed two _ _ facts.good in let at = c.at.ensures in omega arith

pub gap_of-gap-requires : goal.gap_of-gap-requires
gap_of-gap-requires c =
    let facts : let s = c.args in Usable two s.p s.image.now =
    usable_facts two _ _ (sym c.is_usable.ensures ∙ c.if-not-is_usable.false) in
    let map : let s = c.args in c.cells.result.now ≡ map_in two s.p s.image.now =
    rw (← c.at.ensures) c.cells.ensures in
    let placed = good_placed two _ _ facts.good in
    let long = length_good_lem two _ facts.long in
    let whole = map_whole _ placed in
    (rw map whole, rw map (omega arith), omega arith)

pub overflow_sub-result : goal.overflow_sub-result
overflow_sub-result c =
    let facts : let s = c.args in Usable two s.p s.image.now =
    usable_facts two _ _ (sym c.is_usable.ensures ∙ c.if-not-is_usable.false) in
    let map : let s = c.args in c.cells.result.now ≡ map_in two s.p s.image.now =
    rw (← c.at.ensures) c.cells.ensures in
    let left : let s = c.args in
    let p = s.p in c.gap_of-gap.result ≡ gap_of two p (pointer_of (map_in two p s.image.now)) =
    rw (← map) c.gap_of-gap.ensures in
    let placed = good_placed two _ _ facts.good in
    let first = placed.start_low in
    let s = c.args in
    let p = s.p in
    let start = (between_map two p (pointer_of (map_in two p s.image.now))).start in
    rw left (omega arith)

pub returns : goal.returns
returns c =
    let map : let s = c.args in c.cells.result.now ≡ map_in two s.p s.image.now =
    rw (← c.at.ensures) c.cells.ensures in
    let left : let s = c.args in
    let p = s.p in c.gap_of-gap.result ≡ gap_of two p (pointer_of (map_in two p s.image.now)) =
    rw (← map) c.gap_of-gap.ensures in
    rw left (sym (ends_used two _ _ (sym c.is_usable.ensures ∙ c.if-not-is_usable.false)))
