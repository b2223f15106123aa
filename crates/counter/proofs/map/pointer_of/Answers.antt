-- `map::pointer_of` meets its contract.
use Rattle.std.proofs.Common.{◌+◌, sym, ◌∙◌, arith}
use Rattle.counter.proofs.Offsets.{low_slot, high_slot, offset_low, offset_high, pointer_low, pointer_high}
use Rattle.counter.proofs.map.pointer_of.Goals as goal

pub bounds-map-at : goal.bounds-map-at
bounds-map-at c = let low = low_slot _ (sym c.of.ensures ∙ c.in-Low.is) in omega (arith, offset_low _ low)

pub overflow_add-at : goal.overflow_add-at
overflow_add-at c = let low = low_slot _ (sym c.of.ensures ∙ c.in-Low.is) in omega (arith, offset_low _ low)

pub bounds-map-at-in-Low : goal.bounds-map-at-in-Low
bounds-map-at-in-Low c = let low = low_slot _ (sym c.of.ensures ∙ c.in-Low.is) in omega (arith, offset_low _ low)

pub bounds-map-offset_of : goal.bounds-map-offset_of
bounds-map-offset_of c = let high = high_slot _ (sym c.of.ensures ∙ c.in-High.is) in omega (arith, offset_high _ high)

pub returns-in-Low : goal.returns-in-Low
returns-in-Low c =
    let low = low_slot _ (sym c.of.ensures ∙ c.in-Low.is) in
    let first = c.type_inv.map c.offset_of-at.result in
    let second = c.type_inv.map (c.offset_of-at.result + 1) in
    (rw (pointer_low _ _ low, ← c.offset_of-at.ensures, c.from.ensures, c.from-in-Low.ensures), omega arith, λ h. absurd (omega arith))

pub returns-in-High : goal.returns-in-High
returns-in-High c =
    let high = high_slot _ (sym c.of.ensures ∙ c.in-High.is) in
    let byte = c.type_inv.map c.offset_of.result in
    (rw (pointer_high _ _ high, ← c.offset_of.ensures, c.from-in-High.ensures), omega arith, λ h. omega arith)
