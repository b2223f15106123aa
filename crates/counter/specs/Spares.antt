-- The cells not yet taken (document 01, "The map"). High cells are taken upward from S and Low cells downward
-- from E, so two numbers say it all: the next High address, and the lowest Low pointer.
use Rattle.std.specs.Prelude.{ℕ, zero, suc, ◌+◌, ◌-◌, min, max, Bool, ◌&&◌, nat_le, nat_lt}
use Rattle.cells.specs.declared.row.Way.{Way}
use Rattle.cells.specs.declared.row.Way.TheVariants.{Up, Down}
use Rattle.counter.specs.declared.map.Kind.{Kind}
use Rattle.counter.specs.declared.map.Kind.TheVariants.{High, Low}
use Rattle.counter.specs.declared.places.Places.{Places}
use Rattle.counter.specs.declared.spares.Gap.{Gap}
use Rattle.counter.specs.Layout.{Layout, slots}
use Rattle.counter.specs.Slots.{kind_of}
use Rattle.counter.specs.Map.{in_area}

abbrev pub gap : ℕ → ℕ → Gap
gap high low = record { high = high; low = low }

-- before any cell is taken: the next High address is S, and Low pointers start past E
unfoldable pub whole_area : Places → Gap
whole_area p = gap p.start (p.end + 1)

-- an address of a kind is taken: the next High address is one above the highest High pointer, and the lowest
-- Low pointer may be a new one
unfoldable pub narrow : Kind → ℕ → Gap → Gap
narrow High a g = gap (max g.high (a + 1)) g.low
narrow Low a g = gap g.high (min g.low a)

-- what the pointers of the first so many slots leave
unfoldable pub gap_to : ℕ → Places → (ℕ → ℕ) → Gap
gap_to zero p pointer = whole_area p
gap_to (suc k) p pointer = narrow (kind_of k) (pointer k) (gap_to k p pointer)

-- what all pointers leave: the address above the highest High one, and the lowest Low one (`between_map`, proofs/Gaps.antt)
unfoldable pub gap_of : Layout → Places → (ℕ → ℕ) → Gap
gap_of layout p pointer = gap_to (slots layout) p pointer

-- a spare may be tried: it is in the area, a High one is at most 255 and below every Low pointer, a Low one is
-- above every High pointer
unfoldable pub may_try : Places → Kind → Gap → ℕ → Bool
may_try p High g a = in_area p a && nat_le a 255 && nat_lt a g.low
may_try p Low g a = in_area p a && nat_le g.high a

-- High spares are tried upward, Low ones downward
unfoldable pub way_of : Kind → Way
way_of High = Up
way_of Low = Down

-- the next address of a kind; the next Low one is one below the lowest Low pointer
unfoldable pub next_of : Kind → Gap → ℕ
next_of High g = g.high
next_of Low g = g.low - 1

-- how many cells may be tried from the next address on: just those of which `may_try` holds (`spares_tried`, proofs/Gaps.antt)
unfoldable pub spares_of : Kind → Gap → ℕ
spares_of High g = min 256 g.low - g.high
spares_of Low g = g.low - g.high
