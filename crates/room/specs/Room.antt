-- How many spare cells are left (document 02, P8): counted from the whole map, and from its two ends alone. They are the same
-- (`left_counted`, proofs/Rooms.antt).
use Rattle.std.specs.Prelude.{ℕ, zero, suc, ◌+◌, ◌-◌, min, Bool, cond, ◌&&◌, List, ltb, length}
use Rattle.counter.specs.declared.ends.Ends.{Ends}
use Rattle.counter.specs.declared.layout.Layout.{Layout}
use Rattle.counter.specs.declared.map.Kind.{Kind}
use Rattle.counter.specs.declared.map.Kind.TheVariants.{High, Low}
use Rattle.counter.specs.declared.places.Places.{Places}
use Rattle.counter.specs.Layout.{slots}
use Rattle.counter.specs.Slots.{kind_of, every}
use Rattle.counter.specs.Map.{map_in, pointer_of, in_area, reachable}
use Rattle.counter.specs.Ends.{usable}
use Rattle.room.specs.declared.left.Room.{Room}

abbrev pub room : ℕ → ℕ → Room
room high low = record { high = high; low = low }

-- ## From the whole map

-- a cell is above a High pointer, or below a Low one
unfoldable pub past : Kind → ℕ → ℕ → Bool
past High pointer a = ltb pointer a
past Low pointer a = ltb a pointer

-- a spare cell of a kind (document 01, "The map"): one of the area, at most 255 for a High one, above every High pointer and below every Low one.
-- So it is one that may be tried, and from the next address of its kind on.
unfoldable pub is_spare : Layout → Places → (ℕ → ℕ) → Kind → ℕ → Bool
is_spare layout p pointer kind a =
    in_area p a && reachable kind a && every (slots layout) (λ k. past (kind_of k) (pointer k) a)

-- how many numbers below n the test holds of
unfoldable pub count : ℕ → (ℕ → Bool) → ℕ
count zero test = 0
count (suc n) test = count n test + cond (test n) 1 0

-- the spare cells of an image, kind by kind; none where its map cannot be used
unfoldable pub room_of : Layout → Places → List ℕ → Room
room_of layout p cells =
    let spares : Kind → ℕ = λ kind. count (length cells) (is_spare layout p (pointer_of (map_in layout p cells)) kind) in
    cond (usable layout p cells) (room (spares High) (spares Low)) (room 0 0)

-- ## From the two ends

-- how many cells lie between two
abbrev pub between : ℕ → ℕ → ℕ
between below above = above - below - 1

-- above the highest High pointer and below the lowest Low one, and at most 255 for High; two that say none leave none
unfoldable pub left_of : Ends → Room
left_of ends = room (between ends.highest (min 256 ends.lowest)) (between ends.highest ends.lowest)
