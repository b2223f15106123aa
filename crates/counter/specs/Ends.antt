-- The ends of a map: its highest High pointer and its lowest Low one, between which the cells not yet taken lie (document 02, P8).
use Rattle.std.specs.Prelude.{ℕ, ◌-◌, Bool, cond, ◌&&◌, List, length}
use Rattle.counter.specs.declared.ends.Ends.{Ends}
use Rattle.counter.specs.declared.places.Places.{Places}
use Rattle.counter.specs.Layout.{Layout}
use Rattle.counter.specs.Places.{length_good, places_good}
use Rattle.counter.specs.Map.{map_in, marked, pointer_of, sound}
use Rattle.counter.specs.Spares.{gap_of}

abbrev pub ends : ℕ → ℕ → Ends
ends highest lowest = record { highest = highest; lowest = lowest }

-- no map that can be used
abbrev pub none : Ends
none = ends 0 0

-- the image's length and the settings are good, the mark is there and the map is sound
unfoldable pub usable : Layout → Places → List ℕ → Bool
usable layout p cells =
    length_good layout (length cells)
    && places_good layout (length cells) p
    && marked (map_in layout p cells)
    && sound layout p (pointer_of (map_in layout p cells))

-- the ends of an image's map: what all pointers leave starts one above the highest High one (in their own words: `ends_are`,
-- proofs/EndLaws.antt)
unfoldable pub ends_of : Layout → Places → List ℕ → Ends
ends_of layout p cells =
    let gap = gap_of layout p (pointer_of (map_in layout p cells)) in
    cond (usable layout p cells) (ends (gap.high - 1) gap.low) none
