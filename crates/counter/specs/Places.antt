-- The image's length and the place settings (document 01, "The chip as lent"). Sums are whole-number sums.
use Rattle.std.specs.Prelude.{ℕ, ◌+◌, ◌-◌, ◌*◌, Bool, ◌&&◌, ◌||◌, length, ◌==◌, nat_le, nat_lt}
use Rattle.cells.specs.Chip.{Chip}
use Rattle.counter.specs.declared.places.Places.{Places}
use Rattle.counter.specs.Layout.{Layout, slots, map_cells}

abbrev pub places : ℕ → ℕ → ℕ → Places
places m s e = record { map = m; start = s; end = e }

-- setting A, on which the bench measures
abbrev pub setting_a : Places
setting_a = places 1 25 128

-- the image is 41 to 4096 bytes long; 41 is room for cell 0, the map and an area of the least size
unfoldable pub length_good : Layout → ℕ → Bool
length_good layout n = nat_le (1 + map_cells layout + slots layout) n && nat_le n 4096

-- M and S are at least 1; M + 24 <= N; E < N; S <= 246; the area has at least 16 cells; the map cells do
-- not meet the area
unfoldable pub places_good : Layout → ℕ → Places → Bool
places_good layout n p =
    nat_le 1 p.map
    && nat_le 1 p.start
    && nat_le (p.map + map_cells layout) n
    && nat_lt p.end n
    && nat_le p.start (256 - 5 * layout.copies)
    && nat_le (p.start + slots layout) (p.end + 1)
    && (nat_le (p.map + map_cells layout) p.start || nat_lt p.end p.map)

-- lives as many as the cells
unfoldable pub lives_good : Chip → Bool
lives_good s = length s.lives == length s.cells
