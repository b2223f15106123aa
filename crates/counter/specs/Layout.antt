-- How a count is laid out on a chip. What depends on it is over the layout; the doors of this delivery are its instance at
-- two copies.
use Rattle.std.specs.Prelude.{ℕ, ◌+◌, ◌*◌}
pub use Rattle.counter.specs.declared.layout.Layout.{Layout}

-- the layout of this delivery
abbrev pub two : Layout
two = record { copies = 2 }

-- slot k stands for nibble k % 8 of copy k / 8
abbrev pub slots : Layout → ℕ
slots layout = 8 * layout.copies

-- the map bytes of a copy
abbrev pub copy_bytes : ℕ
copy_bytes = 11

-- the map cells of a copy: each byte is kept in one cell
abbrev pub copy_cells : Layout → ℕ
copy_cells layout = copy_bytes

-- the cells of the map: the mark's two, and those of each copy
abbrev pub map_cells : Layout → ℕ
map_cells layout = 2 + copy_cells layout * layout.copies
