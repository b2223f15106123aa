-- Rows of cells (document 01, "The map" and "Storing, opening, stepping").
use Rattle.std.specs.Prelude.{ℕ, zero, suc, ◌+◌, ◌-◌, ◌≤◌, ◌<◌, Bool, cond, List, [], ◌∷◌, Option, Some, None}
use Rattle.cells.specs.declared.row.Way.{Way}
use Rattle.cells.specs.declared.row.Way.TheVariants.{Up, Down}
use Rattle.cells.specs.Chip.{Chip}
use Rattle.cells.specs.Run.{Write, write, Run, run, still, ◌then◌, ◌giving◌}
use Rattle.cells.specs.Put.{put_at}

-- the neighbour that comes next
unfoldable pub next : Way → ℕ → ℕ
next Up a = a + 1
next Down a = a - 1

-- the j-th cell of a row, the first being number 0
abbrev pub nth : Way → ℕ → ℕ → ℕ
nth Up a j = a + j
nth Down a j = a - j

-- the n cells from a on are in an image of so many cells
abbrev pub RowFits : ℕ → Way → ℕ → ℕ → Type 0
RowFits size Up a n = a + n ≤ size
RowFits size Down a n = (n ≤ a + 1) × (0 < n → a < size)

-- the address is one of the n cells from a on
abbrev pub InRow : ℕ → Way → ℕ → ℕ → Type 0
InRow n Up a c = (a ≤ c) × (c < a + n)
InRow n Down a c = (c ≤ a) × (a < c + n)

-- a put that counts as a cell tried
unfoldable pub try_at : ℕ → ℕ → Chip → Run Bool
try_at a b s = let r = put_at a b s in run r.answer r.log 1 r.after

-- n cells from a on are tried, one after another, until one holds the byte: where it held
unfoldable pub walk : ℕ → Way → ℕ → ℕ → Chip → Run (Option ℕ)
walk zero way a b s = still None s
walk (suc n) way a b s =
    let r = try_at a b s in
    let rest = r then walk n way (next way a) b r.after in
    cond r.answer (r giving Some a) rest

-- bytes put at neighbouring cells from a on, up to the first that does not hold: where that was
unfoldable pub put_row : List ℕ → ℕ → Chip → Run (Option ℕ)
put_row [] a s = still None s
put_row (b ∷ bs) a s =
    let r = put_at a b s in
    let rest = r then put_row bs (a + 1) r.after in
    cond r.answer rest (r giving Some a)

-- the byte asked of each of the n cells from a on
unfoldable pub asks : ℕ → Way → ℕ → ℕ → List Write
asks zero way a b = []
asks (suc n) way a b = write a b ∷ asks n way (next way a) b
