-- Laws of the addresses of a row.
use Prim.Native.Nat.{ℕ, suc, ◌+◌, ◌≤◌, ◌<◌}
use mathlib.Core.Path.{◌≡◌}
use native.Mathlib.Omega.{arith}
use Rattle.cells.specs.declared.row.Way.{Way}
use Rattle.cells.specs.declared.row.Way.TheVariants.{Up, Down}
use Rattle.cells.specs.Row.{next, nth, RowFits, InRow}

-- the first cell of a row is number 0
pub nth_zero : (way : Way) (a : ℕ) → nth way a 0 ≡ a
nth_zero Up a = omega arith
nth_zero Down a = omega arith

-- the neighbour of the j-th cell is the next one
pub nth_next : (way : Way) (a j : ℕ) → next way (nth way a j) ≡ nth way a (j + 1)
unfolding next
nth_next Up a j = omega arith
nth_next Down a j = omega arith

-- so is the j-th cell from the neighbour on
pub nth_suc : (way : Way) (a j : ℕ) → nth way (next way a) j ≡ nth way a (suc j)
unfolding next
nth_suc Up a j = omega arith
nth_suc Down a j = omega arith

-- the j-th cell of a row is in the row
pub in_row : {n j : ℕ} (way : Way) (a : ℕ) → j < n → InRow n way a (nth way a j)
in_row Up a h = omega arith
in_row Down a h = omega arith

-- so is the first
pub in_first : (n : ℕ) (way : Way) (a : ℕ) → InRow (suc n) way a a
in_first n Up a = omega arith
in_first n Down a = omega arith

-- so is each cell from the neighbour on
pub in_longer : (n : ℕ) (way : Way) (a c : ℕ) → InRow n way (next way a) c → InRow (suc n) way a c
unfolding next
in_longer n Up a c r = omega arith
in_longer n Down a c r = omega arith

-- a cell of a row that fits is in the image
pub in_fits : (size n : ℕ) (way : Way) (a c : ℕ) → RowFits size way a n → InRow n way a c → c < size
in_fits size n Up a c f r = omega arith
in_fits size n Down a c f r = let inside = f.1 (omega arith) in omega arith

-- so is its j-th cell
pub nth_fits : {n j : ℕ} (size : ℕ) (way : Way) (a : ℕ) → j < n → RowFits size way a n → nth way a j < size
nth_fits {n} {j} size way a h f = in_fits size n way a (nth way a j) f (in_row way a h)

-- a shorter row fits a larger image
pub row_part : {m n : ℕ} (size larger : ℕ) (way : Way) (a : ℕ) → m ≤ n → size ≤ larger → RowFits size way a n → RowFits larger way a m
row_part size larger Up a h k f = omega arith
row_part size larger Down a h k f = (omega arith, λ p. let inside = f.1 (omega arith) in omega arith)
