-- To put a byte (document 01, "The chip as lent").
use Rattle.std.specs.Prelude.{ℕ, Bool, true, cond, [], ◌∷◌, eqb}
use Rattle.cells.specs.Chip.{Chip, cell_at, write_at}
use Rattle.cells.specs.Run.{Run, run, still, write}

-- a write that has been asked for, and the cell read back
abbrev pub read_back : ℕ → ℕ → Chip → Run Bool
read_back a b t = run (eqb (cell_at t a) b) (write a b ∷ []) 0 t

-- a cell that already reads the byte is not written; otherwise it is written once and read back, and the
-- put holds if the byte is there
unfoldable pub put_at : ℕ → ℕ → Chip → Run Bool
put_at a b s = cond (eqb (cell_at s a) b) (still true s) (read_back a b (write_at a b s))
