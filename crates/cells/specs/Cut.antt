-- Mains lost in a write (document 02, P6): work that is cut goes through the first writes of its log, then through one torn
-- write, and ends.
use Rattle.std.specs.Prelude.{ℕ, zero, suc, ◌≡◌, Bool, List, [], ◌∷◌, Option, Result, Ok, Err}
use Rattle.cells.specs.declared.mains.PowerLost.{PowerLost}
use Rattle.cells.specs.declared.put.BytePut.{BytePut}
use Rattle.cells.specs.declared.row.Walked.{Walked}
use Rattle.cells.specs.declared.row.RowPut.{RowPut}
use Rattle.cells.specs.Chip.{Chip, write_at}
use Rattle.cells.specs.Run.{Write, Run, Seen, seen, view, plus}

-- what work came to: it is whole, or the power was lost in a write to an address, which left such a chip
pub data Cut (A : Type 0) : Type 0 where
  whole : Seen A → Cut A
  lost : ℕ → Chip → Cut A

-- the writes of a log, n of them with power; the write behind these stores byte b in place of its own
unfoldable pub tear : {A : Type 0} → ℕ → ℕ → List Write → Seen A → Chip → Cut A
tear n b [] v s = whole v
tear zero b (w ∷ ws) v s = lost w.at (write_at w.at b s)
tear (suc n) b (w ∷ ws) v s = tear n b ws v (write_at w.at w.byte s)

-- a piece of work that started on a chip, with power for n of its writes
abbrev pub cut : {A : Type 0} → ℕ → ℕ → Run A → Chip → Cut A
cut n b r s = tear n b r.log (view r) s

-- the same, behind work that took so many writes and tries
abbrev pub later : {A : Type 0} → ℕ → ℕ → Cut A → Cut A
later w t (whole v) = whole (plus w t v)
later w t (lost a s) = lost a s

-- what a function says of it: what it shows of work that is whole, on the chip as it then is, or where the power was lost
abbrev pub sight : {A B : Type 0} → (B → Chip → Seen A) → Result B PowerLost → Chip → Cut A
sight shows (Ok x) t = whole (shows x t)
sight shows (Err loss) t = lost loss.at t

-- and that it is so of a piece of work that started on a chip
pub record Says {A : Type 0} (x : Cut A) (n b : ℕ) (r : Run A) (s : Chip) : Type 0 where
  pub so : x ≡ cut n b r s

-- what is shown of a put, of a walk, and of a row
abbrev pub put_shows : BytePut → Chip → Seen Bool
put_shows done t = seen done.held done.writes 0 t

abbrev pub walk_shows : Walked → Chip → Seen (Option ℕ)
walk_shows walked t = seen walked.found walked.writes walked.tried t

abbrev pub row_shows : RowPut → Chip → Seen (Option ℕ)
row_shows row t = seen row.failed row.writes 0 t
