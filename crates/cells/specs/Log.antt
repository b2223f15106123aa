-- Logs: the writes that a piece of work asked for, in order, whether the cells took them or not.
use Rattle.std.specs.Prelude.{ℕ, ◌+◌, ◌≡◌, cond, List, [], ◌∷◌, leb}
use Rattle.cells.specs.Chip.{Chip, write_at}
use Rattle.cells.specs.Run.{Write, Run}

-- the chip after the writes of a log, one after another
unfoldable pub write_all : List Write → Chip → Chip
write_all [] s = s
write_all (w ∷ ws) s = write_all ws (write_at w.at w.byte s)

-- how many writes of a log were asked of cells from lo up to hi, both included
unfoldable pub asked_in : ℕ → ℕ → List Write → ℕ
asked_in lo hi [] = 0
asked_in lo hi (w ∷ ws) = cond (leb lo w.at) (cond (leb w.at hi) 1 0) 0 + asked_in lo hi ws

-- how many were asked of one cell
abbrev pub asked_of : ℕ → List Write → ℕ
asked_of a log = asked_in a a log

-- every write of a log was asked of a cell in the place
pub data Every (Place : ℕ → Type 0) : List Write → Type 0 where
  none : Every Place []
  more : {w : Write} {ws : List Write} → Place w.at → Every Place ws → Every Place (w ∷ ws)

-- work that changes the chip by the writes of its log alone, all of them in the place
pub record Within {A : Type 0} (Place : ℕ → Type 0) (s : Chip) (r : Run A) : Type 0 where
  pub logged : r.after ≡ write_all r.log s
  pub places : Every Place r.log
