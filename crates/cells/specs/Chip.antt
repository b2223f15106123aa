-- A chip as lent, and a write to one of its cells (document 01, "The chip as lent").
use Rattle.std.specs.Prelude.{ℕ, ◌-◌, ◌≡◌, cond, List, get_or, length, set, ltb}

-- what each cell reads, and the good writes left in it
pub record Chip : Type 0 where
  pub cells : List ℕ
  pub lives : List ℕ

abbrev pub chip : List ℕ → List ℕ → Chip
chip cells lives = record { cells = cells; lives = lives }

abbrev pub cell_at : Chip → ℕ → ℕ
cell_at s a = get_or s.cells a 0

abbrev pub life_at : Chip → ℕ → ℕ
life_at s a = get_or s.lives a 0

-- a cell of life 1 or more stores the byte and loses one; a cell of life 0 changes nothing
unfoldable pub write_at : ℕ → ℕ → Chip → Chip
write_at a b s = cond (ltb 0 (life_at s a)) (chip (set s.cells a b) (set s.lives a (life_at s a - 1))) s

-- there are as many lives as cells
abbrev pub Paired : Chip → Type 0
Paired s = length s.lives ≡ length s.cells

-- the second chip is as long as the first, and the same at every address outside the place
pub record Kept (Place : ℕ → Type 0) (s t : Chip) : Type 0 where
  pub cells_length : length t.cells ≡ length s.cells
  pub lives_length : length t.lives ≡ length s.lives
  pub cell : (c : ℕ) → (Place c → ⊥) → cell_at t c ≡ cell_at s c
  pub life : (c : ℕ) → (Place c → ⊥) → life_at t c ≡ life_at s c
