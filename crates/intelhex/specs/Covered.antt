-- How often the lines of a text have an address, and with which byte (document 02, P2).
use Rattle.std.specs.Prelude.{ℕ, ◌+◌, ◌-◌, Bool, cond, ◌&&◌, List, [], ◌∷◌, nat_le, nat_lt, slice_index}
use Rattle.intelhex.specs.Lines.{Line}
use Rattle.intelhex.specs.Faults.{count_of, address_of, data_of}

-- whether a line has data for an address
abbrev pub has : ℕ → List ℕ → Bool
has a signs = nat_le (address_of signs) a && nat_lt a (address_of signs + count_of signs)

-- how many of the data bytes of some lines go to an address
unfoldable pub how_often : ℕ → List Line → ℕ
how_often a [] = 0
how_often a (line ∷ lines) = cond (has a line.signs) 1 0 + how_often a lines

-- the byte that a line has for an address
abbrev pub byte_for : ℕ → List ℕ → ℕ
byte_for a signs = slice_index (data_of signs) (a - address_of signs)
