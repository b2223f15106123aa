-- What a byte reads as: the nearest-code rule (document 01, "Nibbles, bytes and Gray words"; document 02, P1 and P3).
use Rattle.std.specs.Prelude.{ℕ, ◌+◌, Bool, true, false, cond, ◌||◌, List, [], ◌∷◌, eqb}
use Rattle.code.specs.declared.reading.Reading.{Reading}
use Rattle.code.specs.declared.reading.Reading.TheVariants.{Clean, Mended, Lost}
use Rattle.code.specs.Codes.{codes, code_of, distance, differs_at}

-- d in front of ds, where the test says so
abbrev pub keep : Bool → ℕ → List ℕ → List ℕ
keep true d ds = d ∷ ds
keep false d ds = ds

-- the nibbles, from d on, whose codes, listed from d on, differ from the byte b in just k bits
unfoldable pub near_from : ℕ → ℕ → ℕ → List ℕ → List ℕ
near_from k b d [] = []
near_from k b d (x ∷ xs) = keep (eqb (distance b x) k) d (near_from k b (d + 1) xs)

-- the nibbles whose codes differ from the byte b in just k bits
unfoldable pub near : ℕ → ℕ → List ℕ
near k b = near_from k b 0 codes

-- the reading of the byte b, given the nibbles whose code it is and those whose code is one bit away
abbrev pub nearest : ℕ → List ℕ → List ℕ → Reading
nearest b (d ∷ ds) ones = Clean d
nearest b [] (d ∷ ds) = Mended d (differs_at b (code_of d))
nearest b [] [] = Lost

-- whether b is what an erased or failed cell shows (P3): 00 or FF
abbrev pub erased : ℕ → Bool
erased b = eqb b 0x00 || eqb b 0xFF

-- lost when b is what an erased cell shows; else clean(d) when it is the code of d, mended(d) when it differs from the code of d
-- in one bit, which is named too, else lost
unfoldable pub reading_of : ℕ → Reading
reading_of b = cond (erased b) Lost (nearest b (near 0 b) (near 1 b))

abbrev pub several : List ℕ → Bool
several [] = false
several (d ∷ []) = false
several (d ∷ e ∷ ds) = true

-- a byte one bit from two codes (refusal 10)
unfoldable pub twofold : ℕ → Bool
twofold b = several (near 1 b)

-- whether a reading tells nothing
unfoldable pub is_lost : Reading → Bool
is_lost (Clean d) = false
is_lost (Mended d bit) = false
is_lost Lost = true

-- the nibble that a reading gives; 0 where it is lost
unfoldable pub nibble_read : Reading → ℕ
nibble_read (Clean d) = d
nibble_read (Mended d bit) = d
nibble_read Lost = 0
