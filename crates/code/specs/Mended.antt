-- Which bits were mended (document 02, P1).
use Rattle.std.specs.Prelude.{ℕ, zero, suc, ◌+◌, Bool, false, cond, List, eqb}
use Rattle.code.specs.declared.reading.Reading.{Reading}
use Rattle.code.specs.declared.reading.Reading.TheVariants.{Clean, Mended, Lost}
use Rattle.code.specs.Tabulate.{tabulate}

-- whether a reading was mended in bit i
unfoldable pub mended_in : ℕ → Reading → Bool
mended_in i (Clean d) = false
mended_in i (Mended d bit) = eqb bit i
mended_in i Lost = false

-- of how many of the numbers below n the test holds
unfoldable pub how_many : ℕ → (ℕ → Bool) → ℕ
how_many zero test = 0
how_many (suc n) test = how_many n test + cond (test n) 1 0

-- how many of the first n readings were mended in each of the bits 0 to 7
unfoldable pub bit_counts : ℕ → (ℕ → Reading) → List ℕ
bit_counts n reading = tabulate (λ i. how_many n (λ k. mended_in i (reading k))) 0 8

-- none was, in any bit
abbrev pub no_bits : List ℕ
no_bits = tabulate (λ i. 0) 0 8
