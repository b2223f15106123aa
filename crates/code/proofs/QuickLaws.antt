-- The nearest-code rule, computed quickly: the bits of a byte are counted in eight steps, and not in as many as the byte is large.
--   quick_twofold    whether a byte is one bit from two codes
--   quick_reading    the reading of a byte
--   reading_quick    it is that by the rule
--   by_quick         what is made of both is the same by the rule and quickly
--   quick_entry      the entry of a byte
--   entries_quick    the table holds these entries
use mathlib.Core.Path.{◌≡◌, refl, ap, ◌∙◌}
use mathlib.Core.Bool.{Bool, cond}
use mathlib.Core.List.{List, [], ◌∷◌}
use Prim.Native.Nat.{ℕ, zero, suc, ◌+◌, ◌/◌, ◌%◌, ◌^◌, ◌<◌}
use native.Mathlib.Omega.{arith}
use native.Mathlib.Numerals.{unary_clauses}
use borrow.Author.Rules.{rules}
use lib.Bits.{bit_xor, xor_lt}
use lib.Count.{ones, ones_in, ones_step}
use lib.Dec.{eqb}
use lib.Pow.{shr_lt}
use Rattle.code.specs.declared.reading.Reading.{Reading}
use Rattle.code.specs.declared.reading.Reading.TheVariants.{Lost}
use Rattle.code.specs.Codes.{codes, distance}
use Rattle.code.specs.Readings.{keep, near_from, near, nearest, erased, reading_of, several, twofold}
use Rattle.code.specs.Entries.{entry_from, entry_of, entries}
use Rattle.code.specs.Tabulate.{tabulate}
use Rattle.code.proofs.TabulateLaws.{alike}

-- as many steps as there are bits count them all
counted : (d n : ℕ) → n < 2 ^ d → ones n ≡ ones_in d n
unfolding ones ones_in
counted zero zero small = refl
counted zero (suc n) small = absurd (omega arith)
counted (suc d) n small = ones_step n ∙ ap (λ rest. n % 2 + rest) (counted d (n / 2) (shr_lt d 1 (simp unary_clauses (simp unary_clauses at small))))

-- the nibbles, from d on, whose codes, listed from d on, differ from the byte b in just k bits
abbrev quick_from : ℕ → ℕ → ℕ → List ℕ → List ℕ
quick_from k b d [] = []
quick_from k b d (x ∷ xs) = keep (eqb (ones_in 8 (bit_xor b x)) k) d (quick_from k b (d + 1) xs)

-- bytes, all of them
abbrev Bytes : List ℕ → Type 0
Bytes [] = Unit
Bytes (x ∷ xs) = (x < 256) × Bytes xs

from_quick : (k b d : ℕ) (xs : List ℕ) → b < 256 → Bytes xs → near_from k b d xs ≡ quick_from k b d xs
unfolding near_from distance
from_quick k b d [] small bytes = refl
from_quick k b d (x ∷ xs) small bytes =
    let count = counted 8 (bit_xor b x) (xor_lt 8 b x small bytes.0) in
    let rest = from_quick k b (d + 1) xs small bytes.1 in
    λ t. keep (eqb (count t) k) d (rest t)

-- the nibbles whose codes differ from the byte b in just k bits
abbrev quick_near : ℕ → ℕ → List ℕ
quick_near k b = quick_from k b 0 codes

near_quick : (k b : ℕ) → b < 256 → near k b ≡ quick_near k b
unfolding codes near
near_quick k b small = from_quick k b 0 codes small (search rules)

-- whether the byte b is one bit from two codes
abbrev pub quick_twofold : ℕ → Bool
quick_twofold b = several (quick_near 1 b)

-- the reading of the byte b
abbrev pub quick_reading : ℕ → Reading
quick_reading b = cond (erased b) Lost (nearest b (quick_near 0 b) (quick_near 1 b))

-- it is that by the rule
pub reading_quick : (b : ℕ) → b < 256 → reading_of b ≡ quick_reading b
unfolding reading_of
reading_quick b small = λ t. cond (erased b) Lost (nearest b (near_quick 0 b small t) (near_quick 1 b small t))

-- what is made of both is the same by the rule and quickly
pub by_quick : {A : Type 0} (make : Bool → Reading → A) (b : ℕ) → b < 256 → make (twofold b) (reading_of b) ≡ make (quick_twofold b) (quick_reading b)
unfolding twofold
by_quick make b small = λ t. make (several (near_quick 1 b small t)) (reading_quick b small t)

-- the entry of the byte b
abbrev pub quick_entry : ℕ → ℕ
quick_entry b = entry_from (quick_twofold b) (quick_reading b)

-- the table holds these entries
pub entries_quick : entries ≡ tabulate quick_entry 0 256
unfolding entries entry_of
entries_quick = alike entry_of quick_entry 256 (by_quick entry_from)
