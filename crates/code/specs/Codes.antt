-- The sixteen codes, and where two bytes differ (document 01, "Nibbles, bytes and Gray words"; document 02, P1).
use Rattle.std.specs.Prelude.{ℕ, ◌%◌, List, [], ◌∷◌, get_or}
use Rattle.std.specs.Int.Bits.{bit_xor}
use Rattle.std.specs.Int.Count.{ones, count_trailing_zeros}

-- the codes of 0 to 15
unfoldable pub codes : List ℕ
codes =
    0x80 ∷ 0x07 ∷ 0x19 ∷ 0x61 ∷ 0x2A ∷ 0x52 ∷ 0xB3 ∷ 0xCB ∷ 0x34 ∷ 0x4C ∷ 0xAD ∷ 0xD5 ∷ 0x9E ∷ 0xE6 ∷ 0xF8 ∷ 0x7F ∷ []

-- the code of a nibble; of a larger number only the low four bits count
unfoldable pub code_of : ℕ → ℕ
code_of d = get_or codes (d % 16) 0

-- the number of bits in which two bytes differ
unfoldable pub distance : ℕ → ℕ → ℕ
distance a b = ones (bit_xor a b)

-- of two bytes that differ in one bit, its number, 0 (lowest) to 7
abbrev pub differs_at : ℕ → ℕ → ℕ
differs_at a b = count_trailing_zeros 8 (bit_xor a b)
