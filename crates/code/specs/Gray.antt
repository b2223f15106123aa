-- Gray words (document 01, "Nibbles, bytes and Gray words").
use Rattle.std.specs.Prelude.{ℕ, zero, suc, ◌/◌}
use Rattle.std.specs.Int.Bits.{bit_xor}
use Rattle.std.specs.Int.Count.{count_trailing_zeros}

-- the bits of a count and of a Gray word
unfoldable pub bits : ℕ
bits = 32

-- the Gray word of a count
unfoldable pub gray_of : ℕ → ℕ
gray_of c = bit_xor c (c / 2)

-- the way back over so many bits: the word and all its halves, down to nothing, in one exclusive-or
unfoldable pub halves_of : ℕ → ℕ → ℕ
halves_of zero g = zero
halves_of (suc k) g = bit_xor g (halves_of k (g / 2))

-- the count of a Gray word
unfoldable pub count_of : ℕ → ℕ
count_of g = halves_of bits g

-- the number of the one bit in which the Gray words of c - 1 and c differ
unfoldable pub changed_bit : ℕ → ℕ
changed_bit c = count_trailing_zeros bits c
