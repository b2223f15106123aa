-- A word and its eight nibbles, the lowest being nibble 0 (document 01, "Nibbles, bytes and Gray words").
use Rattle.std.specs.Prelude.{ℕ, ◌+◌, ◌*◌, ◌/◌, ◌%◌, ◌^◌, List, [], ◌∷◌}

-- nibble k of a word
unfoldable pub nibble_of : ℕ → ℕ → ℕ
nibble_of w k = w / 16 ^ k % 16

-- the word of these nibbles, lowest first; of a larger number only the low four bits count
unfoldable pub word_of : List ℕ → ℕ
word_of [] = 0
word_of (n ∷ ns) = n % 16 + 16 * word_of ns
