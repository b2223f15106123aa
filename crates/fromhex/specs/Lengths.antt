-- The length that the argument of `fromhex` asks for.
use Rattle.std.specs.Prelude.{ℕ, ◌+◌, ◌-◌, ◌*◌, min, cond, ◌&&◌, List, [], ◌∷◌, leb}

-- any length that no image has serves for all of them that are larger, and for an argument that is no number
abbrev pub too_long : ℕ
too_long = 4097

-- a number with one digit more
unfoldable pub with_digit : ℕ → ℕ → ℕ
with_digit n byte = cond (leb 48 byte && leb byte 57) (min too_long (10 * n + (byte - 48))) too_long

unfoldable pub length_from : ℕ → List ℕ → ℕ
length_from n [] = n
length_from n (byte ∷ bytes) = length_from (with_digit n byte) bytes

-- the number that all digits come to
abbrev pub length_of : List ℕ → ℕ
length_of digits = length_from 0 digits
