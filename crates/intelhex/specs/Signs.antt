-- The signs of an Intel HEX text, and bytes as two digits.
use Rattle.std.specs.Prelude.{ℕ, zero, suc, ◌+◌, ◌-◌, ◌*◌, ◌/◌, ◌%◌, Bool, cond, ◌&&◌, List, [], ◌∷◌, ◌++◌, nat_le, nat_lt, slice_index}

-- the signs beside digits
abbrev pub line_feed : ℕ
line_feed = 10

abbrev pub carriage_return : ℕ
carriage_return = 13

abbrev pub colon : ℕ
colon = 58

-- the sign of a digit from 0 to 15: 48 is 0, and 65 the capital A
unfoldable pub digit : ℕ → ℕ
digit d = cond (nat_lt d 10) (48 + d) (55 + d)

-- what a sign that is no digit counts: more than a byte, and than all bytes of a line together
abbrev pub no_digit : ℕ
no_digit = 131072

-- from one sign up to another, both included
abbrev pub within : ℕ → ℕ → ℕ → Bool
within low high sign = nat_le low sign && nat_le sign high

-- what a sign counts as a digit: 0 to 9, and A to F in either letter case
unfoldable pub value_of : ℕ → ℕ
value_of sign =
    cond (within 48 57 sign) (sign - 48) (cond (within 65 70 sign) (sign - 55) (cond (within 97 102 sign) (sign - 87) no_digit))

-- a byte as two digits, and bytes one after another
unfoldable pub two_digits : ℕ → List ℕ
two_digits byte = digit (byte / 16) ∷ digit (byte % 16) ∷ []

unfoldable pub in_digits : List ℕ → List ℕ
in_digits [] = []
in_digits (byte ∷ bytes) = two_digits byte ++ in_digits bytes

-- the byte whose two digits stand at i and i + 1, and so many from there on
unfoldable pub byte_at : List ℕ → ℕ → ℕ
byte_at signs i = 16 * value_of (slice_index signs i) + value_of (slice_index signs (i + 1))

unfoldable pub bytes_at : List ℕ → ℕ → ℕ → List ℕ
bytes_at signs i zero = []
bytes_at signs i (suc more) = byte_at signs i ∷ bytes_at signs (i + 2) more

-- the sum of some bytes
unfoldable pub total : List ℕ → ℕ
total [] = 0
total (byte ∷ bytes) = byte + total bytes
