-- Texts of key=value lines (document 01, "Measured on the bench"), quoted ones, and what it is to write into a lent text.
use Rattle.std.specs.Prelude.{ℕ, zero, suc, ◌+◌, ◌/◌, ◌%◌, ◌≡◌, cond, List, [], ◌∷◌, ◌++◌, ℤ, pos, negsuc, length, take, drop, ltb}
use Prim.Native.Char.{code}
use Prim.Native.String.{String, [] as none, ◌∷◌ as ◌then◌}

-- the bytes: a digit's, the minus sign, the equals sign and the line feed
abbrev pub digit : ℕ → ℕ
digit d = 48 + d

abbrev pub minus : ℕ
minus = 45

abbrev pub equals : ℕ
equals = 61

abbrev pub line_feed : ℕ
line_feed = 10

-- the last digits of n, at most so many, without leading zeros
unfoldable pub digits : ℕ → ℕ → List ℕ
digits zero n = []
digits (suc more) n = let front = digits more (n / 10) in cond (ltb n 10) [] front ++ (digit (n % 10) ∷ [])

-- n as a plain decimal; it never has more than n + 1 digits
unfoldable pub decimal : ℕ → List ℕ
decimal n = digits (suc n) n

-- a plain decimal with a minus sign where negative
unfoldable pub signed : ℤ → List ℕ
signed (pos n) = decimal n
signed (negsuc n) = minus ∷ decimal (suc n)

-- the line key=value, with its line feed
unfoldable pub line : List ℕ → List ℕ → List ℕ
line key value = key ++ (equals ∷ []) ++ value ++ (line_feed ∷ [])

-- the bytes of a quoted text
abbrev pub bytes_of : String → List ℕ
bytes_of none = []
bytes_of (sign then signs) = code sign ∷ bytes_of signs

-- bytes were written into a lent text from an index on, up to the next: what stood before and past them is kept
pub record Wrote (before : List ℕ) (at : ℕ) (bytes : List ℕ) (next : ℕ) (after : List ℕ) : Type 0 where
  pub ends : next ≡ at + length bytes
  pub holds : after ≡ take at before ++ bytes ++ drop (at + length bytes) before
