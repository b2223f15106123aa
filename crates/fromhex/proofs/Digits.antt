-- The laws of the length that is asked for: one digit more, and that a plain decimal asks for its number, or for one that is too long.
use Prim.Native.Nat.{ℕ, zero, suc, ◌+◌, ◌*◌, ◌-◌, ◌/◌, ◌%◌, ◌≤◌, ◌<◌, min}
use mathlib.Core.Path.{◌≡◌, refl, ◌∙◌}
use mathlib.Core.List.{List, [], ◌∷◌, ◌++◌}
use native.Mathlib.Decide.{dec_le}
use native.Mathlib.Nat.{lt-suc_self}
use native.Mathlib.Numerals.{add-one}
use native.Mathlib.Omega.{arith}
use borrow.Author.Tests.{le-leb, lt-leb}
use lib.ListN.{length, drop, get_or}
use lib.Seq.{drop-cons}
use Rattle.text.specs.Text.{digit, decimal}
use Rattle.text.proofs.Decimals.{decimal_small, decimal_more}
use Rattle.fromhex.specs.Lengths.{too_long, with_digit, length_from, length_of}

module _ (n byte : ℕ) where
  -- a byte that is no digit
  pub below_digits : byte < 48 → with_digit n byte ≡ too_long
  unfolding with_digit
  below_digits below = rw (lt-leb 48 byte below)

  pub above_digits : 48 ≤ byte → 57 < byte → with_digit n byte ≡ too_long
  unfolding with_digit
  above_digits from above = rw (le-leb 48 byte from, lt-leb byte 57 above)

  -- a digit
  pub at_digit : 48 ≤ byte → byte ≤ 57 → with_digit n byte ≡ min too_long (10 * n + (byte - 48))
  unfolding with_digit
  at_digit from to = rw (le-leb 48 byte from, le-leb byte 57 to)

-- the next of some digits
pub length_next : (n : ℕ) (digits : List ℕ) (at : ℕ) → at < length digits
    → length_from n (drop at digits) ≡ length_from (with_digit n (get_or digits at 0)) (drop (at + 1) digits)
unfolding length_from
length_next n digits at inside = rw (drop-cons digits at 0 inside, add-one)

-- none is left
pub length_end : (n : ℕ) (digits : List ℕ) → digits ≡ [] → length_from n digits ≡ n
unfolding length_from
length_end n digits none = rw none

-- one digit behind others
length_last : (n : ℕ) (digits : List ℕ) (byte : ℕ) → length_from n (digits ++ (byte ∷ [])) ≡ with_digit (length_from n digits) byte
unfolding length_from
length_last n [] byte = refl
length_last n (first ∷ digits) byte = length_last (with_digit n first) digits byte

-- a plain decimal asks for its number, or for one that is too long
pub asks : (n : ℕ) → length_of (decimal n) ≡ min too_long n
asks n = go (suc n) n (lt-suc_self n)
  where
    go : (k m : ℕ) → m < k → length_of (decimal m) ≡ min too_long m
    go zero m below = absurd (omega arith)
    go (suc k) m below =
        elim (dec_le 10 m) [
          | yes large ↦
              rw (decimal_more m large, length_last 0 (decimal (m / 10)) (digit (m % 10)), go k (m / 10) (omega arith))
              (at_digit _ (digit (m % 10)) (omega arith) (omega arith) ∙ omega arith)
          | no not_large ↦
              rw (decimal_small m (omega arith))
              (length_last 0 [] (digit (m % 10)) ∙ at_digit _ (digit (m % 10)) (omega arith) (omega arith) ∙ omega (arith, length_end 0 [] refl))
        ]
