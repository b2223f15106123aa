-- Laws of the exclusive-or that the library leaves out.
--   same_bits   a number is its half and its lowest bit
--   xor_odd     the lowest bit is that of the sum
--   xor_back    the same number twice is as if it were not there
use mathlib.Core.Path.{◌≡◌, ap, ◌∙◌}
use Prim.Native.Nat.{ℕ, ◌+◌, ◌/◌, ◌%◌}
use native.Mathlib.Omega.{arith}
use lib.Bits.{bit_xor, xor_add_and, xor_assoc, xor_self, xor_zero_r}

-- a number is its half and its lowest bit
pub same_bits : (x y : ℕ) → x / 2 ≡ y / 2 → x % 2 ≡ y % 2 → x ≡ y
same_bits x y p q = omega arith

-- the lowest bit is that of the sum
pub xor_odd : (a b : ℕ) → bit_xor a b % 2 ≡ (a + b) % 2
xor_odd a b = let e = xor_add_and a b in omega arith

-- the same number twice is as if it were not there
pub xor_back : (a b : ℕ) → bit_xor (bit_xor a b) b ≡ a
xor_back a b = xor_assoc a b b ∙ ap (bit_xor a) (xor_self b) ∙ xor_zero_r a
