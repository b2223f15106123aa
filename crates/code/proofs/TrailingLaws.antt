-- Trailing zeros as powers of two that divide.
--   trailing_divides   a power of two up to the trailing zeros divides
--   divides_trailing   a power of two that divides is within the trailing zeros
--   trailing_less      a number of b bits that is not 0 has less than b trailing zeros
use mathlib.Core.Path.{◌≡◌, refl, sym, ap, ◌∙◌}
use Prim.Native.Nat.{ℕ, zero, suc, ◌+◌, ◌*◌, ◌/◌, ◌%◌, ◌^◌, ◌≤◌, ◌<◌, zero-le, suc-le-suc}
use native.Mathlib.Nat.{not-suc-le-zero, le_of_suc-le-suc, lt_of_not-le, mod-one, mod-eq_of_lt, pow-suc}
use native.Mathlib.Omega.{arith}
use lib.Arith.{mod-mul}
use lib.Count.{count_trailing_zeros, under}
use lib.Dec.{lit<}
use lib.Pow.{pow_pos}

-- the low digits of a number are those of its half and the lowest
low_digits : (n j : ℕ) → n % 2 ^ suc j ≡ (n / 2 % 2 ^ j) * 2 + n % 2
low_digits n j = ap (λ (x : ℕ). n % x) (pow-suc 2 j) ∙ mod-mul n (pow_pos j) (lit< tt)

-- a power of two up to the trailing zeros divides
pub trailing_divides : (b j n : ℕ) → j ≤ count_trailing_zeros b n → n % 2 ^ j ≡ 0
unfolding count_trailing_zeros
trailing_divides b zero n h = mod-one n
trailing_divides zero (suc j) n h = absurd (not-suc-le-zero h)
trailing_divides (suc b) (suc j) n h = go (n % 2) refl h (trailing_divides b j (n / 2))
  where
    go : (d : ℕ) → n % 2 ≡ d → suc j ≤ under d (count_trailing_zeros b (n / 2))
        → (j ≤ count_trailing_zeros b (n / 2) → n / 2 % 2 ^ j ≡ 0) → n % 2 ^ suc j ≡ 0
    go zero e l rest = let half = rest (le_of_suc-le-suc l) in let digits = low_digits n j in omega arith
    go (suc d) e l rest = absurd (not-suc-le-zero l)

-- a power of two that divides is within the trailing zeros
pub divides_trailing : (b j n : ℕ) → 0 < n → n < 2 ^ b → n % 2 ^ j ≡ 0 → j ≤ count_trailing_zeros b n
unfolding count_trailing_zeros
divides_trailing b zero n p h e = zero-le
divides_trailing zero (suc j) n p h e = absurd (omega arith)
divides_trailing (suc b) (suc j) n p h e =
    let digits = low_digits n j in
    let power = pow-suc 2 b in
    let even : n % 2 ≡ 0 = omega arith in
    rw even (suc-le-suc (divides_trailing b j (n / 2) (omega arith) (omega arith) (omega arith)))

-- a number of b bits that is not 0 has less than b trailing zeros
pub trailing_less : (b n : ℕ) → 0 < n → n < 2 ^ b → count_trailing_zeros b n < b
trailing_less b n p h =
    lt_of_not-le (λ l. let e = sym (mod-eq_of_lt h) ∙ trailing_divides b b n l in omega arith)
