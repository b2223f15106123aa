-- The laws of plain decimals and lines: one digit or a tenth's digits and one more, how long they are, that a decimal
-- reads back as its number, and that it has no leading zero.
use Prim.Native.Nat.{ℕ, zero, suc, ◌+◌, ◌*◌, ◌-◌, ◌/◌, ◌%◌, ◌^◌, ◌≤◌, ◌<◌, suc-le-suc}
use mathlib.Core.Path.{◌≡◌, refl, sym, ap, ◌∙◌}
use mathlib.Core.List.{List, [], ◌∷◌, ◌++◌}
use native.Mathlib.Nat.{lt-suc_self, lt_of_lt_of_le, lt_of_le_of_lt, pow-suc, div-lt_iff_lt-mul}
use native.Mathlib.Decide.{dec_le}
use native.Mathlib.Omega.{arith}
use borrow.Author.Tests.{lt-ltb, le-ltb}
use lib.Dec.{lit<, lit≤}
use lib.IntN.{ℤ, pos, negsuc}
use lib.ListN.{length, get_or, length-append, get_or-append}
use lib.Seq.{get_or-append_seam}
use mir.Syntax.{w64}
use mir.Val.{SFits}
use Rattle.text.specs.Text.{digit, digits, decimal, signed}

-- what holds of the numbers below 10, and of each other number where it holds of its tenth, holds of every number
by_tenths : (P : ℕ → Type 0) → ((n : ℕ) → n < 10 → P n) → ((n : ℕ) → 10 ≤ n → P (n / 10) → P n) → (n : ℕ) → P n
by_tenths P small more n = go (suc n) n (lt-suc_self n)
  where
    go : (k m : ℕ) → m < k → P m
    go zero m below = absurd (omega arith)
    go (suc k) m below =
        elim (dec_le 10 m) [ yes large ↦ more m large (go k (m / 10) (omega arith)) | no not_large ↦ small m (omega arith) ]

-- a bound above the number leaves out none of its digits
enough : (j k n : ℕ) → n < j → n < k → digits j n ≡ digits k n
unfolding digits
enough zero k n below below' = absurd (omega arith)
enough (suc j) zero n below below' = absurd (omega arith)
enough (suc j) (suc k) n below below' =
    elim (dec_le 10 n) [ yes large ↦ rw (le-ltb n 10 large, enough j k (n / 10) (omega arith) (omega arith)) | no not_large ↦ rw (lt-ltb n 10 (omega arith)) ]

-- below 10 there is one digit
pub decimal_small : (n : ℕ) → n < 10 → decimal n ≡ digit (n % 10) ∷ []
unfolding decimal digits
decimal_small n small = rw (lt-ltb n 10 small)

-- from 10 on, the digits of a tenth and one more
pub decimal_more : (n : ℕ) → 10 ≤ n → decimal n ≡ decimal (n / 10) ++ (digit (n % 10) ∷ [])
unfolding decimal digits
decimal_more n large = rw (le-ltb n 10 large, enough n (suc (n / 10)) (n / 10) (omega arith) (lt-suc_self (n / 10)))

pub length_small : (n : ℕ) → n < 10 → length (decimal n) ≡ 1
length_small n small = rw (decimal_small n small)

pub length_more : (n : ℕ) → 10 ≤ n → length (decimal n) ≡ length (decimal (n / 10)) + 1
length_more n large = ap length (decimal_more n large) ∙ length-append (decimal (n / 10)) (digit (n % 10) ∷ [])

-- a number below a power of ten has no more digits than that
pub length_decimal : (k n : ℕ) → n < 10 ^ suc k → length (decimal n) ≤ suc k
length_decimal zero n below = omega (arith, length_small n (omega arith))
length_decimal (suc k) n below =
    elim (dec_le 10 n) [
      | yes large ↦ omega (arith, length_more n large, length_decimal k (n / 10) ((div-lt_iff_lt-mul (lit< tt)).1 (rw pow-suc at below)))
      | no not_large ↦ omega (arith, length_small n (omega arith))
    ]

-- and one from a power of ten on has as many
pub length_power : (k n : ℕ) → 10 ^ k ≤ n → n < 10 * 10 ^ k → length (decimal n) ≡ k + 1
length_power zero n from below = length_small n below
length_power (suc k) n from below =
    let least : 10 ^ k * 10 ≤ n = rw pow-suc at from in
    let most : n < 10 * (10 ^ k * 10) = rw pow-suc at below in
    omega (arith, length_more n (omega (arith, least, most)), length_power k (n / 10) (omega (arith, least)) (omega (arith, most)))

-- there is a first digit
pub length_positive : (n : ℕ) → 0 < length (decimal n)
length_positive n =
    elim (dec_le 10 n) [ yes large ↦ omega (arith, length_more n large) | no not_large ↦ omega (arith, length_small n (omega arith)) ]

-- the number that digits after a number come to
value_from : ℕ → List ℕ → ℕ
value_from n [] = n
value_from n (byte ∷ bytes) = value_from (n * 10 + (byte - 48)) bytes

value_last : (n : ℕ) (bytes : List ℕ) (byte : ℕ) → value_from n (bytes ++ (byte ∷ [])) ≡ value_from n bytes * 10 + (byte - 48)
unfolding value_from
value_last n [] byte = refl
value_last n (first ∷ bytes) byte = value_last (n * 10 + (first - 48)) bytes byte

value_decimal : (n : ℕ) → value_from 0 (decimal n) ≡ n
unfolding value_from
value_decimal = by_tenths (λ n. value_from 0 (decimal n) ≡ n)
    (λ n small. rw (decimal_small n small) (omega arith))
    (λ n large tenth. rw (decimal_more n large, value_last, tenth) (omega arith))

value_least : (n : ℕ) (bytes : List ℕ) → n ≤ value_from n bytes
unfolding value_from
value_least n [] = omega arith
value_least n (byte ∷ bytes) = omega (arith, value_least (n * 10 + (byte - 48)) bytes)

value_front : (n : ℕ) (front more : List ℕ) → value_from n (front ++ more) ≡ value_from (value_from n front) more
unfolding value_from
value_front n [] more = refl
value_front n (byte ∷ front) more = value_front (n * 10 + (byte - 48)) front more

-- a number whose decimal is the front of another's is no more than that
pub front_least : (m n : ℕ) (more : List ℕ) → decimal n ≡ decimal m ++ more → m ≤ n
front_least m n more is =
    omega (arith, value_least m more, value_decimal n, ap (value_from 0) is ∙ value_front 0 (decimal m) more ∙ ap (λ k. value_from k more) (value_decimal m))

-- two numbers with one decimal are one number
pub decimal_injective : (m n : ℕ) → decimal m ≡ decimal n → m ≡ n
decimal_injective m n same = sym (value_decimal m) ∙ ap (value_from 0) same ∙ value_decimal n

-- only the decimal of 0 starts with the digit 0
pub no_leading_zero : (n : ℕ) → get_or (decimal n) 0 0 ≡ 48 → n ≡ 0
no_leading_zero = by_tenths (λ n. get_or (decimal n) 0 0 ≡ 48 → n ≡ 0)
    (λ n small zero. let digit-zero : 48 + n % 10 ≡ 48 = rw (decimal_small n small) at zero in omega arith)
    (λ n large tenth zero.
    let none : n / 10 ≡ 0 = tenth (rw (decimal_more n large, get_or-append (decimal (n / 10)) _ 0 0 (length_positive (n / 10))) at zero) in
    omega arith)

-- every byte of a decimal is a digit
pub all_digits_lem : (n k : ℕ) → k < length (decimal n) → (48 ≤ get_or (decimal n) k 0) × (get_or (decimal n) k 0 ≤ 57)
all_digits_lem = by_tenths (λ n. (k : ℕ) → k < length (decimal n) → (48 ≤ get_or (decimal n) k 0) × (get_or (decimal n) k 0 ≤ 57))
    (λ n small k within.
    let first : k ≡ 0 = omega (arith, length_small n small) in
    rw (first, decimal_small n small) (omega arith))
    (λ n large tenth k within.
    elim (dec_le (length (decimal (n / 10))) k) [
      | yes last ↦
          let past : k ≡ length (decimal (n / 10)) = omega (arith, length_more n large) in
          rw (decimal_more n large, past, get_or-append_seam) (omega arith)
      | no not_last ↦
          let before : k < length (decimal (n / 10)) = omega arith in
          rw (decimal_more n large, get_or-append (decimal (n / 10)) _ 0 k before) (tenth k before)
    ])

-- the decimals of numbers of 32 and 64 bits, and of signed ones of 64
pub length_u32 : (n : ℕ) → n < 2 ^ 32 → length (decimal n) ≤ 10
length_u32 n below = length_decimal 9 n (lt_of_lt_of_le below (lit≤ tt))

pub length_u64 : (n : ℕ) → n < 2 ^ 64 → length (decimal n) ≤ 20
length_u64 n below = length_decimal 19 n (lt_of_lt_of_le below (lit≤ tt))

pub length_i64 : (n : ℤ) → SFits w64 n → length (signed n) ≤ 20
unfolding signed
length_i64 (pos n) fits = length_u64 n (omega (arith, fits.sfits))
length_i64 (negsuc n) fits = suc-le-suc (length_decimal 18 (suc n) (lt_of_le_of_lt fits.sfits (lit< tt)))
