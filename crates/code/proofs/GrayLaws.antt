-- The laws of Gray words (document 01, "Nibbles, bytes and Gray words").
--   gray_small      the Gray word of a count of k bits has k bits
--   gray_half       the Gray word of a half is half the Gray word
--   count_small     the count of a Gray word has 32 bits
--   halves_one      one half is the word itself
--   halves_double   twice as many halves, by one exclusive-or
--   count_of_gray   the count of a count's Gray word is that count
--   gray_of_count   the Gray word of a Gray word's count is that Gray word
--   gray_zero       the Gray word of 0
use mathlib.Core.Path.{◌≡◌, refl, sym, ap, ◌∙◌}
use Prim.Native.Nat.{ℕ, zero, suc, ◌+◌, ◌/◌, ◌^◌, ◌<◌}
use native.Mathlib.Nat.{lt_of_le_of_lt, div-le_self, div-one, pow-suc, zero-add, suc-add}
use native.Mathlib.Numerals.{one-add}
use native.Mathlib.Omega.{arith}
use lib.Arith.{lt-one}
use lib.Bits.{bit_xor, xor_assoc, xor_lt, xor_shr, xor_zero_l, xor_zero_r}
use lib.Dec.{lit<}
use lib.Pow.{shr-shr}
use Rattle.code.specs.Gray.{bits, gray_of, halves_of, count_of}
use Rattle.code.proofs.XorLaws.{xor_back}

-- a half has one bit less
half_less : (k g : ℕ) → g < 2 ^ suc k → g / 2 < 2 ^ k
half_less k g h = let e = pow-suc 2 k in omega arith

-- the Gray word of a count of k bits has k bits
pub gray_small : (k c : ℕ) → c < 2 ^ k → gray_of c < 2 ^ k
unfolding gray_of
gray_small k c h = xor_lt k c (c / 2) h (lt_of_le_of_lt (div-le_self c 2) h)

-- the Gray word of a half is half the Gray word
pub gray_half : (c : ℕ) → gray_of c / 2 ≡ gray_of (c / 2)
unfolding gray_of
gray_half c = xor_shr c (c / 2) 1

-- ---- the way back

-- bits past the word's own add nothing to the way back
halves_more : (k g : ℕ) → g < 2 ^ k → halves_of (suc k) g ≡ halves_of k g
unfolding halves_of
halves_more zero g h = ap (λ (x : ℕ). halves_of 1 x) (lt-one h)
halves_more (suc k) g h = ap (bit_xor g) (halves_more k (g / 2) (half_less k g h))

-- the way back, one bit on
count_step : (g : ℕ) → g < 2 ^ 32 → count_of g ≡ bit_xor g (count_of (g / 2))
unfolding bits halves_of count_of
count_step g h = ap (bit_xor g) (sym (halves_more 31 (g / 2) (half_less 31 g h)))

-- the way back of a half is half the way back
halves_half : (k g : ℕ) → halves_of k g / 2 ≡ halves_of k (g / 2)
unfolding halves_of
halves_half zero g = refl
halves_half (suc k) g = xor_shr g (halves_of k (g / 2)) 1 ∙ ap (bit_xor (g / 2)) (halves_half k (g / 2))

-- j halves and k more: those k are the first k, shifted right by j bits
halves_on : (j k g : ℕ) → bit_xor (halves_of j g) (halves_of k g / 2 ^ j) ≡ halves_of (j + k) g
unfolding halves_of
halves_on zero k g = rw (xor_zero_l, div-one, zero-add)
halves_on (suc j) k g =
    rw (suc-add, sym (halves_on j k (g / 2)), sym (halves_half k g), shr-shr (halves_of k g) 1 j, one-add, xor_assoc)

-- one half is the word itself
pub halves_one : (g : ℕ) → g ≡ halves_of 1 g
unfolding halves_of
halves_one g = sym (xor_zero_r g)

-- twice as many halves, by one exclusive-or
pub halves_double : {w : ℕ} (k g : ℕ) → w ≡ halves_of k g → bit_xor w (w / 2 ^ k) ≡ halves_of (k + k) g
halves_double k g e = ap (λ (x : ℕ). bit_xor x (x / 2 ^ k)) e ∙ halves_on k k g

-- ---- there and back

halves_small : (k g : ℕ) → g < 2 ^ k → halves_of k g < 2 ^ k
unfolding halves_of
halves_small zero g h = lit< tt
halves_small (suc k) g h =
    xor_lt (suc k) g (halves_of k (g / 2)) h
    (let rest = halves_small k (g / 2) (half_less k g h) in let e = pow-suc 2 k in omega arith)

-- the count of a Gray word has 32 bits
pub count_small : (g : ℕ) → g < 2 ^ 32 → count_of g < 2 ^ 32
unfolding bits count_of
count_small = halves_small bits

-- over k bits the way back of a Gray word is the count
halves_of_gray : (k c : ℕ) → c < 2 ^ k → halves_of k (gray_of c) ≡ c
unfolding halves_of gray_of
halves_of_gray zero c h = sym (lt-one h)
halves_of_gray (suc k) c h =
    ap (λ (x : ℕ). bit_xor (gray_of c) (halves_of k x)) (gray_half c)
    ∙ ap (bit_xor (gray_of c)) (halves_of_gray k (c / 2) (half_less k c h))
    ∙ xor_back c (c / 2)

-- the count of a count's Gray word is that count
pub count_of_gray : (c : ℕ) → c < 2 ^ 32 → count_of (gray_of c) ≡ c
unfolding bits count_of
count_of_gray = halves_of_gray bits

-- the Gray word of a Gray word's count is that Gray word
pub gray_of_count : (g : ℕ) → g < 2 ^ 32 → gray_of (count_of g) ≡ g
unfolding gray_of count_of
gray_of_count g h =
    ap (bit_xor (count_of g)) (halves_half bits g)
    ∙ ap (λ (x : ℕ). bit_xor x (count_of (g / 2))) (count_step g h)
    ∙ xor_back g (count_of (g / 2))

-- the Gray word of 0
pub gray_zero : gray_of 0 ≡ 0
unfolding gray_of
gray_zero = refl
