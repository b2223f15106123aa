-- What a step changes: from c to c + 1 one bit of the Gray word, and so one nibble (document 01, "Nibbles, bytes and Gray
-- words").
--   changed_bit_small      the number of the bit is below 32
--   step_bit               the Gray words of c and c + 1 differ in just that bit
--   step_nibble_small      the number of the nibble is below 8
--   step_nibble            that nibble changes
--   step_nibble_others     every other nibble stays
--   step_nibble_divides    it is nibble k just where 16 ^ k divides c + 1 and 16 ^ (k + 1) does not
use mathlib.Core.Path.{◌≡◌, refl, sym, ap, ap₂, ◌∙◌}
use mathlib.Core.Logic.{◌≢◌, ◌↔◌}
use Prim.Native.Nat.{ℕ, zero, suc, ◌+◌, ◌*◌, ◌/◌, ◌%◌, ◌^◌, ◌<◌}
use native.Mathlib.Nat.{lt_of_lt_of_le, lt_of_not-le, le_dest, pow-suc, add-mod, mul_assoc, mul-lt-mul_of_pos_left, mul-div_cancel_left, mul-mod_left, mul-mod_right, mod-eq_of_lt, div-add-mod, div-eq_of_lt, pow-le-pow_right}
use native.Mathlib.Decide.{dec_lt}
use native.Mathlib.Omega.{arith}
use lib.Arith.{digits_mod}
use lib.Bits.{bit_xor, xor_shr, xor_mod, xor_self}
use lib.Count.{count_trailing_zeros, under}
use lib.Dec.{lit<}
use lib.Pow.{pow_pos, pow-lt, pow-add}
use Rattle.code.specs.Gray.{bits, gray_of, changed_bit}
use Rattle.code.specs.Nibbles.{nibble_of}
use Rattle.code.proofs.XorLaws.{same_bits, xor_odd, xor_back}
use Rattle.code.proofs.TrailingLaws.{trailing_divides, divides_trailing, trailing_less}
use Rattle.code.proofs.NibbleLaws.{sixteens, sixteens_positive}
use Rattle.code.proofs.GrayLaws.{gray_half}

-- ---- the bit

-- the lowest bit of a Gray word
gray_odd : (c : ℕ) → gray_of c % 2 ≡ (c + c / 2) % 2
unfolding gray_of
gray_odd c = xor_odd c (c / 2)

-- the lowest bit of what differs in two Gray words
differ_odd : (a c : ℕ) → bit_xor (gray_of a) (gray_of c) % 2 ≡ (a + a / 2 + (c + c / 2)) % 2
differ_odd a c =
    xor_odd (gray_of a) (gray_of c) ∙ add-mod (gray_of a) (gray_of c) 2
    ∙ ap₂ (λ (x y : ℕ). (x + y) % 2) (gray_odd a) (gray_odd c)
    ∙ sym (add-mod (a + a / 2) (c + c / 2) 2)

-- its other bits
differ_half : (a c : ℕ) → bit_xor (gray_of a) (gray_of c) / 2 ≡ bit_xor (gray_of (a / 2)) (gray_of (c / 2))
differ_half a c = xor_shr (gray_of a) (gray_of c) 1 ∙ ap₂ bit_xor (gray_half a) (gray_half c)

-- over k bits, the Gray words of c and c + 1 differ in the bit numbered by the trailing zeros of c + 1
differ_step : (k c : ℕ) → c + 1 < 2 ^ k → bit_xor (gray_of c) (gray_of (c + 1)) ≡ 2 ^ count_trailing_zeros k (c + 1)
unfolding count_trailing_zeros
differ_step zero c h = absurd (omega arith)
differ_step (suc k) c h = go ((c + 1) % 2) refl (differ_step k (c / 2))
  where
    go : (d : ℕ) → (c + 1) % 2 ≡ d
        → (c / 2 + 1 < 2 ^ k → bit_xor (gray_of (c / 2)) (gray_of (c / 2 + 1)) ≡ 2 ^ count_trailing_zeros k (c / 2 + 1))
        → bit_xor (gray_of c) (gray_of (c + 1)) ≡ 2 ^ under d (count_trailing_zeros k ((c + 1) / 2))
    go zero even rest =
        let power = pow-suc 2 k in
        let half : (c + 1) / 2 ≡ c / 2 + 1 = omega arith in
        let top : bit_xor (gray_of c) (gray_of (c + 1)) / 2 ≡ 2 ^ count_trailing_zeros k ((c + 1) / 2) =
        differ_half c (c + 1) ∙ rw half (rest (omega arith)) in
        let sum : c + c / 2 + (c + 1 + (c + 1) / 2) ≡ (c + c / 2 + 1) * 2 = omega arith in
        let low : bit_xor (gray_of c) (gray_of (c + 1)) % 2 ≡ 0 = differ_odd c (c + 1) ∙ rw sum (mul-mod_left _ 2) in
        let next = pow-suc 2 (count_trailing_zeros k ((c + 1) / 2)) in
        same_bits _ _ (omega arith) (omega arith)
    go (suc d) odd rest =
        let half : (c + 1) / 2 ≡ c / 2 = omega arith in
        let sum : c + c / 2 + (c + 1 + (c + 1) / 2) ≡ (c + c / 2) * 2 + 1 = omega arith in
        same_bits _ 1
        (differ_half c (c + 1) ∙ rw half (xor_self (gray_of (c / 2))))
        (differ_odd c (c + 1) ∙ rw sum (digits_mod (c + c / 2) (lit< tt)))

-- the Gray words of c and c + 1 differ in just the bit of that number
pub step_bit : (c : ℕ) → c + 1 < 2 ^ 32 → bit_xor (gray_of c) (gray_of (c + 1)) ≡ 2 ^ changed_bit (c + 1)
unfolding bits changed_bit
step_bit = differ_step bits

-- the number of the bit is below 32
pub changed_bit_small : (c : ℕ) → c + 1 < 2 ^ 32 → changed_bit (c + 1) < 32
unfolding bits changed_bit
changed_bit_small c h = trailing_less bits (c + 1) (omega arith) h

-- ---- the nibble

-- two numbers that differ in no bit are the same
xor_none : (a b : ℕ) → bit_xor a b ≡ 0 → a ≡ b
xor_none a b e = sym (xor_back a b) ∙ ap (λ (x : ℕ). bit_xor x b) e

-- the nibbles of what differs are what differs in the nibbles
nibble_xor : (a b j : ℕ) → nibble_of (bit_xor a b) j ≡ bit_xor (nibble_of a j) (nibble_of b j)
unfolding nibble_of
nibble_xor a b j =
    rw (sixteens j) (ap (λ (x : ℕ). x % 16) (xor_shr a b (4 * j)) ∙ xor_mod (a / 2 ^ (4 * j)) (b / 2 ^ (4 * j)) 4)

-- a power of two by the nibble of its bit
power_parts : (t : ℕ) → 2 ^ t ≡ 16 ^ (t / 4) * 2 ^ (t % 4)
power_parts t =
    ap (λ (x : ℕ). 2 ^ x) (sym (div-add-mod t 4)) ∙ pow-add 2 (4 * (t / 4)) (t % 4)
    ∙ ap (λ (x : ℕ). x * 2 ^ (t % 4)) (sym (sixteens (t / 4)))

-- the bit within its nibble
low_power : (t : ℕ) → 2 ^ (t % 4) < 16
low_power t = pow-lt {j = 4} (omega arith)

-- what it stays below
power_less : (t : ℕ) → 16 ^ (t / 4) * 2 ^ (t % 4) < 16 ^ suc (t / 4)
power_less t = rw (pow-suc 16 (t / 4)) (mul-lt-mul_of_pos_left (low_power t) (sixteens_positive (t / 4)))

-- its own nibble holds it
power_here : (t : ℕ) → nibble_of (2 ^ t) (t / 4) ≡ 2 ^ (t % 4)
unfolding nibble_of
power_here t =
    ap (λ (x : ℕ). x / 16 ^ (t / 4) % 16) (power_parts t)
    ∙ ap (λ (x : ℕ). x % 16) (mul-div_cancel_left (2 ^ (t % 4)) (sixteens_positive (t / 4)))
    ∙ mod-eq_of_lt (low_power t)

-- every other nibble is 0
power_others : (t j : ℕ) → j ≢ t / 4 → nibble_of (2 ^ t) j ≡ 0
unfolding nibble_of
power_others t j other = ap (λ (x : ℕ). x / 16 ^ j % 16) (power_parts t) ∙ go (dec_lt j (t / 4))
  where
    lifted : (more : ℕ) → 16 ^ (suc j + more) * 2 ^ (t % 4) ≡ 16 ^ j * (16 * (16 ^ more * 2 ^ (t % 4)))
    lifted more = simp (pow-add 16 (suc j) more, pow-suc 16 j, mul_assoc)

    go : Dec (j < t / 4) → 16 ^ (t / 4) * 2 ^ (t % 4) / 16 ^ j % 16 ≡ 0
    go (yes below) =
        let (more, e) = le_dest below in
        ap (λ (x : ℕ). x / 16 ^ j % 16) (ap (λ (q : ℕ). 16 ^ q * 2 ^ (t % 4)) (sym e) ∙ lifted more)
        ∙ ap (λ (x : ℕ). x % 16) (mul-div_cancel_left (16 * (16 ^ more * 2 ^ (t % 4))) (sixteens_positive j))
        ∙ mul-mod_right 16 (16 ^ more * 2 ^ (t % 4))
    go (no above) =
        ap (λ (x : ℕ). x % 16)
        (div-eq_of_lt (lt_of_lt_of_le (power_less t) (pow-le-pow_right (lit< tt) (omega arith))))

-- the nibbles of what differs between the Gray words of c and c + 1
step_nibbles : (c j : ℕ) → c + 1 < 2 ^ 32
    → bit_xor (nibble_of (gray_of c) j) (nibble_of (gray_of (c + 1)) j) ≡ nibble_of (2 ^ changed_bit (c + 1)) j
step_nibbles c j h = sym (nibble_xor (gray_of c) (gray_of (c + 1)) j) ∙ ap (λ (x : ℕ). nibble_of x j) (step_bit c h)

-- the number of the nibble is below 8
pub step_nibble_small : (c : ℕ) → c + 1 < 2 ^ 32 → changed_bit (c + 1) / 4 < 8
step_nibble_small c h = let small = changed_bit_small c h in omega arith

-- that nibble changes
pub step_nibble : (c : ℕ) → c + 1 < 2 ^ 32
    → nibble_of (gray_of (c + 1)) (changed_bit (c + 1) / 4) ≢ nibble_of (gray_of c) (changed_bit (c + 1) / 4)
step_nibble c h same =
    let k = changed_bit (c + 1) / 4 in
    let none = ap (bit_xor (nibble_of (gray_of c) k)) same ∙ xor_self (nibble_of (gray_of c) k) in
    let some = step_nibbles c k h ∙ power_here (changed_bit (c + 1)) in
    let positive = pow_pos (changed_bit (c + 1) % 4) in
    omega arith

-- every other nibble stays
pub step_nibble_others : (c j : ℕ) → c + 1 < 2 ^ 32 → j ≢ changed_bit (c + 1) / 4
    → nibble_of (gray_of (c + 1)) j ≡ nibble_of (gray_of c) j
step_nibble_others c j h other =
    sym (xor_none _ _ (step_nibbles c j h ∙ power_others (changed_bit (c + 1)) j other))

-- it is nibble k just where 16 ^ k divides c + 1 and 16 ^ (k + 1) does not
pub step_nibble_divides : (c k : ℕ) → c + 1 < 2 ^ 32
    → (k ≡ changed_bit (c + 1) / 4) ↔ (((c + 1) % 16 ^ k ≡ 0) × ((c + 1) % 16 ^ (k + 1) ≢ 0))
unfolding bits changed_bit
step_nibble_divides c k h = (
  λ e. (
    rw (sixteens k) (trailing_divides bits (4 * k) (c + 1) (omega arith)),
    λ d. let l = divides_trailing bits (4 * (k + 1)) (c + 1) (omega arith) h (rw (sixteens (k + 1)) at d) in omega arith,
  ),
  λ (d, n).
      let l = divides_trailing bits (4 * k) (c + 1) (omega arith) h (rw (sixteens k) at d) in
      let u = lt_of_not-le (λ l. n (rw (sixteens (k + 1)) (trailing_divides bits (4 * (k + 1)) (c + 1) l))) in
      omega arith,
)
