-- Numbers marked in a word of bits: its ones are as many as the numbers only if no two have the same bit.
--   Marks                     the word of some numbers, of which there are so many
--   marks_more                of one more
--   marks_same                told of the same numbers in another way
--   or_left, or_right         a word with more bits is no smaller
--   xor_none                  words that differ in no bit
use Rattle.std.proofs.Common.{◌≡◌, ℕ, zero, suc, ◌+◌, ◌/◌, ◌%◌, ◌^◌, ◌≤◌, max, ◌⊎◌, sym, ap, ◌∙◌, inl, inr, mul_comm, pow-suc, div-one, arith, pow_pos}
use native.Mathlib.Nat.{max-eq_left, max-eq_right, max-le, div_self, div-div-eq-div-mul}
use lib.Bits.{bit_or, bit_xor, or_step, or_shr, or_zero_r, or_add_and, and_le_l, and_le_r, xor_zero_l}
use lib.Count.{ones, ones_step}
use Rattle.code.proofs.XorLaws.{xor_back}
use Rattle.counter.specs.Inside.{Differ}

pub or_left : (a b : ℕ) → a ≤ bit_or a b
or_left a b = let sum = or_add_and a b in let h = and_le_r a b in omega arith

pub or_right : (a b : ℕ) → b ≤ bit_or a b
or_right a b = let sum = or_add_and a b in let h = and_le_l a b in omega arith

pub xor_none : (a b : ℕ) → bit_xor a b ≡ 0 → a ≡ b
xor_none a b e = sym (xor_back a b) ∙ ap (λ (x : ℕ). bit_xor x b) e ∙ xor_zero_l b

-- a bit of a word
abbrev bit : ℕ → ℕ → ℕ
bit x b = x / 2 ^ b % 2

or_odd : (x y : ℕ) → bit_or x y % 2 ≡ max (x % 2) (y % 2)
or_odd x y =
    let e = or_step x y in
    let h : max (x % 2) (y % 2) ≤ 1 = max-le (omega arith) (omega arith) in
    omega arith

bit_or_lem : (x y b : ℕ) → bit (bit_or x y) b ≡ max (bit x b) (bit y b)
bit_or_lem x y b = ap (λ (z : ℕ). z % 2) (or_shr x y b) ∙ or_odd (x / 2 ^ b) (y / 2 ^ b)

bit_kept : (x y b : ℕ) → bit x b ≡ 1 → bit (bit_or x y) b ≡ 1
bit_kept x y b e = bit_or_lem x y b ∙ max-eq_left (omega arith) ∙ e

bit_own : (b : ℕ) → bit (2 ^ b) b ≡ 1
bit_own b = ap (λ (z : ℕ). z % 2) (div_self (pow_pos b))

bit_set : (x b : ℕ) → bit (bit_or x (2 ^ b)) b ≡ 1
bit_set x b = let e = bit_own b in bit_or_lem x (2 ^ b) b ∙ max-eq_right (omega arith) ∙ e

-- a bit set is one more, if it was not set
ones_mark : (b x : ℕ) → ones (bit_or x (2 ^ b)) + bit x b ≡ ones x + 1
ones_mark zero x =
    let half : bit_or x 1 / 2 ≡ x / 2 = or_shr x 1 1 ∙ or_zero_r (x / 2) in
    let odd : bit_or x 1 % 2 ≡ 1 = or_odd x 1 ∙ max-eq_right (omega arith) in
    let own : x / 1 ≡ x = div-one x in
    let one : ones (bit_or x 1) ≡ 1 + ones (x / 2) = ones_step (bit_or x 1) ∙ rw (half, odd) in
    let other = ones_step x in
    omega arith
ones_mark (suc b) x =
    let double = pow-suc 2 b in
    let half : bit_or x (2 ^ suc b) / 2 ≡ bit_or (x / 2) (2 ^ b) = or_shr x (2 ^ suc b) 1 ∙ ap (bit_or (x / 2)) (omega arith) in
    let odd : bit_or x (2 ^ suc b) % 2 ≡ x % 2 = or_odd x (2 ^ suc b) ∙ max-eq_left (omega arith) in
    let own : x / 2 / 2 ^ b ≡ x / 2 ^ suc b = div-div-eq-div-mul x 2 (2 ^ b) ∙ ap (λ (z : ℕ). x / z) (mul_comm 2 (2 ^ b) ∙ sym double) in
    let one : ones (bit_or x (2 ^ suc b)) ≡ x % 2 + ones (bit_or (x / 2) (2 ^ b)) = ones_step (bit_or x (2 ^ suc b)) ∙ rw (half, odd) in
    let other = ones_step x in
    let rest : ones (bit_or (x / 2) (2 ^ b)) + x / 2 ^ suc b % 2 ≡ ones (x / 2) + 1 = rw own at (ones_mark b (x / 2)) in
    omega arith

pub record Marks (Of : ℕ → Type 0) (many : ℕ) (place : ℕ → ℕ) (word : ℕ) : Type 0 where
  pub few : ones word ≤ many
  pub marks : (k : ℕ) → Of k → word / 2 ^ place k % 2 ≡ 1
  pub apart : ones word ≡ many → Differ Of place

pub marks_more :
    {Of : ℕ → Type 0} {many : ℕ} {place : ℕ → ℕ} {word : ℕ} → Marks Of many place word → (k : ℕ)
    → Marks (λ j. Of j ⊎ (j ≡ k)) (many + 1) place (bit_or word (2 ^ place k))
marks_more {Of} {many} {place} {word} m k =
    record {
      few = let h = m.few in omega (arith, h, count);
      marks = marked;
      apart = λ h i j. differ (let h' = m.few in omega (arith, h, h', count)) (let h' = m.few in omega (arith, h, h', count)) i j;
    }
  where
    count : ones (bit_or word (2 ^ place k)) + word / 2 ^ place k % 2 ≡ ones word + 1
    count = ones_mark (place k) word

    marked : (j : ℕ) → Of j ⊎ (j ≡ k) → bit_or word (2 ^ place k) / 2 ^ place j % 2 ≡ 1
    marked j (inl o) = bit_kept word (2 ^ place k) (place j) (m.marks j o)
    marked j (inr e) = rw e (bit_set word (place k))

    -- where the new bit was not set, no number before has its place
    new : word / 2 ^ place k % 2 ≡ 0 → (i : ℕ) → Of i → place i ≡ place k → ⊥
    new unset i o e = let set : word / 2 ^ place k % 2 ≡ 1 = rw e at (m.marks i o) in omega arith

    differ :
        ones word ≡ many → word / 2 ^ place k % 2 ≡ 0 → (i j : ℕ) → Of i ⊎ (i ≡ k) → Of j ⊎ (j ≡ k) → (i ≡ j → ⊥)
        → place i ≡ place j → ⊥
    differ full unset i j (inl o) (inl o') d e = m.apart full i j o o' d e
    differ full unset i j (inl o) (inr q) d e = new unset i o (e ∙ ap place q)
    differ full unset i j (inr q) (inl o) d e = new unset j o (sym e ∙ ap place q)
    differ full unset i j (inr q) (inr q') d e = d (q ∙ sym q')

pub marks_same :
    {Of Other : ℕ → Type 0} {many more : ℕ} {place : ℕ → ℕ} {word : ℕ} → Marks Of many place word → ((k : ℕ) → Other k → Of k)
    → many ≡ more → Marks Other more place word
marks_same m of e =
    record {
      few = rw e at m.few;
      marks = λ k o. m.marks k (of k o);
      apart = λ h i j o o'. m.apart (h ∙ sym e) i j (of i o) (of j o');
    }
