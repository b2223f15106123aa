-- Different numbers of an interval are no more than the interval has.
--   lies                      one where a value lies in an interval, else none
--   total                     the sum of the values at the numbers below n
--   total_least               it is at least n where each value, or the sum of two, is at least one
--   lies_most                 of different values at most as many lie in an interval as it has numbers
use Prim.Native.Nat.{ℕ, zero, suc, ◌+◌, ◌≤◌, ◌<◌}
use mathlib.Core.Path.{◌≡◌, refl, sym, ap, ◌∙◌}
use mathlib.Core.Bool.{Bool, cond}
use native.Mathlib.Nat.{zero-add}
use native.Mathlib.Decide.{ℕ_discrete, dec_le, dec_lt}
use native.Mathlib.Omega.{arith}
use lib.Dec.{leb, ltb, eqb}
use borrow.Author.Tests.{eq-eqb, ne_eqb, le-leb, lt-leb, lt-ltb, le-ltb}

-- one where a value lies in the interval of m numbers from one on, else none
abbrev pub lies : ℕ → ℕ → ℕ → ℕ
lies from m x = cond (leb from x) (cond (ltb x (from + m)) 1 0) 0

module _ (from m x : ℕ) where
  pub lies_in : from ≤ x → x < from + m → lies from m x ≡ 1
  lies_in l u = rw (le-leb _ _ l, lt-ltb _ _ u)

  lies_out : (from ≤ x → x < from + m → ⊥) → lies from m x ≡ 0
  lies_out n = go (dec_le from x) (dec_lt x (from + m))
    where
      go : Dec (from ≤ x) → Dec (x < from + m) → lies from m x ≡ 0
      go (yes l) (yes u) = absurd (n l u)
      go (yes l) (no u) = rw (le-leb _ _ l, le-ltb x (from + m) (omega arith))
      go (no l) u = rw (lt-leb from x (omega arith))

-- one where a value is a number, else none
abbrev is : ℕ → ℕ → ℕ
is a x = cond (eqb x a) 1 0

-- one number more
lies_suc : (from m x : ℕ) → lies from (suc m) x ≡ is (from + m) x + lies from m x
lies_suc from m x = go (ℕ_discrete x (from + m)) (dec_le from x) (dec_lt x (from + m))
  where
    go : Dec (x ≡ from + m) → Dec (from ≤ x) → Dec (x < from + m) → lies from (suc m) x ≡ is (from + m) x + lies from m x
    go (yes e) l u = rw (lies_in from (suc m) x (omega arith) (omega arith), lies_out from m x (λ a b. omega arith), eq-eqb _ _ e)
    go (no d) (yes l) (yes u) = rw (lies_in from (suc m) x l (omega arith), lies_in from m x l u, ne_eqb _ _ d)
    go (no d) (yes l) (no u) = rw (lies_out from (suc m) x (λ a b. omega arith), lies_out from m x (λ a b. u b), ne_eqb _ _ d)
    go (no d) (no l) u = rw (lies_out from (suc m) x (λ a b. l a), lies_out from m x (λ a b. l a), ne_eqb _ _ d)

unfoldable pub total : ℕ → (ℕ → ℕ) → ℕ
total zero f = 0
total (suc n) f = f n + total n f

-- the sum of two sums
total_sum : (n : ℕ) (f g h : ℕ → ℕ) → ((k : ℕ) → f k ≡ g k + h k) → total n f ≡ total n g + total n h
unfolding total
total_sum zero f g h e = refl
total_sum (suc n) f g h e = let here = e n in let below = total_sum n f g h e in omega arith

total_none : (n : ℕ) (f : ℕ → ℕ) → ((k : ℕ) → k < n → f k ≡ 0) → total n f ≡ 0
unfolding total
total_none zero f e = refl
total_none (suc n) f e = let here = e n (omega arith) in let below = total_none n f (λ k l. e k (omega arith)) in omega arith

pub total_least : (n : ℕ) (f g : ℕ → ℕ) → ((k : ℕ) → k < n → 1 ≤ f k + g k) → n ≤ total n f + total n g
unfolding total
total_least zero f g e = omega arith
total_least (suc n) f g e = let here = e n (omega arith) in let below = total_least n f g (λ k l. e k (omega arith)) in omega arith

-- of different values at most one is a given number
is_most : (n : ℕ) (f : ℕ → ℕ) (a : ℕ) → ((i j : ℕ) → i < n → j < n → (i ≡ j → ⊥) → f i ≡ f j → ⊥) → total n (λ k. is a (f k)) ≤ 1
unfolding total
is_most zero f a apart = omega arith
is_most (suc n) f a apart = go (ℕ_discrete (f n) a) (is_most n f a (λ i j l m. apart i j (omega arith) (omega arith)))
  where
    go : Dec (f n ≡ a) → total n (λ k. is a (f k)) ≤ 1 → is a (f n) + total n (λ k. is a (f k)) ≤ 1
    go (yes e) h =
        let others = total_none n (λ k. is a (f k)) (λ k l. ap (λ (t : Bool). cond t 1 0) (ne_eqb (f k) a (λ q. apart k n (omega arith) (omega arith) (λ r. omega arith) (q ∙ sym e)))) in
        rw (others, eq-eqb _ _ e) (omega arith)
    go (no d) h = rw (ne_eqb _ _ d, zero-add) h

module _ (n : ℕ) (f : ℕ → ℕ) (apart : (i j : ℕ) → i < n → j < n → (i ≡ j → ⊥) → f i ≡ f j → ⊥) (from : ℕ) where
  pub lies_most : (m : ℕ) → total n (λ k. lies from m (f k)) ≤ m
  lies_most zero = let none = total_none n (λ k. lies from 0 (f k)) (λ k l. lies_out from 0 (f k) (λ a b. omega arith)) in omega arith
  lies_most (suc m) =
      let here = is_most n f (from + m) apart in
      let below = lies_most m in
      let both = total_sum n (λ k. lies from (suc m) (f k)) (λ k. is (from + m) (f k)) (λ k. lies from m (f k)) (λ k. lies_suc from m (f k)) in
      omega arith
