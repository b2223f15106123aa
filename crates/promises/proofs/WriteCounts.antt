-- How often the cell of a nibble is written: one step adds one where the nibble is the one that changes.
--   writes_none               before any step, never
--   writes_step               a step more
use Prim.Native.Nat.{ℕ, zero, suc, ◌+◌, ◌-◌, ◌*◌, ◌/◌, ◌%◌, ◌^◌, ◌<◌}
use mathlib.Core.Path.{◌≡◌, refl, sym, ◌∙◌}
use mathlib.Core.Bool.{cond}
use native.Mathlib.Nat.{zero-add, add-zero, zero-mul, add-mul, one-mul, suc-mul, mul_comm, zero-div, pow-suc, mod-lt, div-add-mod', div-div-eq-div-mul}
use native.Mathlib.Numerals.{add-one}
use native.Mathlib.Decide.{ℕ_discrete}
use native.Mathlib.Omega.{arith}
use lib.Arith.{digits_div, digits_mod, mod-mul}
use lib.Dec.{eqb, lit<}
use borrow.Author.Tests.{eq-eqb, ne_eqb}
use Rattle.code.proofs.NibbleLaws.{sixteens_positive}
use Rattle.code.proofs.ChangeLaws.{step_nibble_divides}
use Rattle.promises.specs.Runs.{writes_of}
use Rattle.counter.proofs.NextStores.{changed_nibble}

-- the nibbles 0, 1 and 2 in 20 steps, and in 256
twenty : (writes_of 20 0 ≡ 19) × (writes_of 20 1 ≡ 1) × (writes_of 20 2 ≡ 0)
unfolding writes_of
twenty = (refl, refl, refl)

two_hundred_fifty_six : (writes_of 256 0 ≡ 240) × (writes_of 256 1 ≡ 15) × (writes_of 256 2 ≡ 1)
unfolding writes_of
two_hundred_fifty_six = (refl, refl, refl)

pub writes_none : (k : ℕ) → writes_of 0 k ≡ 0
unfolding writes_of
writes_none k = simp zero-div

-- one more is a multiple of m, and then the quotient grows by one; or it is none, and the quotient stays
data Quotient (c m : ℕ) : Type 0 where
  grows : (c + 1) % m ≡ 0 → (c + 1) / m ≡ c / m + 1 → Quotient c m
  stays : ((c + 1) % m ≡ 0 → ⊥) → (c + 1) / m ≡ c / m → Quotient c m

next : (c m : ℕ) → 0 < m → Quotient c m
next c m positive = go (ℕ_discrete (c % m + 1) m)
  where
    small : c % m < m
    small = mod-lt c positive

    whole : c / m * m + c % m ≡ c
    whole = div-add-mod' c m

    go : Dec (c % m + 1 ≡ m) → Quotient c m
    go (yes e) =
        let sum : c + 1 ≡ (c / m + 1) * m + 0 = omega (arith, whole, add-mul (c / m) 1 m, one-mul m) in
        grows (rw sum (digits_mod (c / m + 1) positive)) (rw sum (digits_div (c / m + 1) positive))
    go (no n) =
        let sum : c + 1 ≡ c / m * m + (c % m + 1) = omega (arith, whole) in
        let left : (c + 1) % m ≡ c % m + 1 = rw sum (digits_mod (c / m) (omega (arith, small))) in
        stays (λ e. omega arith) (rw sum (digits_div (c / m) (omega (arith, small))))

-- the quotient and the rest by the next power of 16
quotient : (c k : ℕ) → c / 16 ^ (k + 1) ≡ c / 16 ^ k / 16
quotient c k = rw (add-one, pow-suc) (sym (div-div-eq-div-mul c (16 ^ k) 16))

rest : (c k : ℕ) → c % 16 ^ (k + 1) ≡ c / 16 ^ k % 16 * 16 ^ k + c % 16 ^ k
rest c k = rw (add-one, pow-suc, mul_comm (16 ^ k) 16) (mod-mul c (lit< tt) (sixteens_positive k))

-- a product with a positive number is 0 where the other is
factor_zero : (x : ℕ) {m : ℕ} → 0 < m → x * m ≡ 0 → x ≡ 0
factor_zero zero l e = refl
factor_zero (suc x) {m} l e = absurd (omega (arith, suc-mul x m))

module _ (c : ℕ) (small : c + 1 < 2 ^ 32) (k : ℕ) where
  -- the next power of 16 divides c + 1 just where this one does and 16 divides the quotient
  whole_next : (c + 1) % 16 ^ k ≡ 0 → (c + 1) / 16 ^ k % 16 ≡ 0 → (c + 1) % 16 ^ (k + 1) ≡ 0
  whole_next z e = rest (c + 1) k ∙ rw (z, e, add-zero) (zero-mul _)

  next_whole : (c + 1) % 16 ^ k ≡ 0 → (c + 1) % 16 ^ (k + 1) ≡ 0 → (c + 1) / 16 ^ k % 16 ≡ 0
  next_whole z e = factor_zero _ (sixteens_positive k) (let h = rest (c + 1) k in omega arith)

  here : k ≡ changed_nibble c → Quotient c (16 ^ k) → writes_of (c + 1) k ≡ 1 + writes_of c k
  unfolding writes_of
  here e (stays d q) = absurd (d ((step_nibble_divides c k small).0 e).0)
  here e (grows z q) =
      let odd : (c + 1) / 16 ^ k % 16 ≡ 0 → ⊥ = λ o. ((step_nibble_divides c k small).0 e).1 (whole_next z o) in
      rw (quotient c k, quotient (c + 1) k) (omega arith)

  elsewhere : (k ≡ changed_nibble c → ⊥) → Quotient c (16 ^ k) → writes_of (c + 1) k ≡ writes_of c k
  unfolding writes_of
  elsewhere d (stays e q) = rw (quotient c k, quotient (c + 1) k, q)
  elsewhere d (grows z q) = go (ℕ_discrete ((c + 1) % 16 ^ (k + 1)) 0)
    where
      go : Dec ((c + 1) % 16 ^ (k + 1) ≡ 0) → (c + 1) / 16 ^ k - (c + 1) / 16 ^ (k + 1) ≡ c / 16 ^ k - c / 16 ^ (k + 1)
      go (yes e) = let even = next_whole z e in rw (quotient c k, quotient (c + 1) k) (omega arith)
      go (no n) = absurd (d ((step_nibble_divides c k small).1 (z, n)))

  pub writes_step : writes_of (c + 1) k ≡ cond (eqb k (changed_nibble c)) 1 0 + writes_of c k
  writes_step = go (ℕ_discrete k (changed_nibble c))
    where
      go : Dec (k ≡ changed_nibble c) → writes_of (c + 1) k ≡ cond (eqb k (changed_nibble c)) 1 0 + writes_of c k
      go (yes e) = rw (eq-eqb _ _ e) (here e (next c (16 ^ k) (sixteens_positive k)))
      go (no d) = rw (ne_eqb _ _ d, zero-add) (elsewhere d (next c (16 ^ k) (sixteens_positive k)))
