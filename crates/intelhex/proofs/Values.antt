-- What signs count, tested for all of them.
use Rattle.std.proofs.Common.{◌≡◌, ℕ, zero, suc, ◌+◌, ◌-◌, ◌*◌, ◌<◌, ◌≤◌, Bool, true, false, cond, ◌&&◌, eqb, leb, ◌⊎◌, List, get_or, refl, inl, inr, arith, eqb-true, leb-true}
use native.Mathlib.Decide.{ℕ_discrete}
use Rattle.intelhex.specs.Signs.{no_digit, within, value_of, byte_at}
use Rattle.intelhex.specs.Laid.{Laid}
use Rattle.intelhex.proofs.LineLaws.{both}

-- a test holds of every number below n
unfoldable pub all_below : (ℕ → Bool) → ℕ → Bool
all_below test zero = true
all_below test (suc n) = test n && all_below test n

below : (test : ℕ → Bool) (n : ℕ) → all_below test n ≡ true → (k : ℕ) → k < n → test k ≡ true
unfolding all_below
below test zero all k inside = absurd (omega arith)
below test (suc n) all k inside =
    elim (ℕ_discrete k n) [
      | yes same ↦ rw same (both (test n) (all_below test n) all).0
      | no other ↦ below test n (both (test n) (all_below test n) all).1 k (omega arith)
    ]

-- a table that was tested at every sign
pub tested : (values : List ℕ) → all_below (λ s. eqb (get_or values s 0) (value_of s)) 256 ≡ true → Laid values
tested values computed = record { counts = λ sign small. eqb-true _ _ (below (λ s. eqb (get_or values s 0) (value_of s)) 256 computed sign small) }

-- no sign counts more than one that is no digit
most : all_below (λ s. leb (value_of s) no_digit) 256 ≡ true
unfolding all_below value_of
most = refl

pub value_most : (sign : ℕ) → sign < 256 → value_of sign ≤ no_digit
value_most sign small = leb-true (value_of sign) no_digit (below (λ s. leb (value_of s) no_digit) 256 most sign small)

-- a sign is a digit, or counts as none
kinds : (sign : ℕ) → (value_of sign < 16) ⊎ (value_of sign ≡ no_digit)
unfolding value_of
kinds sign =
    one_of (within 48 57 sign) (within 65 70 sign) (within 97 102 sign) (few 48 57 48 (omega arith)) (few 65 70 55 (omega arith)) (few 97 102 87 (omega arith))
  where
    one_of : (a b c : Bool) {x y z : ℕ} → (a ≡ true → x < 16) → (b ≡ true → y < 16) → (c ≡ true → z < 16)
        → (cond a x (cond b y (cond c z no_digit)) < 16) ⊎ (cond a x (cond b y (cond c z no_digit)) ≡ no_digit)
    one_of true b c first second third = inl (first refl)
    one_of false true c first second third = inl (second refl)
    one_of false false true first second third = inl (third refl)
    one_of false false false first second third = inr refl

    few : (low high less : ℕ) → high < less + 16 → within low high sign ≡ true → sign - less < 16
    few low high less near inside = omega (arith, near, leb-true sign high (both (leb low sign) (leb sign high) inside).1)

pub digit_of : (sign : ℕ) → value_of sign < 256 → value_of sign < 16
digit_of sign small = by_kind (kinds sign)
  where
    by_kind : (value_of sign < 16) ⊎ (value_of sign ≡ no_digit) → value_of sign < 16
    by_kind (inl digit) = digit
    by_kind (inr none) = absurd (omega (arith, small, none))

-- two signs are a byte, or count at least as much as one that is no digit
pub byte_kinds : (text : List ℕ) (at : ℕ) → 256 ≤ byte_at text at → no_digit ≤ byte_at text at
unfolding byte_at
byte_kinds text at large = by_kind (kinds (get_or text at 0)) (kinds (get_or text (at + 1) 0))
  where
    by_kind : (value_of (get_or text at 0) < 16) ⊎ (value_of (get_or text at 0) ≡ no_digit) → (value_of (get_or text (at + 1) 0) < 16) ⊎ (value_of (get_or text (at + 1) 0) ≡ no_digit)
        → no_digit ≤ 16 * value_of (get_or text at 0) + value_of (get_or text (at + 1) 0)
    by_kind (inl high) (inl low) = absurd (omega (arith, large, high, low))
    by_kind (inl high) (inr none) = omega (arith, none)
    by_kind (inr none) low = omega (arith, none)
