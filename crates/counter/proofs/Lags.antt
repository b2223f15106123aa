-- The lag, an exact difference of two counts of 32 bits, and what it decides.
--   lag_exact                 the difference of the counts as the code has them
--   lag_fits                  fits 64 bits
--   lag_bits                  and so can be kept as bits and read back
--   wide_exact, wide_bits     the same where the counts were made signed numbers first
--   decide_level, decide_ahead  lag 0 and lag 1 answer
--   decide_apart              any other is refused
--   lag_level, lag_ahead      counts of lag 0 are equal, and of lag 1 one apart
--   decide_same, decide_next, decide_other  what counts decide that are equal, one apart, or neither
use Rattle.counter.specs.Verdict.{read_as}
use Rattle.std.proofs.Common.{◌≡◌, ℕ, zero, suc, ◌+◌, ◌-◌, ◌^◌, ◌<◌, ◌≤◌, false, ℤ, pos, negsuc, ◌-ℤ◌, sym, refl, ap, ◌∙◌, ap₂, true≢false, add-zero, arith, to_z-of_z, w64, SFits, to_z, of_z, le-ltb, lt-ltb, Err}
use native.Mathlib.Decide.{dec_le}
use native.Mathlib.Nat.{sub-zero}
use borrow.Author.Tests.{lt-leb}
use lib.IntN.{+ℤ_invr}
use mir.Facts.{to_z_pos}
use Rattle.counter.specs.declared.verdict.Refusal.TheVariants.{Apart}
use Rattle.counter.specs.Reading.{close, decide}

-- ahead, or level
ahead : (a b : ℕ) → b ≤ a → pos a -ℤ pos b ≡ pos (a - b)
ahead a zero h = rw (add-zero a, sub-zero a)
ahead a (suc b) h = rw (le-ltb a (suc b) h)

behind : (a b : ℕ) → a < b → pos a -ℤ pos b ≡ negsuc (b - suc a)
behind a zero h = absurd (omega arith)
behind a (suc b) h = rw (lt-ltb a (suc b) h)

module _ (a b : ℕ) (small : a < 2 ^ 32) (small' : b < 2 ^ 32) where
  fits : Dec (b ≤ a) → SFits w64 (pos a -ℤ pos b)
  fits (yes h) = rw (ahead a b h) (record { sfits = omega arith })
  fits (no h) = rw (behind a b (omega arith)) (record { sfits = omega arith })

  pub lag_exact : to_z w64 a -ℤ to_z w64 b ≡ pos a -ℤ pos b
  lag_exact = ap₂ ◌-ℤ◌ (to_z_pos w64 {n = a} (omega arith)) (to_z_pos w64 {n = b} (omega arith))

  pub lag_fits : SFits w64 (to_z w64 a -ℤ to_z w64 b)
  lag_fits = rw lag_exact (fits (dec_le b a))

  pub lag_bits : to_z w64 (of_z w64 (to_z w64 a -ℤ to_z w64 b)) ≡ pos a -ℤ pos b
  lag_bits = to_z-of_z lag_fits ∙ lag_exact

  -- a count as a signed number
  wide : (n : ℕ) → n < 2 ^ 32 → SFits w64 (pos n)
  wide n l = record { sfits = omega arith }

  pub wide_exact : to_z w64 (of_z w64 (pos a)) -ℤ to_z w64 (of_z w64 (pos b)) ≡ pos a -ℤ pos b
  wide_exact = ap₂ ◌-ℤ◌ (to_z-of_z (wide a small)) (to_z-of_z (wide b small'))

  pub wide_bits : to_z w64 (of_z w64 (to_z w64 (of_z w64 (pos a)) -ℤ to_z w64 (of_z w64 (pos b)))) ≡ pos a -ℤ pos b
  wide_bits = ap (λ (z : ℤ). to_z w64 (of_z w64 z)) wide_exact ∙ to_z-of_z (fits (dec_le b a))

close_not : (z : ℤ) → (z ≡ pos 0 → ⊥) → (z ≡ pos 1 → ⊥) → close z ≡ false
unfolding close
close_not (pos n) none one = lt-leb n 1 (go n none one)
  where
    go : (n : ℕ) → (pos n ≡ pos 0 → ⊥) → (pos n ≡ pos 1 → ⊥) → 1 < n
    go zero none one = absurd (none refl)
    go (suc zero) none one = absurd (one refl)
    go (suc (suc n)) none one = omega arith
close_not (negsuc n) none one = refl

pub decide_level : (a b : ℕ) → pos a -ℤ pos b ≡ pos 0 → decide a b ≡ read_as a (pos a -ℤ pos b)
unfolding decide close
decide_level a b e = rw e

pub decide_ahead : (a b : ℕ) → pos a -ℤ pos b ≡ pos 1 → decide a b ≡ read_as a (pos a -ℤ pos b)
unfolding decide close
decide_ahead a b e = rw e

pub decide_apart : (a b : ℕ) → (pos a -ℤ pos b ≡ pos 0 → ⊥) → (pos a -ℤ pos b ≡ pos 1 → ⊥) → decide a b ≡ Err (Apart (pos a -ℤ pos b))
unfolding decide
decide_apart a b none one = rw (close_not (pos a -ℤ pos b) none one)

-- a small lag tells the one count from the other
lag_small : (a b n : ℕ) → pos a -ℤ pos b ≡ pos n → a ≡ b + n
lag_small a b n e = go (dec_le b a)
  where
    go : Dec (b ≤ a) → a ≡ b + n
    go (yes h) = let q : pos (a - b) ≡ pos n = sym (ahead a b h) ∙ e in let same : a - b ≡ n = cc in omega arith
    go (no h) = let q : negsuc (b - suc a) ≡ pos n = sym (behind a b (omega arith)) ∙ e in absurd (true≢false cc)

pub lag_level : (a b : ℕ) → pos a -ℤ pos b ≡ pos 0 → a ≡ b
lag_level a b e = let q = lag_small a b 0 e in omega arith

pub lag_ahead : (a b : ℕ) → pos a -ℤ pos b ≡ pos 1 → a ≡ b + 1
lag_ahead a b e = lag_small a b 1 e

pub decide_same : (c : ℕ) → decide c c ≡ read_as c (pos 0)
decide_same c = rw (sym (+ℤ_invr (pos c))) (decide_level c c (+ℤ_invr (pos c)))

pub decide_next : (c : ℕ) → decide (c + 1) c ≡ read_as (c + 1) (pos 1)
decide_next c = rw (sym one) (decide_ahead (c + 1) c one)
  where
    one : pos (c + 1) -ℤ pos c ≡ pos 1
    one = let e : c + 1 - c ≡ 1 = omega arith in ahead (c + 1) c (omega arith) ∙ rw e

pub decide_other : (a b : ℕ) → (a ≡ b → ⊥) → (a ≡ b + 1 → ⊥) → decide a b ≡ Err (Apart (pos a -ℤ pos b))
decide_other a b level ahead = decide_apart a b (λ e. level (lag_level a b e)) (λ e. ahead (lag_ahead a b e))
