-- What the test `n < 0` says of a signed number.
use Prim.Native.Nat.{ℕ, ◌<◌, ◌^◌}
use mathlib.Core.Path.{◌≡◌, refl}
use mathlib.Core.Bool.{true, false, true≢false}
use native.Mathlib.Omega.{arith}
use lib.IntN.{ℤ, pos, negsuc}
use lib.Signed.{lt_z}
use mir.Syntax.{w64}
use mir.Val.{SFits, to_z, of_z}
use mir.Facts.{to_z-of_z}
use borrow.Author.Tests.{ltb-true}

-- it held: n is -(k + 1)
pub negative : (n : ℤ) → SFits w64 n → lt_z (to_z w64 (of_z w64 n)) (pos 0) ≡ true → (k : ℕ) × (n ≡ negsuc k) × (k < 2 ^ 63)
negative (pos k) fits test = absurd (omega (arith, ltb-true k 0 (rw (to_z-of_z fits) at test)))
negative (negsuc k) fits test = (k, refl, fits.sfits)

-- it failed: n is k
pub positive : (n : ℤ) → SFits w64 n → lt_z (to_z w64 (of_z w64 n)) (pos 0) ≡ false → (k : ℕ) × (n ≡ pos k) × (k < 2 ^ 63)
positive (pos k) fits test = (k, refl, fits.sfits)
positive (negsuc k) fits test =
    absurd (true≢false (rw (to_z-of_z fits) at test))
