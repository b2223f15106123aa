-- `write_signed` meets its contract: a minus sign where negative, and the decimal of the magnitude.
use Prim.Native.Nat.{ℕ}
use mathlib.Core.Path.{◌≡◌, refl, sym, ap, ◌∙◌}
use mathlib.Core.Bool.{true, false}
use mathlib.Core.List.{[], ◌∷◌, ◌++◌}
use native.Mathlib.Omega.{arith}
use lib.IntN.{ℤ, pos, nat_abs}
use lib.ListN.{length}
use lib.Signed.{lt_z}
use mir.Syntax.{w64}
use mir.Val.{SFits, to_z, of_z}
use mir.Facts.{to_z-of_z}
use Rattle.text.specs.Text.{minus, decimal, signed}
use Rattle.text.proofs.Writing.{wrote_more}
use Rattle.text.proofs.Signs.{negative, positive}
use Rattle.text.proofs.write_signed.Goals as goal

module _ (n : ℤ) (fits : SFits w64 n) (magnitude : ℕ) (is : magnitude ≡ nat_abs (to_z w64 (of_z w64 n))) where
  with_minus : lt_z (to_z w64 (of_z w64 n)) (pos 0) ≡ true → signed n ≡ (minus ∷ []) ++ decimal magnitude
  unfolding signed
  with_minus test =
      let (k, negated, small) = negative n fits test in
      ap signed negated ∙ ap (λ m. minus ∷ decimal m) (sym (is ∙ ap nat_abs (to_z-of_z fits ∙ negated)))

  plain : lt_z (to_z w64 (of_z w64 n)) (pos 0) ≡ false → signed n ≡ decimal magnitude
  unfolding signed
  plain test =
      let (k, same, small) = positive n fits test in
      ap signed same ∙ ap decimal (sym (is ∙ ap nat_abs (to_z-of_z fits ∙ same)))

pub write_byte-next-requires : goal.write_byte-next-requires
write_byte-next-requires c = omega (arith, ap length (with_minus _ c.ranges.n _ refl c.if-n-lt0.true))

pub write_decimal-requires : goal.write_decimal-requires
write_decimal-requires c =
    omega (arith, ap length (with_minus _ c.ranges.n _ c.unsigned_abs.ensures.value c.if-n-lt0.true))

pub returns-then-n-lt0 : goal.returns-then-n-lt0
returns-then-n-lt0 c =
    let is = with_minus _ c.ranges.n _ c.unsigned_abs.ensures.value c.if-n-lt0.true in
    rw is (wrote_more _ _ (rw is at c.requires) c.write_byte-next.ensures c.write_decimal.ensures)

pub write_decimal-requires-2 : goal.write_decimal-requires-2
write_decimal-requires-2 c =
    rw (← plain _ c.ranges.n _ c.unsigned_abs-2.ensures.value c.if-n-lt0.false) c.requires

pub returns : goal.returns
returns c =
    rw (plain _ c.ranges.n _ c.unsigned_abs-2.ensures.value c.if-n-lt0.false) c.write_decimal-2.ensures
