-- What the door's answer means where there is room for every text: code 0 is an image of an allowed length, any other code is not, and
-- leaves the text alone.
use Prim.Native.Nat.{ℕ, ◌≤◌}
use mathlib.Core.Path.{◌≡◌, refl, ap, ◌∙◌}
use mathlib.Core.Bool.{true, false}
use mathlib.Core.List.{List}
use native.Mathlib.Nat.{zero-add}
use native.Mathlib.Omega.{arith}
use lib.ListN.{length}
use Rattle.text.specs.Text.{Wrote}
use Rattle.intelhex.specs.declared.Answer.{Answer}
use Rattle.intelhex.specs.Records.{standard_text}
use Rattle.intelhex.specs.Doors.{Outcome, outcome, sized, write_of}
use Rattle.intelhex.proofs.LineLaws.{choose}
use Rattle.intelhex.proofs.Standard.{sized_bounds}
use Rattle.intelhex.proofs.RoundTrip.{length_standard, write_good, write_refused}
use Rattle.tohex.specs.Told.{refusal, told_of, longest}

module _ (image text : List ℕ) (room : longest ≤ length text) where
  -- an image of an allowed length is written
  written : sized (length image) ≡ true → Wrote text 0 (standard_text image) (write_of image text).answer.length (write_of image text).left
      × ((write_of image text).answer.code ≡ 0)
  written right =
      let (least, most) = sized_bounds (length image) right in
      rw (write_good image text least most (omega (arith, length_standard image))) (record { ends = rw zero-add; holds = rw zero-add }, refl)

  module _ {answer : Answer} {after : List ℕ} (same : outcome answer after ≡ write_of image text) where
    code_same : answer.code ≡ (write_of image text).answer.code
    code_same = ap (λ (o : Outcome). o.answer.code) same

    pub taken : answer.code ≡ 0 → (sized (length image) ≡ true) × Wrote text 0 (told_of image) answer.length after
    unfolding told_of
    taken zero = choose (sized (length image))
        (λ right. rw (right, ap (λ (o : Outcome). o.answer.length) same, ap (λ (o : Outcome). o.left) same) (refl, (written right).0))
        (λ wrong. absurd (omega (arith, zero, code_same, ap (λ (o : Outcome). o.answer.code) (write_refused image text wrong))))

    pub unfit : (answer.code ≡ 0 → ⊥) → (sized (length image) ≡ false) × (after ≡ text) × (told_of image ≡ refusal)
    unfolding told_of
    unfit other = choose (sized (length image))
        (λ right. absurd (other (code_same ∙ (written right).1)))
        (λ wrong. (wrong, ap (λ (o : Outcome). o.left) (same ∙ write_refused image text wrong), rw wrong))
