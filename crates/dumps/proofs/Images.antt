-- The number of images of a tray, told without a division (document 02, P7).
--   whole_number         the length of n images is counted as n, if a tray holds so many
--   Whole, whole_images  the images that a tray holds make its length
use Prim.Native.Nat.{ℕ, ◌*◌, ◌/◌, ◌%◌, ◌≤◌}
use mathlib.Core.Path.{◌≡◌, refl}
use mathlib.Core.Bool.{Bool, true, false, cond, ◌&&◌}
use native.Mathlib.Nat.{mul-div_cancel, mul-mod_left, div-add-mod'}
use native.Mathlib.Omega.{arith}
use lib.Dec.{leb, eqb}
use borrow.Author.Tests.{le-leb, leb-true, eqb-true}
use Rattle.counter.proofs.RangeTests.{both_hold}
use Rattle.dumps.specs.Tray.{most_images, images_in}

-- the length of n images is counted as n, if a tray holds so many
pub whole_number : (each n : ℕ) → 1 ≤ each → n ≤ most_images → images_in each (n * each) ≡ n
unfolding images_in
whole_number each n some most = rw (mul-div_cancel n some, mul-mod_left n each, le-leb 1 each some, le-leb n most_images most)

-- no more images than a tray holds, of at least one byte each, make so many bytes
pub record Whole (each bytes images : ℕ) : Type 0 where
  pub some : 1 ≤ each
  pub most : images ≤ most_images
  pub long : bytes ≡ images * each

-- the images that a tray holds make its length
pub whole_images : (each bytes : ℕ) → 1 ≤ images_in each bytes → Whole each bytes (images_in each bytes)
unfolding images_in
whole_images each bytes = go (leb 1 each && eqb (bytes % each) 0 && leb (bytes / each) most_images) refl
  where
    go : (b : Bool) → leb 1 each && eqb (bytes % each) 0 && leb (bytes / each) most_images ≡ b → 1 ≤ cond b (bytes / each) 0
        → Whole each bytes (cond b (bytes / each) 0)
    go false e one = absurd (omega (arith, one))
    go true e one =
        let (front, most) = both_hold _ (leb (bytes / each) most_images) e in
        let (some, rest) = both_hold (leb 1 each) _ front in
        let rest : bytes % each ≡ 0 = eqb-true _ _ rest in
        record { some = leb-true _ _ some; most = leb-true _ _ most; long = omega (arith, rest, div-add-mod' bytes each) }
