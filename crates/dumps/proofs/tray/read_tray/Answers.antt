-- `read_tray` meets its contract.
use mathlib.Core.Path.{sym, ap, ◌∙◌}
use Prim.Native.Nat.{◌*◌, ◌≤◌}
use native.Mathlib.Omega.{arith}
use Rattle.std.proofs.lemmas.Bool.Decides.{nat_tests}
use borrow.Author.Tests.{le-leb}
use lib.ListN.{length}
use Rattle.dumps.specs.Tray.{images_in, tray_of}
use Rattle.dumps.proofs.Images.{whole_images}
use Rattle.dumps.proofs.tray.read_tray.Goals as goal

pub returns-then-images-lt1 : goal.returns-then-images-lt1
unfolding tray_of
returns-then-images-lt1 c = grind (arith, nat_tests)

pub returns-then-codes-images : goal.returns-then-codes-images
unfolding tray_of
returns-then-codes-images c = grind (arith, nat_tests)

pub fill-requires : goal.fill-requires
fill-requires c =
    let images = c.images_in-images.ensures in
    let s = c.args in
    let one : 1 ≤ images_in s.each (length s.tray.now) = omega (arith, images, c.if-images-lt1.false) in
    (ap (λ n. n * s.each) images ∙ sym (whole_images _ _ one).long, c.if-counts-images.false, c.if-codes-images.false)

pub returns : goal.returns
unfolding tray_of
returns c =
    rw (sym c.images_in-images.ensures, le-leb 1 _ c.if-images-lt1.false, le-leb _ _ c.if-counts-images.false, le-leb _ _ c.if-codes-images.false)
    c.fill.ensures
