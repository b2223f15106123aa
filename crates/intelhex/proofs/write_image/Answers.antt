-- `write_image` meets its contract: the standard text of an image that may have its length, where there is room for it.
use Rattle.std.proofs.Common.{◌<◌, ◌≤◌, length, sym, ◌∙◌, zero-add, arith, le-ltb, lt-ltb}
use Rattle.intelhex.specs.Records.{standard_text}
use Rattle.intelhex.specs.Doors.{answer, outcome, write_of}
use Rattle.intelhex.proofs.Standard.{sized_bounds}
use Rattle.intelhex.proofs.RoundTrip.{length_standard}
use Rattle.intelhex.proofs.write_image.Goals as goal

pub returns-then-not-is_sized : goal.returns-then-not-is_sized
unfolding write_of
returns-then-not-is_sized c =
    rw (sym c.is_sized.ensures ∙ c.if-not-is_sized.true)

pub returns-then-text-length_for : goal.returns-then-text-length_for
unfolding write_of
returns-then-text-length_for c =
    let short : length c.args.text.now < length (standard_text c.args.image.now) =
    omega (arith, length_standard c.args.image.now) in
    rw (sym c.is_sized.ensures ∙ c.if-not-is_sized.false, lt-ltb _ _ short)

pub write_lines-requires : goal.write_lines-requires
write_lines-requires c =
    ((sized_bounds _ (sym c.is_sized.ensures ∙ c.if-not-is_sized.false)).1, omega (arith, length_standard c.args.image.now))

pub returns : goal.returns
unfolding write_of
returns c =
    let room : length (standard_text c.args.image.now) ≤ length c.args.text.now = omega (arith, length_standard c.args.image.now) in
    rw (sym c.is_sized.ensures ∙ c.if-not-is_sized.false, le-ltb _ _ room)
    (λ i. outcome (answer 0 0 ((rw zero-add at c.write_lines.ensures.ends) i)) ((rw zero-add at c.write_lines.ensures.holds) i))
