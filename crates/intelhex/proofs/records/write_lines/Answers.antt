-- `write_lines` meets its contract: the next record, and the end record behind the last one.
use Rattle.std.proofs.Common.{◌<◌, length, ap, sym, refl, ◌∙◌, rules, arith, length-drop}
use Rattle.intelhex.proofs.Standard.{begin, next_bytes, line_fits, line_on, end_room, end_on}
use Rattle.intelhex.proofs.records.write_lines.Goals as goal

pub loop-bytes-init : goal.loop-bytes-init
loop-bytes-init c = record { left = search rules; sixteen = search rules; begun = begin _ _ c.requires.1; same = refl }

pub write_line-next-requires : goal.write_line-next-requires
write_line-next-requires c =
    let loop = c.loop-bytes in
    let (cut, long, some) = c.in-Some.ensures.steps.1 in
    let left = sym (length-drop loop.address c.args.image.now) ∙ ap length loop.invariant.left in
    let inside : loop.address < length c.args.image.now = omega (arith, some, left) in
    let fits = line_fits loop.invariant.begun inside _ (next_bytes c.args.image.now loop.address loop.invariant.left loop.invariant.sixteen cut long).0 in
    (omega (arith, inside, c.requires), fits.0, omega (arith, fits.1, loop.invariant.same))

pub overflow_add-address : goal.overflow_add-address
overflow_add-address c =
    let loop = c.loop-bytes in
    let (cut, long, some) = c.in-Some.ensures.steps.1 in
    let left = sym (length-drop loop.address c.args.image.now) ∙ ap length loop.invariant.left in
    omega (arith, some, left, c.requires.0)

pub loop-bytes-preserved : goal.loop-bytes-preserved
loop-bytes-preserved c =
    let loop = c.loop-bytes in
    let (cut, long, some) = c.in-Some.ensures.steps.1 in
    let left = sym (length-drop loop.address c.args.image.now) ∙ ap length loop.invariant.left in
    let (bytes, more) = next_bytes c.args.image.now loop.address loop.invariant.left loop.invariant.sixteen cut long in
    record {
      left = more;
      sixteen = c.in-Some.ensures.steps.0 ∙ loop.invariant.sixteen;
      begun = line_on loop.invariant.begun (omega (arith, some, left)) (rw bytes at c.write_line-next.ensures);
      same = c.write_line-next.auto.text ∙ loop.invariant.same;
    }

pub write_end-requires : goal.write_end-requires
write_end-requires c =
    let inv = c.loop-bytes.invariant in
    let left = sym (length-drop c.loop-bytes.address c.args.image.now) ∙ ap length inv.left in
    omega (arith, end_room inv.begun (omega (arith, left, c.in-None.ensures.steps.1.0)), inv.same)

pub returns : goal.returns
returns c =
    let inv = c.loop-bytes.invariant in
    let left = sym (length-drop c.loop-bytes.address c.args.image.now) ∙ ap length inv.left in
    end_on inv.begun (omega (arith, left, c.in-None.ensures.steps.1.0)) c.write_end.ensures
