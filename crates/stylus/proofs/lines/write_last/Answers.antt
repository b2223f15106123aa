-- `write_last` meets its contract: its two lines, one after the other, and there is room for them.
use Rattle.std.proofs.Common.{rules, arith, w64}
use Rattle.std.proofs.lemmas.Int.{to_z-of_z}
use Rattle.text.proofs.Writing.{wrote_on}
use Rattle.stylus.proofs.Room.{last_fit}
use Rattle.stylus.proofs.lines.write_last.Goals as goal

pub write_line-next-requires : goal.write_line-next-requires
write_line-next-requires c =
    rw (to_z-of_z w64 c.args.left (search rules)) (omega (arith, last_fit c.args.left c.args.time (search rules) (omega arith)))

pub write_line-requires : goal.write_line-requires
write_line-requires c =
    let first = rw (to_z-of_z w64 c.args.left (search rules)) at c.write_line-next.ensures in
    omega (arith, first.ends, last_fit c.args.left c.args.time (search rules) (omega arith))

pub returns : goal.returns
returns c =
    let first = rw (to_z-of_z w64 c.args.left (search rules)) at c.write_line-next.ensures in
    wrote_on _ _ (omega (arith, first.ends, last_fit c.args.left c.args.time (search rules) (omega arith))) first c.write_line.ensures
