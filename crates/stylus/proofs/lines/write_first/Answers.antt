-- `write_first` meets its contract: its three lines, one after another, and there is room for them.
use Rattle.std.proofs.Common.{◌≤◌, arith}
use Rattle.text.proofs.Writing.{wrote_on}
use Rattle.stylus.specs.Prints.{first_longest}
use Rattle.stylus.proofs.Room.{first_fit}
use Rattle.stylus.proofs.lines.write_first.Goals as goal

pub write_line-first-requires : goal.write_line-first-requires
write_line-first-requires c = omega (arith, first_fit c.args.read c.args.code c.args.used (omega arith) (omega arith) (omega arith))

pub write_line-second-requires : goal.write_line-second-requires
write_line-second-requires c = omega (arith, first_fit c.args.read c.args.code c.args.used (omega arith) (omega arith) (omega arith))

pub write_line-requires : goal.write_line-requires
write_line-requires c = omega (arith, first_fit c.args.read c.args.code c.args.used (omega arith) (omega arith) (omega arith))

pub returns : goal.returns
returns c =
    let fits = first_fit c.args.read c.args.code c.args.used (omega arith) (omega arith) (omega arith) in
    let ends : c.write_line.result ≤ first_longest = omega (arith, fits) in (
      wrote_on _ _ (omega arith)
          (wrote_on _ _ (omega arith) c.write_line-first.ensures c.write_line-second.ensures)
          c.write_line.ensures,
      ends,
    )
