-- `write_line` meets its contract: its three numbers and the line feed, one behind another, and there is room for them.
use Rattle.std.proofs.Common.{arith}
use Rattle.text.specs.Text.{bytes_of}
use Rattle.text.proofs.Writing.{wrote_four}
use Rattle.tray.specs.Prints.{field, line_of}
use Rattle.tray.proofs.Room.{fields_fit, line_fits}
use Rattle.tray.proofs.lines.write_line.Goals as goal

pub write_field-numbered-requires : goal.write_field-numbered-requires
write_field-numbered-requires c = omega (arith, fields_fit c.args.number c.args.code c.args.count (omega arith) (omega arith) (omega arith))

pub write_field-coded-requires : goal.write_field-coded-requires
write_field-coded-requires c = omega (arith, fields_fit c.args.number c.args.code c.args.count (omega arith) (omega arith) (omega arith))

pub write_field-counted-requires : goal.write_field-counted-requires
write_field-counted-requires c = omega (arith, fields_fit c.args.number c.args.code c.args.count (omega arith) (omega arith) (omega arith))

pub write_byte-requires : goal.write_byte-requires
write_byte-requires c = omega (arith, fields_fit c.args.number c.args.code c.args.count (omega arith) (omega arith) (omega arith))

pub returns : goal.returns
unfolding line_of
returns c =
    let room = line_fits c.args.number c.args.code c.args.count (omega arith) (omega arith) (omega arith) in
    let wrote =
    wrote_four
    (field (bytes_of "number=") c.args.number) (field (bytes_of " code=") c.args.code) (field (bytes_of " count=") c.args.count) _
    (omega (arith, room))
    c.write_field-numbered.ensures c.write_field-coded.ensures c.write_field-counted.ensures c.write_byte.ensures in
    (wrote, omega (arith, wrote.ends, room))
