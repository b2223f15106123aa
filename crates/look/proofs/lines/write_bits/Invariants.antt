-- The lines of the bits passed were written.
use mathlib.Core.List.{flatten}
use Rattle.std.proofs.Common.{◌+◌, ◌*◌, ◌≤◌, take}
use Rattle.text.specs.Text.{Wrote}
use Rattle.look.specs.Look.{bit_lines, bit_longest}
use Rattle.look.proofs.lines.write_bits.Given as goal

abbrev pub invariant-loop-bit : goal.invariant-loop-bit
invariant-loop-bit l = record {
  ends : l.next ≤ l.at + l.bit * bit_longest;
  wrote : Wrote l.initial.text l.at (flatten (take l.bit (bit_lines l.fn.bits))) l.next l.text;
}
