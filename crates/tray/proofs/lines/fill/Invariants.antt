-- The lines of the images passed were written.
use mathlib.Core.List.{flatten}
use Rattle.std.proofs.Common.{◌*◌, ◌≤◌, take, get_or}
use Rattle.code.specs.Tabulate.{tabulate}
use Rattle.text.specs.Text.{Wrote}
use Rattle.tray.specs.Prints.{line_at, line_longest}
use Rattle.tray.proofs.lines.fill.Given as goal

abbrev pub invariant-loop-done : goal.invariant-loop-done
invariant-loop-done l = record {
  ends : l.next ≤ l.done * line_longest;
  wrote : Wrote l.initial.text 0 (flatten (take l.done (tabulate (line_at (λ i. get_or l.codes i 0) (λ i. get_or l.counts i 0)) 0 l.images))) l.next l.text;
}
