-- What the loop of `read_lines` keeps: reading the text comes to reading what is left of it, and the cells that are not free were
-- counted. What is left falls.
use Rattle.std.proofs.Common.{◌≡◌, ◌+◌, ◌-◌, ◌≤◌, false, length}
use Rattle.intelhex.proofs.Taken.{free}
use Rattle.intelhex.proofs.TextLaws.{Under}
use Rattle.intelhex.proofs.texts.read_lines.Given as goal

abbrev pub invariant-loop-at : goal.invariant-loop-at
invariant-loop-at l = record {
  behind : l.done ≤ l.at;
  counted : l.filled + free l.cells ≡ length l.initial.cells;
  under : Under l.text l.initial.cells l.cells l.at l.done false;
  same : length l.cells ≡ length l.initial.cells;
}

abbrev pub decreases-loop-at : goal.decreases-loop-at
decreases-loop-at l = length l.text - l.at
