-- What the loop of `write_runs` keeps: the lines of the runs passed were written.
use Prim.Native.Nat.{◌+◌, ◌≤◌}
use mathlib.Core.List.{flatten}
use lib.ListN.{length, take, drop}
use Rattle.text.specs.Text.{Wrote}
use Rattle.card.specs.Cards.{run_texts}
use Rattle.card.proofs.writing.write_runs.Given as goal

abbrev pub invariant-loop-speed : goal.invariant-loop-speed
invariant-loop-speed l = record {
  room : l.next + length (flatten (drop (length l.yielded) (run_texts l.speeds l.turns))) ≤ length l.initial.text;
  wrote : Wrote l.initial.text l.at (flatten (take (length l.yielded) (run_texts l.speeds l.turns))) l.next l.text;
}
