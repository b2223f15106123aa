-- What the loop of `cut_in` keeps: with the runs that are left the sums come to those of all.
use Prim.Native.Nat.{◌+◌, ◌*◌, ◌≤◌}
use mathlib.Core.Path.{◌≡◌}
use lib.ListN.{length, drop}
use Rattle.card.specs.Answers.{total, time_of}
use Rattle.card.proofs.runs.cut_in.Given as goal

abbrev pub invariant-loop-speed : goal.invariant-loop-speed
invariant-loop-speed l = record {
  small : (l.cut.turns ≤ length l.yielded * 4294967295) × (l.cut.time ≤ length l.yielded * (27 * 4294967295));
  turned : l.cut.turns + total (drop (length l.yielded) l.turns) ≡ total l.turns;
  timed : l.cut.time + time_of (drop (length l.yielded) l.speeds) (drop (length l.yielded) l.turns) ≡ time_of l.speeds l.turns;
}
