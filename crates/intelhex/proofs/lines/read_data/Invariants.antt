-- What the loop of `read_data` keeps: the first `done` bytes were added up, and, where all of them are bytes, stored, and it is known
-- whether a cell had its byte.
use Rattle.std.proofs.Common.{◌≡◌, ◌*◌, ◌≤◌, true, length, take, drop}
use lib.Seq.{sets}
use Rattle.intelhex.specs.Signs.{no_digit, bytes_at, total}
use Rattle.intelhex.specs.Faults.{some_taken}
use Rattle.intelhex.specs.Inside.{all_bytes}
use Rattle.intelhex.proofs.lines.read_data.Given as goal

abbrev pub invariant-loop-done : goal.invariant-loop-done
invariant-loop-done l = record {
  sums : l.sum ≡ total (bytes_at l.text l.at l.done);
  small : l.sum ≤ 17 * no_digit * l.done;
  looked : all_bytes (bytes_at l.text l.at l.done) ≡ true → l.twice ≡ some_taken (take l.done (drop l.address l.initial.cells));
  stored : all_bytes (bytes_at l.text l.at l.done) ≡ true → l.cells ≡ sets l.initial.cells l.address (bytes_at l.text l.at l.done);
  same : length l.cells ≡ length l.initial.cells;
}
