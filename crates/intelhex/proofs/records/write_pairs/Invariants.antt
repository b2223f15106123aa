-- What the loop of `write_pairs` keeps: the bytes before the one at hand were written and added up.
use Rattle.std.proofs.Common.{◌≡◌, ◌+◌, ◌*◌, ◌%◌, length, take}
use Rattle.text.specs.Text.{Wrote}
use Rattle.intelhex.specs.Signs.{in_digits, total}
use Rattle.intelhex.proofs.records.write_pairs.Given as goal

abbrev pub invariant-loop-byte : goal.invariant-loop-byte
invariant-loop-byte l = record {
  sums : l.sum ≡ (l.sum-2 + total (take l.byte-index l.bytes)) % 256;
  place : l.next ≡ l.at + 2 * l.byte-index;
  wrote : Wrote l.initial.text l.at (in_digits (take l.byte-index l.bytes)) l.next l.text;
  same : length l.text ≡ length l.initial.text;
}
