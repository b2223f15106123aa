-- What the loop of `write_bytes` keeps: the bytes before the one at hand are written.
use Rattle.std.proofs.Common.{◌≡◌, length, take}
use Rattle.text.specs.Text.{Wrote}
use Rattle.text.proofs.write_bytes.Given as goal

abbrev pub invariant-loop-byte : goal.invariant-loop-byte
invariant-loop-byte l = record {
  wrote : Wrote l.initial.text l.at (take l.byte-index l.bytes) l.next l.text;
  same : length l.text ≡ length l.initial.text;
}
