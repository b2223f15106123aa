-- What the loop of `write_lines` keeps: the records before the address were written, there is room for the rest, and the image from the
-- address on is what is left to cut into records.
use Rattle.std.proofs.Common.{◌≡◌, length, drop}
use Rattle.std.specs.Slice.Iter.{chunks_rest, chunks_size}
use Rattle.intelhex.proofs.Standard.{Begun}
use Rattle.intelhex.proofs.records.write_lines.Given as goal

abbrev pub invariant-loop-bytes : goal.invariant-loop-bytes
invariant-loop-bytes l = record {
  left : drop l.address l.image ≡ chunks_rest l.bytes-iterator;
  sixteen : chunks_size l.bytes-iterator ≡ 16;
  begun : Begun l.image l.initial.text l.address l.next l.text;
  same : length l.text ≡ length l.initial.text;
}
