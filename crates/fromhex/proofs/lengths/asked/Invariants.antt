-- The digits that are left lead from the number so far to the length.
use Rattle.std.proofs.Common.{drop, ◌≤◌, ◌≡◌}
use Rattle.fromhex.specs.Lengths.{too_long, length_from, length_of}
use Rattle.fromhex.proofs.lengths.asked.Given as goal

abbrev pub invariant-loop-byte : goal.invariant-loop-byte
invariant-loop-byte l = record {
  small : l.n ≤ too_long;
  rest : length_from l.n (drop l.byte-index l.digits) ≡ length_of l.digits;
}
