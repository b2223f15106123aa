-- What the loop of `soundness::bits_of` keeps.
use Rattle.std.proofs.Common.{◌+◌, ◌-◌, ◌*◌, ◌/◌, ◌%◌}
use Rattle.counter.specs.Map.{pointer_of}
use Rattle.counter.specs.Inside.{Among}
use Rattle.counter.proofs.BitMarks.{Marks}
use Rattle.counter.proofs.soundness.bits_of.Given as goal

abbrev pub invariant-loop-n : goal.invariant-loop-n
invariant-loop-n l =
    Marks (Among l.from l.n) (2 * (l.n - l.from)) (λ k. (pointer_of l.map k + l.skew * (pointer_of l.map k / 64)) % 64) l.bits
