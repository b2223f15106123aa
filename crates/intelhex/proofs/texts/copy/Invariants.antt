-- What the loop of `copy` keeps: the first k cells were copied.
use Rattle.std.proofs.Common.{◌≡◌, length, take}
use Rattle.intelhex.proofs.texts.copy.Given as goal

abbrev pub invariant-loop-k : goal.invariant-loop-k
invariant-loop-k l = record {
  copied : take l.k l.image ≡ take l.k l.cells;
  same : length l.image ≡ length l.initial.image;
}
