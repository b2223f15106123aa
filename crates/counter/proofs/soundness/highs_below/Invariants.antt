-- What the loop of `soundness::highs_below` keeps.
use Rattle.std.proofs.Common.{ℕ, ◌+◌, ◌<◌, ◌≤◌}
use Rattle.counter.specs.Map.{pointer_of}
use Rattle.counter.proofs.soundness.highs_below.Given as goal

abbrev pub invariant-loop-n : goal.invariant-loop-n
invariant-loop-n l =
    (k : ℕ) → k < l.n → 3 ≤ k → (l.p.start ≤ pointer_of l.map k) × (pointer_of l.map k < l.border) × (pointer_of l.map k < 256) × (l.p.start ≤ pointer_of l.map (8 + k)) × (pointer_of l.map (8 + k) < l.border) × (pointer_of l.map (8 + k) < 256)
