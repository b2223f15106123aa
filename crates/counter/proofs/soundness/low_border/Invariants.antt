-- What the loop of `soundness::low_border` keeps.
use Rattle.std.proofs.Common.{ℕ, ◌+◌, ◌<◌, ◌≤◌}
use Rattle.counter.specs.Map.{pointer_of}
use Rattle.counter.proofs.soundness.low_border.Given as goal

abbrev pub invariant-loop-n : goal.invariant-loop-n
invariant-loop-n l =
    (k : ℕ) → k < l.n → (l.border ≤ pointer_of l.map k) × (pointer_of l.map k ≤ l.last) × (l.border ≤ pointer_of l.map (8 + k)) × (pointer_of l.map (8 + k) ≤ l.last)
