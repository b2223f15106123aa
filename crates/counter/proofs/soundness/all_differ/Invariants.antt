-- What the loop of `soundness::all_differ` keeps.
use Rattle.std.proofs.Common.{◌≡◌, ℕ, Bool, true, not, eqb}
use Rattle.counter.specs.Slots.{every}
use Rattle.counter.specs.Inside.{listed}
use Rattle.counter.proofs.soundness.all_differ.Given as goal

-- that the value at a place is none of those before it
abbrev pub new : (ℕ → ℕ) → ℕ → Bool
new value j = every j (λ i. not (eqb (value i) (value j)))

abbrev pub invariant-loop-slot : goal.invariant-loop-slot
invariant-loop-slot l = every l.slot (new (listed l.pointers)) ≡ true
