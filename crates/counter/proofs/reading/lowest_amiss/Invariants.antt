-- What the loop of `reading::lowest_amiss` keeps.
use Rattle.std.proofs.Common.{◌≡◌, ℕ, ◌+◌, ◌-◌, Bool}
use Rattle.counter.specs.Slots.{lowest}
use Rattle.counter.specs.Inside.{listed, Answers}
use Rattle.counter.proofs.reading.lowest_amiss.Given as goal

abbrev pub invariant-loop-n : goal.invariant-loop-n
invariant-loop-n g l =
    (test : ℕ → ℕ → Bool)
    → Answers (goal.F-post g l.is_amiss) test
    → lowest 8 0 (λ k. test (listed l.entries k) (listed l.entries (8 + k))) ≡ lowest (8 - l.n) l.n (λ k. test (listed l.entries k) (listed l.entries (8 + k)))
