-- The kind of a slot, and tests over a range of numbers.
use Rattle.std.specs.Prelude.{ℕ, zero, suc, ◌+◌, ◌%◌, Bool, true, false, cond, ◌&&◌, ◌||◌, nat_lt, Option, Some, None}
use Rattle.counter.specs.declared.map.Kind.{Kind}
use Rattle.counter.specs.declared.map.Kind.TheVariants.{High, Low}

-- nibbles 0, 1, 2 are Low, nibbles 3 to 7 High
unfoldable pub kind_of : ℕ → Kind
kind_of k = cond (nat_lt (k % 8) 3) Low High

-- the test holds of each number below n
unfoldable pub every : ℕ → (ℕ → Bool) → Bool
every zero test = true
every (suc n) test = every n test && test n

-- the test holds of some number below n
unfoldable pub some : ℕ → (ℕ → Bool) → Bool
some zero test = false
some (suc n) test = some n test || test n

-- the lowest of the n numbers from k on of which the test holds
unfoldable pub lowest : ℕ → ℕ → (ℕ → Bool) → Option ℕ
lowest zero k test = None
lowest (suc n) k test = cond (test k) (Some k) (lowest n (k + 1) test)
