-- Lists that are filled from the front.
--   all_set                   what holds of every entry below i, and of the one set at i, holds below i + 1
use Prim.Native.Nat.{ℕ, ◌+◌, ◌<◌}
use mathlib.Core.Path.{◌≡◌}
use mathlib.Core.List.{List}
use native.Mathlib.Decide.{ℕ_discrete}
use native.Mathlib.Omega.{arith}
use lib.ListN.{length, get_or, set}
use lib.Seq.{get_or-set_same, get_or-set_other}

pub all_set : (P : ℕ → ℕ → Type 0) (xs : List ℕ) (i v : ℕ) → i < length xs → ((k : ℕ) → k < i → P k (get_or xs k 0)) → P i v
    → (k : ℕ) → k < i + 1 → P k (get_or (set xs i v) k 0)
all_set P xs i v inside below here k l = go (ℕ_discrete k i)
  where
    go : Dec (k ≡ i) → P k (get_or (set xs i v) k 0)
    go (yes e) = rw (e, get_or-set_same xs i v 0 inside) here
    go (no d) = rw (get_or-set_other xs i k v 0 d) (below k (omega arith))
