-- What two texts that are the same have in common.
use Prim.Native.Nat.{ℕ, suc, ◌<◌, suc-le-suc}
use mathlib.Core.Path.{◌≡◌, refl, sym, ap}
use mathlib.Core.List.{List, [], ◌∷◌, ◌++◌}
use native.Mathlib.Omega.{arith}
use lib.ListN.{length, drop, get_or}

-- a byte before others: the byte and the others
pub same_first : {x y : ℕ} {xs ys : List ℕ} → x ∷ xs ≡ y ∷ ys → x ≡ y
same_first same = ap (λ l. get_or l 0 0) same

pub same_rest : {x y : ℕ} {xs ys : List ℕ} → x ∷ xs ≡ y ∷ ys → xs ≡ ys
same_rest same = ap (drop 1) same

-- what stands behind the same bytes
pub same_behind : (word : List ℕ) {xs ys : List ℕ} → word ++ xs ≡ word ++ ys → xs ≡ ys
same_behind [] same = same
same_behind (byte ∷ word) same = same_behind word (same_rest same)

-- bytes among which a sign is not, with others behind them, where the sign stands behind other bytes: they are the front of those
pub front_of : (front bytes xs ys : List ℕ) (sign : ℕ) → ((k : ℕ) → k < length front → get_or front k 0 ≡ sign → ⊥)
    → front ++ xs ≡ bytes ++ (sign ∷ ys) → (more : List ℕ) × (bytes ≡ front ++ more) × (xs ≡ more ++ (sign ∷ ys))
front_of [] bytes xs ys sign none same = (bytes, refl, same)
front_of (first ∷ front) [] xs ys sign none same = absurd (none 0 (omega arith) (same_first same))
front_of (first ∷ front) (byte ∷ bytes) xs ys sign none same =
    let (more, begins, rest) = front_of front bytes xs ys sign (λ k inside. none (suc k) (suc-le-suc inside)) (same_rest same) in
    (more, (λ i. sym (same_first same) i ∷ begins i), rest)
