-- What the theorems on a card's sums speak of.
use Rattle.std.specs.Prelude.{ℕ, ◌+◌, cond, List, [], ◌∷◌, eqb}

-- the turns of the runs that were cut at a speed
unfoldable pub turns_at : ℕ → List ℕ → List ℕ → ℕ
turns_at at [] turns = 0
turns_at at (speed ∷ speeds) [] = 0
turns_at at (speed ∷ speeds) (turns ∷ more) = cond (eqb speed at) turns 0 + turns_at at speeds more
