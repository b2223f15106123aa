-- The table inside the crate. No promise of a door rests on it.
use Rattle.std.specs.Prelude.{◌≡◌, ℕ, ◌<◌, List, slice_index}
use Rattle.intelhex.specs.Signs.{value_of}

-- a table of what each sign counts
pub record Laid (values : List ℕ) : Type 0 where
  pub counts : (sign : ℕ) → sign < 256 → slice_index values sign ≡ value_of sign
