-- What the functions inside the crate promise each other. No promise of a public function rests on it.
use Rattle.std.specs.Prelude.{ℕ, List, [], ◌∷◌, ◌++◌}
use Rattle.text.specs.Text.{line_feed, decimal}

-- a decimal and the line feed that closes it
abbrev pub closed : ℕ → List ℕ
closed n = decimal n ++ (line_feed ∷ [])
