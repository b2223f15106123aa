-- The lines of a text (document 02, P2). Any bytes at all are a text.
use Rattle.std.specs.Prelude.{ℕ, Bool, true, false, cond, ◌&&◌, List, [], ◌∷◌, ◌==◌, slice_index}
use Rattle.intelhex.specs.Signs.{line_feed, carriage_return}

-- what stands before a line's end, and whether it has one
pub record Line : Type 0 where
  pub signs : List ℕ
  pub ended : Bool

abbrev pub line : List ℕ → Bool → Line
line signs ended = record { signs = signs; ended = ended }

-- a sign put before the first of some lines; where there is none it is a line without its end
abbrev pub onto : ℕ → List Line → List Line
onto sign [] = line (sign ∷ []) false ∷ []
onto sign (first ∷ more) = line (sign ∷ first.signs) first.ended ∷ more

-- a line ends with a line feed; one carriage return right before it belongs to the end
unfoldable pub lines_of : List ℕ → List Line
lines_of [] = []
lines_of (sign ∷ text) =
    cond (sign == line_feed) (line [] true ∷ lines_of text)
    (cond (sign == carriage_return && slice_index text 0 == line_feed) (lines_of text) (onto sign (lines_of text)))
