-- The stylus card (document 02, P4), and its one text.
use Rattle.std.specs.Prelude.{ℕ, ◌<◌, ◌^◌, ◌≡◌, Bool, true, ◌&&◌, ◌||◌, length, get_or, eqb}
use mathlib.Core.List.{List, [], ◌∷◌, ◌++◌, flatten}
use Rattle.text.specs.Text.{bytes_of, decimal, line}

-- the count when the sapphire was fitted, the turns that it is allowed, and its runs in two rows: of each the speed that it was cut
-- at, and how many turns it had
pub record Card : Type 0 where
  pub fitted : ℕ
  pub allowed : ℕ
  pub speeds : List ℕ
  pub turns : List ℕ

abbrev pub card : ℕ → ℕ → List ℕ → List ℕ → Card
card fitted allowed speeds turns = record { fitted = fitted; allowed = allowed; speeds = speeds; turns = turns }

-- the five lines
abbrev pub fitted_line : ℕ → List ℕ
fitted_line fitted = line (bytes_of "fitted") (decimal fitted)

abbrev pub allowed_line : ℕ → List ℕ
allowed_line allowed = line (bytes_of "allowed") (decimal allowed)

abbrev pub runs_line : ℕ → List ℕ
runs_line runs = line (bytes_of "runs") (decimal runs)

abbrev pub speed_line : ℕ → List ℕ
speed_line speed = line (bytes_of "speed") (decimal speed)

abbrev pub turns_line : ℕ → List ℕ
turns_line turns = line (bytes_of "turns") (decimal turns)

-- those before the runs, those of a run, and those of all runs
abbrev pub head_text : ℕ → ℕ → ℕ → List ℕ
head_text fitted allowed runs = fitted_line fitted ++ allowed_line allowed ++ runs_line runs

abbrev pub run_text : ℕ → ℕ → List ℕ
run_text speed turns = speed_line speed ++ turns_line turns

unfoldable pub run_texts : List ℕ → List ℕ → List (List ℕ)
run_texts [] turns = []
run_texts (speed ∷ speeds) [] = []
run_texts (speed ∷ speeds) (turns ∷ more) = run_text speed turns ∷ run_texts speeds more

-- the text of a card
unfoldable pub text_of : Card → List ℕ
text_of c = head_text c.fitted c.allowed (length c.speeds) ++ flatten (run_texts c.speeds c.turns)

-- the two speeds: 33 1/3 and 45 turns a minute
abbrev pub is_speed : ℕ → Bool
is_speed speed = eqb speed 33 || eqb speed 45

unfoldable pub all_speeds : List ℕ → Bool
all_speeds [] = true
all_speeds (speed ∷ speeds) = is_speed speed && all_speeds speeds

-- each run has a speed, one of the two, and its turns
abbrev pub formed : Card → Bool
formed c = eqb (length c.turns) (length c.speeds) && all_speeds c.speeds

-- no number is above 4294967295
pub record Fits (c : Card) : Type 0 where
  pub fitted : c.fitted < 2 ^ 32
  pub allowed : c.allowed < 2 ^ 32
  pub runs : length c.speeds < 2 ^ 32
  pub turns : (k : ℕ) → get_or c.turns k 0 < 2 ^ 32

-- a text is in form exactly if it shows a card; no text shows two (`shows_one`)
pub record Shows (text : List ℕ) (c : Card) : Type 0 where
  pub formed : formed c ≡ true
  pub fits : Fits c
  pub written : text ≡ text_of c
