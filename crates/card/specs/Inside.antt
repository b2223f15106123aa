-- What the functions inside the crate promise each other. No promise of a door rests on it.
use Rattle.std.specs.Prelude.{ℕ, ◌+◌, ◌≡◌, true, length, get_or, Option, Some, None}
use Rattle.std.specs.List.{sum_by}
use mathlib.Core.List.{List, [], flatten}
use Rattle.text.specs.Text.{decimal}
use Rattle.text.specs.Reading.{Small, Found, both, Both}
use Rattle.card.specs.declared.Card as held
use Rattle.card.specs.declared.held.Held.{Held}
use Rattle.card.specs.Cards.{Card, card, fitted_line, allowed_line, runs_line, speed_line, turns_line, run_texts, is_speed, all_speeds}
use Rattle.card.specs.Doors.{in_places, laid_out}

-- the card whose runs stand in two lent rows
abbrev pub rows_of : Held → Card
rows_of h = card h.fitted h.allowed h.speeds.now h.turns.now

-- a card with no runs, in its places; and what was read into one
abbrev pub empty : held.Card
empty = laid_out (card 0 0 [] [])

abbrev pub if_read : Option (Unit {0}) → held.Card → Option held.Card
if_read (Some _) after = Some after
if_read None after = None

-- how long the lines of a run are, with a speed of two digits, and those of all runs
abbrev pub run_length : ℕ → ℕ
run_length turns = 16 + length (decimal turns)

abbrev pub runs_length : List ℕ → ℕ
runs_length turns = sum_by run_length turns

-- the lines before the runs as forms, one behind another: of when fitted and the turns allowed, and of these and how many runs there are
abbrev pub pair_form : ℕ × ℕ → List ℕ
pair_form = both fitted_line (λ fitted. allowed_line)

abbrev pub head_form : (ℕ × ℕ) × ℕ → List ℕ
head_form = both pair_form (λ pair. runs_line)

abbrev pub SmallPair : ℕ × ℕ → Type 0
SmallPair = Both Small (λ fitted. Small)

abbrev pub SmallHead : (ℕ × ℕ) × ℕ → Type 0
SmallHead = Both SmallPair (λ pair. Small)

-- the lines of a run
abbrev pub run_form : ℕ × ℕ → List ℕ
run_form = both speed_line (λ speed. turns_line)

abbrev pub IsSpeed : ℕ → Type 0
IsSpeed speed = is_speed speed ≡ true

abbrev pub IsRun : ℕ × ℕ → Type 0
IsRun = Both IsSpeed (λ speed. Small)

-- the lines of all runs, as many as there are
abbrev pub rows_form : List ℕ × List ℕ → List ℕ
rows_form (speeds, turns) = flatten (run_texts speeds turns)

pub record AreRuns (runs : ℕ) (rows : List ℕ × List ℕ) : Type 0 where
  pub speeds : length rows.0 ≡ runs
  pub turns : length rows.1 ≡ runs
  pub right : all_speeds rows.0 ≡ true
  pub small : (k : ℕ) → Small (get_or rows.1 k 0)

-- so many runs were read, up to the text that stands behind them, into 64 places
pub record RowsAt (text : List ℕ) (runs : ℕ) (rest speeds turns : List ℕ) : Type 0 where
  pub rows : List ℕ × List ℕ
  pub found : Found rows_form (AreRuns runs) text rows rest
  pub speeds_laid : speeds ≡ in_places rows.0
  pub turns_laid : turns ≡ in_places rows.1
