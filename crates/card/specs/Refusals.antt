-- The numbers of the refusals (document 02, P4).
use Rattle.std.specs.Prelude.{ℕ, Result, Ok, Err}
use Rattle.card.specs.declared.Refusal.{Refusal}
use Rattle.card.specs.declared.Refusal.TheVariants.{AllowanceOutOfRange, CountBelowFitted, RunsApart, TooManyRuns, NotInForm, RoomTooShort}

abbrev pub number : Refusal → ℕ
number AllowanceOutOfRange = 1
number CountBelowFitted = 2
number RunsApart = 3
number TooManyRuns = 4
number NotInForm = 5
number RoomTooShort = 6

-- 0 where nothing is refused, and else the number of the refusal
abbrev pub code_of : {A : Type 0} → Result A Refusal → ℕ
code_of (Ok _) = 0
code_of (Err refusal) = number refusal
