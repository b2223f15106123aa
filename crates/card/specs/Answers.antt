-- What a card answers (document 02, P4), and what it is refused for.
use Rattle.std.specs.Prelude.{ℕ, ◌+◌, ◌-◌, ◌*◌, cond, ◌&&◌, List, [], ◌∷◌, eqb, ltb, leb, ℤ, pos, ◌-ℤ◌, Result, Ok, Err}
use Rattle.counter.specs.declared.verdict.Answer as counter
use Rattle.card.specs.declared.Wear.{Wear}
use Rattle.card.specs.declared.Refusal.{Refusal}
use Rattle.card.specs.declared.ChipAnswer as chip
use Rattle.card.specs.Cards.{Card, formed}
use Rattle.card.specs.Refusals.{number}

-- the limits of a card in form: 1 the allowance is out of range, 4 too many runs; 0 neither
unfoldable pub limit_fault : ℕ → ℕ → ℕ
limit_fault allowed runs = cond (leb 1 allowed && leb allowed 1000000) (cond (leb runs 64) 0 4) 1

-- what a card that says it has so many runs is refused for by itself, in this order: 5 not in form, 1, 4
unfoldable pub fault_of : ℕ → Card → ℕ
fault_of runs c = cond (formed c) (limit_fault c.allowed runs) 5

-- the turns of all runs
unfoldable pub total : List ℕ → ℕ
total [] = 0
total (turns ∷ more) = turns + total more

-- cutting time in fifteenths of a second: 27 for a turn at 33 1/3, 20 for one at 45
abbrev pub per_turn : ℕ → ℕ
per_turn speed = cond (eqb speed 33) 27 20

unfoldable pub time_of : List ℕ → List ℕ → ℕ
time_of [] turns = 0
time_of (speed ∷ speeds) [] = 0
time_of (speed ∷ speeds) (turns ∷ more) = per_turn speed * turns + time_of speeds more

-- an answer: 0 or the number of the refusal, turns used and turns left, and the cutting time
pub record Answer : Type 0 where
  pub code : ℕ
  pub used : ℕ
  pub left : ℤ
  pub time : ℕ

abbrev pub answer : ℕ → ℕ → ℤ → ℕ → Answer
answer code used left time = record { code = code; used = used; left = left; time = time }

-- a refusal has zeros besides
abbrev pub refused : ℕ → Answer
refused code = answer code 0 (pos 0) 0

-- what a function answered, by number
abbrev pub answered : Result Wear Refusal → Answer
answered (Ok wear) = answer 0 wear.used wear.left wear.time
answered (Err refusal) = refused (number refusal)

-- turns used, turns left and cutting time at a count; 2 the count is below the one when fitted, 3 the runs do not add up
unfoldable pub used_of : Card → ℕ → Answer
used_of c count =
    let used = count - c.fitted in
    cond (ltb count c.fitted) (refused 2)
    (cond (eqb (total c.turns) used) (answer 0 used (pos c.allowed -ℤ pos used) (time_of c.speeds c.turns)) (refused 3))

unfoldable pub answer_of : ℕ → Card → ℕ → Answer
answer_of runs c count = cond (eqb (fault_of runs c) 0) (used_of c count) (refused (fault_of runs c))

-- the answer at the count of a chip, with the code of its read
pub record ChipAnswer : Type 0 where
  pub read : ℕ
  pub answer : Answer

abbrev pub answered_chip : chip.ChipAnswer → ChipAnswer
answered_chip a = record { read = a.read; answer = answered a.answer }

-- only two codes, that of a chip's read and the card's own: the rest is 0
abbrev pub chip_refused : counter.Answer → ℕ → ChipAnswer
chip_refused found code = record { read = found.code; answer = refused code }

-- what a card answers at the count that a chip was read as; where the read is refused, the two codes
unfoldable pub chip_answer_of : ℕ → Card → counter.Answer → ChipAnswer
chip_answer_of runs c found =
    cond (eqb found.code 0) (record { read = 0; answer = answer_of runs c found.count }) (chip_refused found (fault_of runs c))
