-- The numbers of refusals: none is 0, each is one refusal's, and what a function answered is told from its numbers.
use Prim.Native.Nat.{ℕ}
use mathlib.Core.Path.{◌≡◌, refl}
use mathlib.Core.Bool.{cond}
use mathlib.Core.List.{List}
use native.Mathlib.Omega.{arith}
use lib.Dec.{eqb}
use Rattle.std.specs.Prelude.{Result, Ok, Err}
use Rattle.card.specs.declared.Card as held
use Rattle.card.specs.declared.Wear.{Wear}
use Rattle.card.specs.declared.Refusal.{Refusal}
use Rattle.card.specs.declared.Refusal.TheVariants.{AllowanceOutOfRange, CountBelowFitted, RunsApart, TooManyRuns, NotInForm, RoomTooShort}
use Rattle.card.specs.declared.ChipAnswer as chip
use Rattle.card.specs.Refusals.{number}
use Rattle.card.specs.Answers.{Answer, ChipAnswer, answered, answered_chip}
use Rattle.card.specs.Doors.{Outcome, Read, left_by, card_read}

pub some_number : (refusal : Refusal) → number refusal ≡ 0 → ⊥
some_number AllowanceOutOfRange zero = omega (arith, zero)
some_number CountBelowFitted zero = omega (arith, zero)
some_number RunsApart zero = omega (arith, zero)
some_number TooManyRuns zero = omega (arith, zero)
some_number NotInForm zero = omega (arith, zero)
some_number RoomTooShort zero = omega (arith, zero)

-- back from the numbers
abbrev pub refusal_of : ℕ → Refusal
refusal_of n =
    cond (eqb n 1) AllowanceOutOfRange
    (cond (eqb n 2) CountBelowFitted (cond (eqb n 3) RunsApart (cond (eqb n 4) TooManyRuns (cond (eqb n 5) NotInForm RoomTooShort))))

abbrev pub result_of : {A : Type 0} → ℕ → A → Result A Refusal
result_of code value = cond (eqb code 0) (Ok value) (Err (refusal_of code))

abbrev pub wear_in : Answer → Result Wear Refusal
wear_in a = result_of a.code (record { used = a.used; left = a.left; time = a.time })

abbrev pub chip_in : ChipAnswer → chip.ChipAnswer
chip_in a = record { read = a.read; answer = wear_in a.answer }

abbrev pub length_in : Outcome → Result ℕ Refusal
length_in o = result_of o.written.code o.written.length

abbrev pub card_of : Read → Result held.Card Refusal
card_of r = result_of r.code r.card

module _ {A : Type 0} (value : A) where
  err_back : (refusal : Refusal) → result_of (number refusal) value ≡ Err refusal
  err_back AllowanceOutOfRange = refl
  err_back CountBelowFitted = refl
  err_back RunsApart = refl
  err_back TooManyRuns = refl
  err_back NotInForm = refl
  err_back RoomTooShort = refl

pub wear_back : (r : Result Wear Refusal) → wear_in (answered r) ≡ r
wear_back (Ok wear) = refl
wear_back (Err refusal) = err_back _ refusal

pub chip_back : (a : chip.ChipAnswer) → chip_in (answered_chip a) ≡ a
chip_back a = λ i. record { read = a.read; answer = wear_back a.answer i }

pub length_back : (r : Result ℕ Refusal) (text : List ℕ) → length_in (left_by r text) ≡ r
length_back (Ok length) text = refl
length_back (Err refusal) text = err_back _ refusal

pub left_back : (r : Result ℕ Refusal) (text : List ℕ) → (left_by r text).after ≡ text
left_back (Ok length) text = refl
left_back (Err refusal) text = refl

pub card_back : (r : Result held.Card Refusal) → card_of (card_read r) ≡ r
card_back (Ok card) = refl
card_back (Err refusal) = err_back _ refusal
