-- What the doors come to (document 02, P4).
use Rattle.std.specs.Prelude.{ℕ, ◌≡◌, cond, List, [], ◌++◌, eqb, ltb, length, take, drop, replicate, Result, Ok, Err}
use Rattle.card.specs.declared.Card as held
use Rattle.card.specs.declared.Refusal.{Refusal}
use Rattle.card.specs.Cards.{Card, card, text_of, Shows}
use Rattle.card.specs.Refusals.{number}
use Rattle.card.specs.Answers.{fault_of}

-- the card that a value of type Card holds: of its 64 places those that have a run. It may say that it has more runs than places, and is
-- then refused, with 4 where neither 5 nor 1 is met
abbrev pub card_in : held.Card → Card
card_in h = card h.fitted h.allowed (take h.runs h.speeds) (take h.runs h.turns)

-- a row laid out in 64 places, with zeros past its end; and a card so
unfoldable pub in_places : List ℕ → List ℕ
in_places row = take 64 (row ++ replicate 64 0)

abbrev pub laid_out : Card → held.Card
laid_out c = record { fitted = c.fitted; allowed = c.allowed; runs = length c.speeds; speeds = in_places c.speeds; turns = in_places c.turns }

-- writing: 0 or the number of the refusal, and how long the text is
pub record Written : Type 0 where
  pub code : ℕ
  pub length : ℕ

-- and the lent text as it is left; 6 the room is too short
pub record Outcome : Type 0 where
  pub written : Written
  pub after : List ℕ

abbrev pub outcome : ℕ → ℕ → List ℕ → Outcome
outcome code length after = record { written = record { code = code; length = length }; after = after }

-- what a function that writes answered and left, by number
abbrev pub left_by : Result ℕ Refusal → List ℕ → Outcome
left_by (Ok length) after = outcome 0 length after
left_by (Err refusal) after = outcome (number refusal) 0 after

unfoldable pub copied : List ℕ → List ℕ → Outcome
copied whole text = cond (ltb (length text) (length whole)) (outcome 6 0 text) (outcome 0 (length whole) (whole ++ drop (length whole) text))

unfoldable pub write_of : ℕ → Card → List ℕ → Outcome
write_of runs c text = cond (eqb (fault_of runs c) 0) (copied (text_of c) text) (outcome (fault_of runs c) 0 text)

-- reading: 0 or the number of the refusal, and the card that a text shows; a card of zeros with a refusal
pub record Read : Type 0 where
  pub code : ℕ
  pub card : held.Card

abbrev pub read : ℕ → Card → Read
read code c = record { code = code; card = laid_out c }

abbrev pub unread : ℕ → Read
unread code = read code (card 0 0 [] [])

-- what a function that reads answered, by number
abbrev pub card_read : Result held.Card Refusal → Read
card_read (Ok h) = record { code = 0; card = h }
card_read (Err refusal) = unread (number refusal)

unfoldable pub read_of : Card → Read
read_of c = let fault = fault_of (length c.speeds) c in cond (eqb fault 0) (read 0 c) (unread fault)

-- what is answered of a text: by the card that it shows; and otherwise where it shows none
pub data Told {A : Type 0} (text : List ℕ) (of : Card → A) (otherwise : A) (answer : A) : Type 0 where
  shown : (c : Card) → Shows text c → answer ≡ of c → Told text of otherwise answer
  not_shown : ((c : Card) → Shows text c → ⊥) → answer ≡ otherwise → Told text of otherwise answer
