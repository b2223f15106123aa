-- What a card answers, case by case.
use Prim.Native.Nat.{ℕ, ◌-◌, ◌≤◌, ◌<◌}
use mathlib.Core.Path.{◌≡◌}
use borrow.Author.Tests.{lt-ltb, le-ltb, eq-eqb, ne_eqb}
use lib.IntN.{pos, ◌-ℤ◌}
use Rattle.card.specs.Cards.{Card}
use Rattle.card.specs.Answers.{fault_of, total, time_of, answer, refused, used_of, answer_of}

module _ (runs : ℕ) (c : Card) (count : ℕ) where
  pub answer_refused : (fault_of runs c ≡ 0 → ⊥) → answer_of runs c count ≡ refused (fault_of runs c)
  unfolding answer_of
  answer_refused fault = rw (ne_eqb (fault_of runs c) 0 fault)

  module _ (none : fault_of runs c ≡ 0) where
    pub answer_below : count < c.fitted → answer_of runs c count ≡ refused 2
    unfolding answer_of used_of
    answer_below below = rw (eq-eqb (fault_of runs c) 0 none, lt-ltb count c.fitted below)

    module _ (least : c.fitted ≤ count) where
      pub answer_apart : (total c.turns ≡ count - c.fitted → ⊥) → answer_of runs c count ≡ refused 3
      unfolding answer_of used_of
      answer_apart apart = rw (eq-eqb (fault_of runs c) 0 none, le-ltb count c.fitted least, ne_eqb (total c.turns) (count - c.fitted) apart)

      pub answer_good : total c.turns ≡ count - c.fitted
          → answer_of runs c count ≡ answer 0 (count - c.fitted) (pos c.allowed -ℤ pos (count - c.fitted)) (time_of c.speeds c.turns)
      unfolding answer_of used_of
      answer_good even = rw (eq-eqb (fault_of runs c) 0 none, le-ltb count c.fitted least, eq-eqb (total c.turns) (count - c.fitted) even)
