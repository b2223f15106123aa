-- The theorems on what a card answers (document 02, P4), where it is not refused.
--   used_and_left   turns used and turns left are together the allowance
--   by_speed        the turns used are those at 33 1/3 and those at 45; the time is 27 for each of the first, 20 for each of the others
use Prim.Native.Nat.{ℕ, ◌+◌, ◌*◌, ◌-◌}
use mathlib.Core.Path.{◌≡◌, refl, sym, ap, ◌∙◌}
use mathlib.Core.Bool.{true, cond}
use mathlib.Core.List.{List, [], ◌∷◌}
use native.Mathlib.Decide.{dec_le, ℕ_discrete}
use native.Mathlib.Omega.{arith}
use lib.Dec.{eqb}
use lib.IntN.{pos, ◌+ℤ◌, ◌-ℤ◌, +ℤ_comm, -ℤ-+ℤ_cancel}
use lib.ListN.{length}
use Rattle.counter.proofs.RangeTests.{both_hold}
use Rattle.card.specs.Cards.{Card, is_speed, all_speeds}
use Rattle.card.specs.Answers.{Answer, fault_of, total, per_turn, time_of, answer, answer_of}
use Rattle.card.specs.Sums.{turns_at}
use Rattle.card.proofs.RunLaws.{in_form_lem, fault_none}
use Rattle.card.proofs.WriteLaws.{two_speeds}
use Rattle.card.proofs.AnswerLaws.{answer_refused, answer_below, answer_apart, answer_good}

-- what a good answer is
good_answer : (runs : ℕ) (c : Card) (count : ℕ) → (answer_of runs c count).code ≡ 0
    → (fault_of runs c ≡ 0) × (total c.turns ≡ count - c.fitted)
    × (answer_of runs c count ≡ answer 0 (count - c.fitted) (pos c.allowed -ℤ pos (count - c.fitted)) (time_of c.speeds c.turns))
good_answer runs c count good =
    elim (ℕ_discrete (fault_of runs c) 0) [
      | no fault ↦ absurd (fault (sym (ap (λ (a : Answer). a.code) (answer_refused runs c count fault)) ∙ good))
      | yes none ↦
          elim (dec_le c.fitted count) [
            | no below ↦ absurd (omega (arith, good, ap (λ (a : Answer). a.code) (answer_below runs c count none (omega arith))))
            | yes least ↦
                elim (ℕ_discrete (total c.turns) (count - c.fitted)) [
                  | no apart ↦ absurd (omega (arith, good, ap (λ (a : Answer). a.code) (answer_apart runs c count none least apart)))
                  | yes even ↦ (none, even, answer_good runs c count none least even)
                ]
          ]
    ]

-- a run counts for its speed, and for no other
each_run : (speed turn : ℕ) → is_speed speed ≡ true
    → (turn ≡ cond (eqb speed 33) turn 0 + cond (eqb speed 45) turn 0)
    × (per_turn speed * turn ≡ 27 * cond (eqb speed 33) turn 0 + 20 * cond (eqb speed 45) turn 0)
each_run speed turn is =
    two_speeds (λ s. (turn ≡ cond (eqb s 33) turn 0 + cond (eqb s 45) turn 0) × (per_turn s * turn ≡ 27 * cond (eqb s 33) turn 0 + 20 * cond (eqb s 45) turn 0))
    speed is (omega arith, omega arith) (omega arith, omega arith)

-- the sums over all runs, and over those of each speed
each_sum : (speeds turns : List ℕ) → all_speeds speeds ≡ true → length turns ≡ length speeds
    → (total turns ≡ turns_at 33 speeds turns + turns_at 45 speeds turns) × (time_of speeds turns ≡ 27 * turns_at 33 speeds turns + 20 * turns_at 45 speeds turns)
unfolding total time_of turns_at all_speeds
each_sum [] [] all even = (refl, refl)
each_sum [] (turn ∷ turns) all even = absurd (omega arith)
each_sum (speed ∷ speeds) [] all even = absurd (omega arith)
each_sum (speed ∷ speeds) (turn ∷ turns) all even =
    let (right, rest) = both_hold (is_speed speed) (all_speeds speeds) all in
    let (turned, timed) = each_sum speeds turns rest (omega arith) in
    let (here, took) = each_run speed turn right in
    (omega (arith, turned, here), omega (arith, timed, took))

module _ (runs : ℕ) (c : Card) (count : ℕ) (good : (answer_of runs c count).code ≡ 0) where
  -- turns used and turns left are together the allowance
  pub used_and_left : pos (answer_of runs c count).used +ℤ (answer_of runs c count).left ≡ pos c.allowed
  used_and_left =
      let (_, _, is) = good_answer runs c count good in
      let used = pos (count - c.fitted) in
      rw is (+ℤ_comm used (pos c.allowed -ℤ used) ∙ -ℤ-+ℤ_cancel (pos c.allowed) used)

  -- the turns used are those at 33 1/3 and those at 45, and the time is 27 for each of the first and 20 for each of the others
  pub by_speed : ((answer_of runs c count).used ≡ turns_at 33 c.speeds c.turns + turns_at 45 c.speeds c.turns)
      × ((answer_of runs c count).time ≡ 27 * turns_at 33 c.speeds c.turns + 20 * turns_at 45 c.speeds c.turns)
  by_speed =
      let (none, even, is) = good_answer runs c count good in
      let (alike, all) = in_form_lem c (fault_none runs c none).0 in
      let (turned, timed) = each_sum c.speeds c.turns all alike in
      rw is (sym even ∙ turned, timed)
