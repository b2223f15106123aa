-- The laws of runs: what they add up to, one by one, and their lines; and of a card in form.
use Prim.Native.Nat.{ℕ, zero, suc, ◌+◌, ◌*◌, ◌≤◌, ◌<◌}
use mathlib.Core.Path.{◌≡◌, refl, ap}
use mathlib.Core.Bool.{Bool, true, false, cond, ◌&&◌}
use mathlib.Core.List.{List, [], ◌∷◌}
use native.Mathlib.Nat.{le_of_suc-le-suc}
use native.Mathlib.Numerals.{add-one}
use native.Mathlib.Omega.{arith}
use borrow.Author.Tests.{eqb-true, leb-true, le-leb}
use lib.Dec.{eqb, leb}
use lib.ListN.{length, drop, get_or, drop_of_length-le}
use lib.Seq.{drop-cons}
use Rattle.card.specs.Cards.{Card, all_speeds, formed, run_text, run_texts}
use Rattle.counter.proofs.RangeTests.{both_hold}
use Rattle.card.specs.Answers.{limit_fault, fault_of, total, per_turn, time_of}

-- what the runs that are left add up to, and none
module _ (speeds turns : List ℕ) (at : ℕ) where
  pub runs_end : length turns ≡ length speeds → length speeds ≤ at → (total (drop at turns) ≡ 0) × (time_of (drop at speeds) (drop at turns) ≡ 0)
  unfolding total time_of
  runs_end even past =
      let past' : length turns ≤ at = omega arith in
      rw (drop_of_length-le speeds past, drop_of_length-le turns past') (refl, refl)

  module _ (even : length turns ≡ length speeds) (inside : at < length speeds) where
    pub total_next : total (drop at turns) ≡ get_or turns at 0 + total (drop (at + 1) turns)
    unfolding total
    total_next = rw (drop-cons turns at 0 (omega arith), add-one)

    pub time_next : time_of (drop at speeds) (drop at turns) ≡ per_turn (get_or speeds at 0) * get_or turns at 0 + time_of (drop (at + 1) speeds) (drop (at + 1) turns)
    unfolding time_of
    time_next = rw (drop-cons speeds at 0 inside, drop-cons turns at 0 (omega arith), add-one)

-- there are lines for each run
pub length_texts : (speeds turns : List ℕ) → length turns ≡ length speeds → length (run_texts speeds turns) ≡ length speeds
unfolding run_texts
length_texts [] turns even = refl
length_texts (speed ∷ speeds) [] even = absurd (omega arith)
length_texts (speed ∷ speeds) (turn ∷ turns) even = ap suc (length_texts speeds turns (omega arith))

pub text_at : (speeds turns : List ℕ) (k : ℕ) → length turns ≡ length speeds → k < length speeds
    → get_or (run_texts speeds turns) k [] ≡ run_text (get_or speeds k 0) (get_or turns k 0)
unfolding run_texts
text_at [] turns k even inside = absurd (omega arith)
text_at (speed ∷ speeds) [] k even inside = absurd (omega arith)
text_at (speed ∷ speeds) (turn ∷ turns) zero even inside = refl
text_at (speed ∷ speeds) (turn ∷ turns) (suc k) even inside = text_at speeds turns k (omega arith) (le_of_suc-le-suc inside)

-- a card in form
pub in_form_lem : (c : Card) → formed c ≡ true → (length c.turns ≡ length c.speeds) × (all_speeds c.speeds ≡ true)
in_form_lem c form =
    let (even, all) = both_hold (eqb (length c.turns) (length c.speeds)) (all_speeds c.speeds) form in
    (eqb-true (length c.turns) (length c.speeds) even, all)

-- a card that is not refused
pub fault_none : (runs : ℕ) (c : Card) → fault_of runs c ≡ 0 → (formed c ≡ true) × (1 ≤ c.allowed) × (c.allowed ≤ 1000000) × (runs ≤ 64)
unfolding fault_of limit_fault
fault_none runs c none = go (formed c) (leb 1 c.allowed) (leb c.allowed 1000000) (leb runs 64) refl refl refl refl none
  where
    go : (form least most few : Bool) → formed c ≡ form → leb 1 c.allowed ≡ least → leb c.allowed 1000000 ≡ most → leb runs 64 ≡ few
        → ◌≡◌ {A = ℕ} (cond form (cond (least && most) (cond few 0 4) 1) 5) 0
        → (formed c ≡ true) × (1 ≤ c.allowed) × (c.allowed ≤ 1000000) × (runs ≤ 64)
    go true true true true form least most few none = (form, leb-true 1 c.allowed least, leb-true c.allowed 1000000 most, leb-true runs 64 few)
    go true true true false form least most few none = absurd (omega (arith, none))
    go true true false few' form least most few none = absurd (omega (arith, none))
    go true false most' few' form least most few none = absurd (omega (arith, none))
    go false least' most' few' form least most few none = absurd (omega (arith, none))

pub no_fault : (runs : ℕ) (c : Card) → formed c ≡ true → 1 ≤ c.allowed → c.allowed ≤ 1000000 → runs ≤ 64 → fault_of runs c ≡ 0
unfolding fault_of limit_fault
no_fault runs c form low high few = rw (form, le-leb 1 c.allowed low, le-leb c.allowed 1000000 high, le-leb runs 64 few)
