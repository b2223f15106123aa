-- What changes from one count to the next: in each copy the byte of one slot.
--   change_step               the code of a slot changes just where its nibble is the changed one, as a number
--   step_changes              so as many slots change as there are copies
use Prim.Native.Nat.{ℕ, zero, suc, ◌+◌, ◌-◌, ◌/◌, ◌%◌, ◌^◌, ◌<◌}
use mathlib.Core.Path.{◌≡◌}
use mathlib.Core.Bool.{cond}
use native.Mathlib.Nat.{add-zero, zero-add}
use native.Mathlib.Decide.{ℕ_discrete}
use native.Mathlib.Omega.{arith}
use borrow.Author.Tests.{eq-eqb, ne_eqb}
use lib.Dec.{eqb}
use Rattle.code.proofs.ChangeLaws.{step_nibble_small}
use Rattle.counter.specs.declared.layout.Layout.{Layout}
use Rattle.counter.specs.Layout.{slots}
use Rattle.counter.specs.Store.{slot_code}
use Rattle.counter.proofs.Moves.{change}
use Rattle.counter.proofs.Stores.{changes}
use Rattle.counter.proofs.WorkSteps.{changes_none, changes_next}
use Rattle.counter.proofs.NextStores.{changed_nibble, step_changed, step_stays}

module _ (c : ℕ) (small : c + 1 < 2 ^ 32) where
  -- a slot changes by one byte where its nibble is the changed one
  pub change_step : (k : ℕ) → change (slot_code c k) (slot_code (c + 1) k) ≡ cond (eqb (k % 8) (changed_nibble c)) 1 0
  change_step k = go (ℕ_discrete (k % 8) (changed_nibble c))
    where
      go : Dec (k % 8 ≡ changed_nibble c) → change (slot_code c k) (slot_code (c + 1) k) ≡ cond (eqb (k % 8) (changed_nibble c)) 1 0
      go (yes e) = rw (ne_eqb _ _ (step_changed c small k e), eq-eqb _ _ e)
      go (no n) = rw (eq-eqb _ _ (step_stays c small k n), ne_eqb _ _ n)

  change_is :
      (k : ℕ) → Dec (k % 8 ≡ changed_nibble c)
      → change (slot_code c k) (slot_code (c + 1) k) + (k + 7 - changed_nibble c) / 8 ≡ (k + 1 + 7 - changed_nibble c) / 8
  change_is k (yes e) = let h = step_nibble_small c small in rw (ne_eqb _ _ (step_changed c small k e)) (omega arith)
  change_is k (no n) = let h = step_nibble_small c small in rw (eq-eqb _ _ (step_stays c small k n)) (omega arith)

  -- the changes among the n slots from k on are the numbers of the changed nibble among them
  changes_are : (n k : ℕ) → changes n k (slot_code c) (slot_code (c + 1)) + (k + 7 - changed_nibble c) / 8 ≡ (k + n + 7 - changed_nibble c) / 8
  changes_are zero k = rw (changes_none, zero-add, add-zero)
  changes_are (suc n) k =
      let h = changes_are n (k + 1) in
      let h' = change_is k (ℕ_discrete (k % 8) (changed_nibble c)) in
      let e : k + suc n ≡ k + 1 + n = omega arith in
      rw (e, changes_next) (omega arith)

  pub step_changes : (layout : Layout) → changes (slots layout) 0 (slot_code c) (slot_code (c + 1)) ≡ layout.copies
  step_changes layout = let h = changes_are (slots layout) 0 in let h' = step_nibble_small c small in omega arith
