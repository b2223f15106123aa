-- Storing the next count where the chip holds a count exactly: two slots change.
--   step_changed              the code of a slot of the changed nibble changes
--   step_stays                the code of a slot of another nibble stays
--   held_passed               slots that hold their codes are passed over
--   store_held                storing a count that all slots hold asks nothing and changes nothing
--   held_next                 behind which comes the next count alone
--   next_stored, next_is      storing the next count is storing the changed nibble's slot in each copy
use Rattle.std.proofs.Common.{◌≡◌, ℕ, zero, suc, ◌+◌, ◌-◌, ◌/◌, ◌%◌, ◌^◌, ◌<◌, ◌≤◌, true, sym, refl, ap, ◌∙◌, append-nil, add-zero, zero-add, arith, Ok, Err}
use Rattle.code.specs.Codes.{code_of}
use Rattle.code.specs.Gray.{gray_of, changed_bit}
use Rattle.code.specs.Nibbles.{nibble_of}
use Rattle.code.proofs.NibbleLaws.{nibble_small}
use Rattle.code.proofs.ReadingLaws.{code_injective}
use Rattle.code.proofs.ChangeLaws.{step_nibble_small, step_nibble, step_nibble_others}
use Rattle.cells.specs.Chip.{Chip}
use Rattle.cells.specs.Run.{Run, still}
use Rattle.cells.proofs.Logs.{within_kept}
use Rattle.counter.specs.declared.places.Places.{Places}
use Rattle.counter.specs.Layout.{Layout, two, slots}
use Rattle.counter.specs.Map.{sound}
use Rattle.counter.specs.Verdict.{◌and_then◌, Work, complete}
use Rattle.counter.specs.Store.{slot_code, store_slot, store_from, store}
use Rattle.counter.specs.Doors.{last_count}
use Rattle.counter.specs.Inside.{fitted, Holds}
use Rattle.counter.proofs.SoundPointers.{Sound, test_sound}
use Rattle.counter.proofs.Ready.{pointers, data_of, Ready, ready_kept}
use Rattle.counter.proofs.Moves.{change, SlotLaws, slot_there, slot_laws}
use Rattle.counter.proofs.Fitted.{fitted_ready}
use Rattle.counter.proofs.Stores.{done_then, stopped_then}

-- the nibble that changes from c to c + 1
abbrev pub changed_nibble : ℕ → ℕ
changed_nibble c = changed_bit (c + 1) / 4

pub step_changed : (c : ℕ) → c + 1 < 2 ^ 32 → (k : ℕ) → k % 8 ≡ changed_nibble c → slot_code c k ≡ slot_code (c + 1) k → ⊥
unfolding slot_code
step_changed c small k at e =
    let same = code_injective _ _ (nibble_small (gray_of c) (k % 8)) (nibble_small (gray_of (c + 1)) (k % 8)) e in
    step_nibble c small (sym (rw at at same))

pub step_stays : (c : ℕ) → c + 1 < 2 ^ 32 → (k : ℕ) → (k % 8 ≡ changed_nibble c → ⊥) → slot_code c k ≡ slot_code (c + 1) k
unfolding slot_code
step_stays c small k other = ap code_of (sym (step_nibble_others c (k % 8) small other))

-- ## One piece of storing and then another

-- what comes next counts only where the first is done
then_same : (r : Run Work) (one other : Chip → Run Work) → (r.answer ≡ complete → one r.after ≡ other r.after) → r and_then one ≡ r and_then other
then_same r one other same = go r.answer refl
  where
    go : (w : Work) → r.answer ≡ w → r and_then one ≡ r and_then other
    go (Ok tt) e = done_then r one e ∙ rw (same e) (sym (done_then r other e))
    go (Err why) e = stopped_then r one why e ∙ sym (stopped_then r other why e)

-- nothing comes next
then_still : (r : Run Work) → r and_then still complete ≡ r
then_still r = go r.answer refl
  where
    go : (w : Work) → r.answer ≡ w → r and_then still complete ≡ r
    go (Ok tt) e = done_then r (still complete) e ∙ rw (append-nil, add-zero, ← e)
    go (Err why) e = stopped_then r (still complete) why e

-- nothing came before
still_then : (s : Chip) (work : Chip → Run Work) → still complete s and_then work ≡ work s
still_then s work = rw zero-add

-- ## Slots that hold their codes

module _ (layout : Layout) (p : Places) (d : ℕ) where
  pub held_passed :
      (m n k : ℕ) (s : Chip) → ((j : ℕ) → k ≤ j → j < k + m → data_of layout p s j ≡ slot_code d j)
      → store_from (m + n) k layout p d s ≡ store_from n (k + m) layout p d s
  unfolding store_from
  held_passed zero n k s held = rw (zero-add, add-zero)
  held_passed (suc m) n k s held =
      let e : suc m + n ≡ suc (m + n) = omega arith in
      let f : k + suc m ≡ k + 1 + m = omega arith in
      rw (e, f, slot_there layout p k (slot_code d k) s (held k (omega arith) (omega arith)))
      (still_then s (store_from (m + n) (k + 1) layout p d) ∙ held_passed m n (k + 1) s (λ j l u. held j (omega arith) (omega arith)))

  pub store_held : (s : Chip) → Holds layout p d s.cells → store layout p d s ≡ still complete s
  unfolding store store_from
  store_held s held =
      ap (λ (n : ℕ). store_from n 0 layout p d s) (sym (add-zero (slots layout)))
      ∙ held_passed (slots layout) 0 0 s (λ j l u. held j (omega arith))

  pub held_next : (s : Chip) (work : Chip → Run Work) → Holds layout p d s.cells → store layout p d s and_then work ≡ work s
  held_next s work held = ap (λ (r : Run Work). r and_then work) (store_held s held) ∙ still_then s work

-- ## The next count

module _ (p : Places) (c : ℕ) (s : Chip) (small : c + 1 < 2 ^ 32) (ready : Ready two p s) (sound : Sound 16 p (pointers two p s)) (held : Holds two p c s.cells) where
  abbrev next : ℕ → Chip → Run Work
  next k = store_slot two p k (slot_code (c + 1) k)

  abbrev nibble : ℕ
  nibble = changed_nibble c

  low : nibble < 8
  low = step_nibble_small c small

  -- the slots behind the second one that changes
  last : (t : Chip) → ((j : ℕ) → 8 + nibble < j → j < 16 → data_of two p t j ≡ slot_code (c + 1) j) → store_from (7 - nibble) (8 + nibble + 1) two p (c + 1) t ≡ still complete t
  unfolding store_from
  last t there =
      let h = low in
      ap (λ (n : ℕ). store_from n (8 + nibble + 1) two p (c + 1) t) (sym (add-zero (7 - nibble)))
      ∙ held_passed two p (c + 1) (7 - nibble) 0 (8 + nibble + 1) t (λ j l u. there j (omega arith) (omega arith))

  -- the code of every other slot is the same
  stays : (t : Chip) → ((j : ℕ) → j < 16 → (j ≡ nibble → ⊥) → data_of two p t j ≡ data_of two p s j) → (j : ℕ) → j < 16 → (j % 8 ≡ nibble → ⊥) → data_of two p t j ≡ slot_code (c + 1) j
  stays t kept j l other = kept j l (λ e. let h = low in other (omega arith)) ∙ held j l ∙ step_stays c small j other

  -- the slots behind the first one that changes, once it is done
  behind : (t : Chip) → Ready two p t → Sound 16 p (pointers two p t)
      → ((j : ℕ) → j < 16 → (j ≡ nibble → ⊥) → data_of two p t j ≡ data_of two p s j)
      → store_from (15 - nibble) (nibble + 1) two p (c + 1) t ≡ next (8 + nibble) t
  unfolding store_from
  behind t fit well kept =
      let h = low in
      let e : 15 - nibble ≡ 7 + suc (7 - nibble) = omega arith in
      let f : nibble + 1 + 7 ≡ 8 + nibble = omega arith in
      ap (λ (n : ℕ). store_from n (nibble + 1) two p (c + 1) t) e
      ∙ held_passed two p (c + 1) 7 (suc (7 - nibble)) (nibble + 1) t (λ j l u. stays t kept j (omega arith) (λ q. omega arith))
      ∙ ap (λ (k : ℕ). store_from (suc (7 - nibble)) k two p (c + 1) t) f
      ∙ then_same (next (8 + nibble) t) (store_from (7 - nibble) (8 + nibble + 1) two p (c + 1)) (still complete) (λ d. last _ (λ j l u. after d j l u))
      ∙ then_still (next (8 + nibble) t)
    where
      after : (next (8 + nibble) t).answer ≡ complete → (j : ℕ) → 8 + nibble < j → j < 16 → data_of two p (next (8 + nibble) t).after j ≡ slot_code (c + 1) j
      after d j l u =
          let h = low in
          ((slot_laws fit well (8 + nibble) (omega arith) (slot_code (c + 1) (8 + nibble))).settles d).kept j u (λ q. omega arith)
          ∙ stays t kept j u (λ q. omega arith)

  pub next_stored : store two p (c + 1) s ≡ next nibble s and_then next (8 + nibble)
  unfolding store store_from
  next_stored =
      let h = low in
      let e : 16 ≡ nibble + suc (15 - nibble) = omega arith in
      ap (λ (n : ℕ). store_from n 0 two p (c + 1) s) e
      ∙ held_passed two p (c + 1) nibble (suc (15 - nibble)) 0 s (λ j l u. held j (omega arith) ∙ step_stays c small j (λ q. omega arith))
      ∙ ap (λ (k : ℕ). store_from (suc (15 - nibble)) k two p (c + 1) s) (zero-add nibble)
      ∙ then_same (next nibble s) (store_from (15 - nibble) (nibble + 1) two p (c + 1)) (next (8 + nibble)) (λ d. rest d)
    where
      slot : SlotLaws two p nibble (slot_code (c + 1) nibble) (change (data_of two p s nibble) (slot_code (c + 1) nibble)) s (next nibble s)
      slot = let h = low in slot_laws ready sound nibble (omega arith) (slot_code (c + 1) nibble)

      rest : (next nibble s).answer ≡ complete → store_from (15 - nibble) (nibble + 1) two p (c + 1) (next nibble s).after ≡ next (8 + nibble) (next nibble s).after
      rest d = behind _ (ready_kept ready (within_kept slot.within)) (slot.settles d).sound (slot.settles d).kept

-- ## Over the tests and the numbers that code has at hand

module _ (p : Places) (c : ℕ) (s : Chip) (good : fitted two p s ≡ true) (well : sound two p (pointers two p s) ≡ true)
    (below : c < last_count) (held : Holds two p c s.cells) {k b : ℕ} (here : k ≡ changed_nibble c) (code : b ≡ code_of (nibble_of (gray_of (c + 1)) k)) where
  -- the code of both slots
  code_is : (j : ℕ) → j % 8 ≡ changed_nibble c → slot_code (c + 1) j ≡ b
  unfolding slot_code
  code_is j e = rw (e, code, here)

  pub next_is : store two p (c + 1) s ≡ store_slot two p k b s and_then store_slot two p (8 + k) b
  next_is =
      let small = step_nibble_small c (omega arith) in
      rw here
      (next_stored p c s (omega arith) (fitted_ready good) (test_sound two p _ well) held
      ∙ rw (code_is (changed_nibble c) (omega arith), code_is (8 + changed_nibble c) (omega arith)))
