-- Storing a count is stopped for want of room exactly where the turn of a slot comes, and its cell and every spare of its kind
-- refuse the byte (condition 2).
--   StoreFull, store_roomless
--   store_tried               and then its cell and every spare of its kind were asked, at the end of the log
use Rattle.std.proofs.Common.{Ok, Err}
use Prim.Native.Nat.{ℕ, zero, suc, ◌+◌, ◌≤◌, ◌<◌}
use mathlib.Core.Path.{◌≡◌, sym, ap, ◌∙◌}
use mathlib.Core.Bool.{true≢false}
use mathlib.Core.Logic.{◌↔◌}
use native.Mathlib.Nat.{add-zero, zero-add}
use native.Mathlib.Omega.{arith}
use Rattle.cells.specs.Chip.{Chip}
use Rattle.cells.specs.Run.{Run}
use Rattle.cells.proofs.Logs.{within_kept}
use Rattle.counter.specs.declared.places.Places.{Places}
use Rattle.counter.specs.declared.verdict.Refusal.TheVariants.{NoSpare}
use Rattle.counter.specs.declared.layout.Layout.{Layout}
use Rattle.counter.specs.Layout.{slots}
use Rattle.counter.specs.Verdict.{◌and_then◌, Work, complete}
use Rattle.counter.specs.Store.{slot_code, store_slot, store_from, store}
use Rattle.counter.proofs.SoundPointers.{Sound}
use Rattle.counter.proofs.Ready.{pointers, data_of, Ready, ready_kept}
use Rattle.counter.proofs.Moves.{change, not_done, Ended, Ended.done, Ended.roomless, Ended.unmapped, SlotLaws, slot_laws}
use Rattle.counter.proofs.Stores.{done_then, stopped_then}
use Rattle.counter.proofs.WorkSteps.{store_all, store_none, store_next}
use Rattle.promises.proofs.Room.{Full, Asked, all_asked_lem, asked_then, slot_only, slot_roomless}

-- the slots before k were stored, and then the cell of slot k and every spare of its kind refuse its code of c
pub record StoreFull (layout : Layout) (p : Places) (c k : ℕ) (s : Chip) : Type 0 where
  pub inside : k < slots layout
  pub before : (store_from k 0 layout p c s).answer ≡ complete
  pub full : Full layout p k (slot_code c k) (store_from k 0 layout p c s).after

module _ (layout : Layout) (p : Places) (c : ℕ) where
  from_always :
      (i m k : ℕ) (s : Chip) → i < m → k + m ≤ slots layout → Ready layout p s
      → Sound (slots layout) p (pointers layout p s)
      → (store_from i k layout p c s).answer ≡ complete
      → Full layout p (k + i) (slot_code c (k + i)) (store_from i k layout p c s).after
      → (store_from m k layout p c s).answer ≡ Err (NoSpare (k + i))
  from_always i zero k s l fits ready sound e full = absurd (omega arith)
  from_always zero (suc m) k s l fits ready sound e full =
      let here : Full layout p k (slot_code c k) s = rw (store_none layout p c k s, add-zero) at full in
      let stops = (slot_roomless ready k (omega arith) (slot_code c k)).1 here in
      rw (store_next layout p c m k s, add-zero) (ap (λ (w : Run Work). w.answer) (stopped_then (store_slot layout p k (slot_code c k) s) (store_from m (k + 1) layout p c) _ stops) ∙ stops)
  from_always (suc i) (suc m) k s l fits ready sound e full = go (from_always i m (k + 1)) slot.ended
    where
      r : Run Work
      r = store_slot layout p k (slot_code c k) s

      slot : SlotLaws layout p k (slot_code c k) (change (data_of layout p s k) (slot_code c k)) s r
      slot = slot_laws ready sound k (omega arith) (slot_code c k)

      -- a slot that stops would have stopped the slots before
      stops : {A : Type 0} {w : Work} → r.answer ≡ w → (r and_then store_from i (k + 1) layout p c).answer ≡ w → (w ≡ complete → A) → A
      stops q h f = f (sym h ∙ sym (ap (λ (w : Run Work). w.answer) (store_next layout p c i k s)) ∙ e)

      Later : Type 0
      Later =
          (s : Chip) → i < m → k + 1 + m ≤ slots layout → Ready layout p s
          → Sound (slots layout) p (pointers layout p s)
          → (store_from i (k + 1) layout p c s).answer ≡ complete
          → Full layout p (k + 1 + i) (slot_code c (k + 1 + i)) (store_from i (k + 1) layout p c s).after
          → (store_from m (k + 1) layout p c s).answer ≡ Err (NoSpare (k + 1 + i))

      go : Later → Ended r.answer → (store_from (suc m) k layout p c s).answer ≡ Err (NoSpare (k + suc i))
      go later (done q) =
          let early = store_next layout p c i k s ∙ done_then r (store_from i (k + 1) layout p c) q in
          let all = store_next layout p c m k s ∙ done_then r (store_from m (k + 1) layout p c) q in
          let moved : k + 1 + i ≡ k + suc i = omega arith in
          let here : Full layout p (k + 1 + i) (slot_code c (k + 1 + i)) (store_from i (k + 1) layout p c r.after).after = rw moved (rw early at full) in
          ap (λ (w : Run Work). w.answer) all
          ∙ later r.after (omega arith) (omega arith) (ready_kept ready (within_kept slot.within)) (slot.settles q).sound (sym (ap (λ (w : Run Work). w.answer) early) ∙ e) here
          ∙ ap (λ (j : ℕ). Err (NoSpare j)) moved
      go later (roomless j q) = stops q (ap (λ (w : Run Work). w.answer) (stopped_then r (store_from i (k + 1) layout p c) _ q) ∙ q) (λ d. not_done d)
      go later (unmapped a q) = stops q (ap (λ (w : Run Work). w.answer) (stopped_then r (store_from i (k + 1) layout p c) _ q) ∙ q) (λ d. not_done d)

  -- where storing ended so: the slots before it were stored, and then it asked each cell and changed nothing
  record Stop (n k j : ℕ) (s : Chip) : Type 0 where
    many : ℕ
    slot : j ≡ k + many
    inside : many < n
    before : (store_from many k layout p c s).answer ≡ complete
    after : (store_from n k layout p c s).after ≡ (store_from many k layout p c s).after
    asked : Asked layout p j (slot_code c j) (store_from n k layout p c s)

  from_only :
      (n k : ℕ) (s : Chip) (j : ℕ) → k + n ≤ slots layout → Ready layout p s
      → Sound (slots layout) p (pointers layout p s)
      → (store_from n k layout p c s).answer ≡ Err (NoSpare j) → Stop n k j s
  from_only zero k s j fits ready sound e = not_done (sym e ∙ ap (λ (w : Run Work). w.answer) (store_none layout p c k s))
  from_only (suc n) k s j fits ready sound e = go (from_only n (k + 1)) slot.ended
    where
      r : Run Work
      r = store_slot layout p k (slot_code c k) s

      rest : Chip → Run Work
      rest = store_from n (k + 1) layout p c

      stops : (r and_then rest).answer ≡ Err (NoSpare j)
      stops = sym (ap (λ (w : Run Work). w.answer) (store_next layout p c n k s)) ∙ e

      slot : SlotLaws layout p k (slot_code c k) (change (data_of layout p s k) (slot_code c k)) s r
      slot = slot_laws ready sound k (omega arith) (slot_code c k)

      Later : Type 0
      Later =
          (s : Chip) (j : ℕ) → k + 1 + n ≤ slots layout → Ready layout p s
          → Sound (slots layout) p (pointers layout p s)
          → (rest s).answer ≡ Err (NoSpare j) → Stop n (k + 1) j s

      -- it ended at this slot
      here : r.answer ≡ Err (NoSpare j) → Stop (suc n) k j s
      here q =
          let x = slot_only ready k (omega arith) (slot_code c k) j q in
          let none = store_none layout p c k s in
          let all = store_next layout p c n k s ∙ stopped_then r rest _ q ∙ x.1 in
          record {
            many = 0;
            slot = x.0 ∙ sym (add-zero k);
            inside = omega arith;
            before = ap (λ (w : Run Work). w.answer) none;
            after = ap (λ (w : Run Work). w.after) all ∙ sym (ap (λ (w : Run Work). w.after) none);
            asked = rw (all, x.0) (all_asked_lem x.2);
          }

      -- or at a later one
      there : r.answer ≡ complete → Stop n (k + 1) j r.after → Stop (suc n) k j s
      there q x =
          let early = store_next layout p c x.many k s ∙ done_then r (store_from x.many (k + 1) layout p c) q in
          let all = store_next layout p c n k s ∙ done_then r rest q in
          record {
            many = suc x.many;
            slot = let h = x.slot in omega arith;
            inside = let h = x.inside in omega arith;
            before = ap (λ (w : Run Work). w.answer) early ∙ x.before;
            after = ap (λ (w : Run Work). w.after) all ∙ x.after ∙ sym (ap (λ (w : Run Work). w.after) early);
            asked = rw all (asked_then r x.asked);
          }

      go : Later → Ended r.answer → Stop (suc n) k j s
      go later (done q) =
          let h = ap (λ (w : Run Work). w.answer) (done_then r rest q) in
          there q (later r.after j (omega arith) (ready_kept ready (within_kept slot.within)) (slot.settles q).sound (sym h ∙ stops))
      go later (roomless i q) = here (sym (ap (λ (w : Run Work). w.answer) (stopped_then r rest _ q)) ∙ stops)
      go later (unmapped a q) =
          let h = sym (ap (λ (w : Run Work). w.answer) (stopped_then r rest _ q)) ∙ stops in
          absurd (true≢false cc)

  module _ (s : Chip) (k : ℕ) (ready : Ready layout p s) (sound : Sound (slots layout) p (pointers layout p s)) where
    -- where it ended
    store_stop : (store layout p c s).answer ≡ Err (NoSpare k) → Stop (slots layout) 0 k s
    store_stop e = from_only (slots layout) 0 s k (omega arith) ready sound (rw (store_all layout p c s) at e)

    pub store_roomless : ((store layout p c s).answer ≡ Err (NoSpare k)) ↔ StoreFull layout p c k s
    store_roomless = (only, always)
      where
        only : (store layout p c s).answer ≡ Err (NoSpare k) → StoreFull layout p c k s
        only e =
            let x = store_stop e in
            let same : x.many ≡ k = sym (x.slot ∙ zero-add x.many) in
            record { inside = rw (← same) x.inside; before = rw same at x.before; full = rw same at (rw x.after at x.asked.full) }

        always : StoreFull layout p c k s → (store layout p c s).answer ≡ Err (NoSpare k)
        always f =
            let same = zero-add k in
            rw (store_all layout p c s) (from_always k (slots layout) 0 s f.inside (omega arith) ready sound f.before (rw same f.full) ∙ ap (λ (j : ℕ). Err (NoSpare j)) same)

    -- a store that is stopped so ends in asking the slot's own cell and every spare of its kind for its code of c
    pub store_tried : (store layout p c s).answer ≡ Err (NoSpare k) → Asked layout p k (slot_code c k) (store layout p c s)
    store_tried e = rw (store_all layout p c s) (store_stop e).asked
