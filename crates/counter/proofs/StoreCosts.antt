-- Storing asks few writes and tries few spares: bounds by which no count of them can wrap.
--   tries_few                 the spares of a slot, as many as the gap has cells
--   pointer_few               a pointer
--   move_few, slot_few        a byte moved, and a slot
--   store_cost, store_few, twice_few  a count, and two
use Rattle.std.proofs.Common.{◌≡◌, ℕ, zero, suc, ◌+◌, ◌*◌, ◌≤◌, Bool, true, false, length, refl, arith, length-append, Option, Some, None, Ok, Err}
use Rattle.cells.specs.Chip.{Chip}
use Rattle.cells.specs.Run.{Run, Seen, view}
use Rattle.cells.proofs.Logs.{within_kept}
use Rattle.cells.proofs.Puts.{put_cost, put_tried, put_laws}
use Rattle.cells.proofs.Rows.{row_cost, row_tried}
use Rattle.cells.proofs.Walks.{walk_few}
use Rattle.counter.specs.declared.map.Kind.{Kind}
use Rattle.counter.specs.declared.map.Kind.TheVariants.{High, Low}
use Rattle.counter.specs.declared.places.Places.{Places}
use Rattle.counter.specs.declared.spares.Gap.{Gap}
use Rattle.counter.specs.Layout.{Layout, slots}
use Rattle.counter.specs.Slots.{kind_of}
use Rattle.counter.specs.Inside.{fitted}
use Rattle.counter.specs.Map.{offset_of, pointer_bytes, sound}
use Rattle.counter.specs.Verdict.{◌and_then◌, Work, complete}
use Rattle.counter.specs.Store.{slot_code, put_pointer, try_spares, move_slot, store_slot, store_from, store}
use Rattle.counter.proofs.Offsets.{bytes_of, bytes_length}
use Rattle.counter.proofs.SoundPointers.{Sound, test_sound, sound_test}
use Rattle.counter.proofs.Gaps.{between_map}
use Rattle.counter.proofs.Ready.{pointers, data_of, Ready, ready_placed, ready_kept}
use Rattle.counter.proofs.Fitted.{fitted_ready, ready_fitted, ready_short}
use Rattle.counter.proofs.Tries.{room, spares_room}
use Rattle.counter.proofs.Moves.{SlotLaws, change, gap_at, tries, first, move_missing, move_landing, slot_held, slot_failed, slot_laws, Ended, Ended.done, Ended.roomless, Ended.unmapped}
use Rattle.counter.proofs.Stores.{done_then, stopped_then, store_laws}

-- at most so many writes, and so many tries
pub record Costs {A : Type 0} (writes tried : ℕ) (r : Run A) : Type 0 where
  pub asks : length r.log ≤ writes
  pub tries : r.tried ≤ tried

pub tries_few : (k : ℕ) (g : Gap) (b : ℕ) (s : Chip) {v : Seen (Option ℕ)} → v ≡ view (try_spares k g b s) → (v.writes ≤ v.tried) × (v.tried ≤ room g)
unfolding try_spares
tries_few k g b s e = let few = walk_few _ _ _ _ _ e in let all = spares_room (kind_of k) g in (few.0, omega arith)

-- a pointer has one byte or two
bytes_few : (kind : Kind) (a : ℕ) → length (pointer_bytes kind a) ≤ 2
unfolding bytes_of
bytes_few High a = let e = bytes_length High a in omega arith
bytes_few Low a = let e = bytes_length Low a in omega arith

pointer_cost : (layout : Layout) (p : Places) (k a : ℕ) (s : Chip) → Costs 2 0 (put_pointer layout p k a s)
unfolding put_pointer
pointer_cost layout p k a s =
    let bytes = bytes_few (kind_of k) a in
    let few = row_cost (pointer_bytes (kind_of k) a) (p.map + offset_of k) s in
    let none = row_tried (pointer_bytes (kind_of k) a) (p.map + offset_of k) s in
    record { asks = omega arith; tries = omega arith }

pub pointer_few : (layout : Layout) (p : Places) (k a : ℕ) (s : Chip) {v : Seen Work} → v ≡ view (put_pointer layout p k a s) → (v.writes ≤ 2) × (v.tried ≡ 0)
pointer_few layout p k a s e = let cost = pointer_cost layout p k a s in rw e (cost.asks, omega (arith, cost.tries))

module _ {layout : Layout} {p : Places} {s : Chip} (ready : Ready layout p s) (k b : ℕ) where
  tries_cost : Costs 4096 4096 (tries layout p k b s)
  tries_cost =
      let few : (length (tries layout p k b s).log ≤ (tries layout p k b s).tried) × ((tries layout p k b s).tried ≤ room (gap_at layout p s)) = tries_few k (gap_at layout p s) b s refl in
      let end = (between_map layout p (pointers layout p s)).end in
      let placed = ready_placed ready in
      let short = ready_short ready in
      record { asks = omega arith; tries = omega arith }

  pub move_cost : Costs 4098 4096 (move_slot layout p k b s)
  move_cost = go (tries layout p k b s).answer refl
    where
      go : (f : Option ℕ) → (tries layout p k b s).answer ≡ f → Costs 4098 4096 (move_slot layout p k b s)
      go None h = rw (move_missing layout p k b s h) (record { asks = rw length-append (omega (arith, tries_cost)); tries = omega (arith, tries_cost) })
      go (Some a) h =
          let pointer = pointer_cost layout p k a (tries layout p k b s).after in
          rw (move_landing layout p k b s a h) (record { asks = rw length-append (omega (arith, tries_cost)); tries = omega (arith, tries_cost) })

  pub move_few : {v : Seen Work} → v ≡ view (move_slot layout p k b s) → (v.writes ≤ 4098) × (v.tried ≤ 4096)
  move_few e = rw e (move_cost.asks, move_cost.tries)

module _ {layout : Layout} {p : Places} {s : Chip} (ready : Ready layout p s) (k b : ℕ) where
  slot_cost : Costs 4099 4096 (store_slot layout p k b s)
  slot_cost = go (first layout p k b s).answer refl
    where
      go : (t : Bool) → (first layout p k b s).answer ≡ t → Costs 4099 4096 (store_slot layout p k b s)
      go true h =
          let put = put_cost (pointers layout p s k) b s in
          let none = put_tried (pointers layout p s k) b s in
          rw (slot_held layout p k b s h) (record { asks = omega arith; tries = omega arith })
      go false h =
          let put = put_cost (pointers layout p s k) b s in
          let none = put_tried (pointers layout p s k) b s in
          let moved = move_cost (ready_kept ready (put_laws (pointers layout p s k) b s ready.paired).kept) k b in
          rw (slot_failed layout p k b s h) (record { asks = rw length-append (omega arith); tries = omega arith })

  pub slot_few : {v : Seen Work} → v ≡ view (store_slot layout p k b s) → (v.writes ≤ 4099) × (v.tried ≤ 4096)
  slot_few e = rw e (slot_cost.asks, slot_cost.tries)

module _ (layout : Layout) (p : Places) (c : ℕ) where
  from_cost : (n k : ℕ) (s : Chip) → k + n ≤ slots layout → Ready layout p s → Sound (slots layout) p (pointers layout p s) → Costs (4099 * n) (4096 * n) (store_from n k layout p c s)
  unfolding store_from
  from_cost zero k s fits ready well = record { asks = omega arith; tries = omega arith }
  from_cost (suc n) k s fits ready well =
      go laws.ended (λ e. from_cost n (k + 1) r.after (omega arith) (ready_kept ready (within_kept laws.within)) (laws.settles e).sound)
    where
      r : Run Work
      r = store_slot layout p k (slot_code c k) s

      laws : SlotLaws layout p k (slot_code c k) (change (data_of layout p s k) (slot_code c k)) s r
      laws = slot_laws ready well k (omega arith) (slot_code c k)

      slot : Costs 4099 4096 r
      slot = slot_cost ready k (slot_code c k)

      few : Costs (4099 * suc n) (4096 * suc n) r
      few = record { asks = omega (arith, slot); tries = omega (arith, slot) }

      go : Ended r.answer → (r.answer ≡ complete → Costs (4099 * n) (4096 * n) (store_from n (k + 1) layout p c r.after)) → Costs (4099 * suc n) (4096 * suc n) (r and_then store_from n (k + 1) layout p c)
      go (done e) rest = let others = rest e in rw (done_then r _ e) (record { asks = rw length-append (omega (arith, slot)); tries = omega (arith, slot) })
      go (roomless j e) rest = rw (stopped_then r _ _ e) few
      go (unmapped a e) rest = rw (stopped_then r _ _ e) few

  -- a store asks few writes
  pub store_cost : (s : Chip) → fitted layout p s ≡ true → sound layout p (pointers layout p s) ≡ true → length (store layout p c s).log ≤ 4099 * slots layout
  unfolding store
  store_cost s good well = (from_cost (slots layout) 0 s (omega arith) (fitted_ready good) (test_sound layout p _ well)).asks

  pub store_few : (s : Chip) {v : Seen Work} → fitted layout p s ≡ true → sound layout p (pointers layout p s) ≡ true → v ≡ view (store layout p c s) → (v.writes ≤ 4099 * slots layout) × (v.tried ≤ 4096 * slots layout)
  unfolding store
  store_few s good well e =
      let all = from_cost (slots layout) 0 s (omega arith) (fitted_ready good) (test_sound layout p _ well) in
      rw e (all.asks, all.tries)

-- so do two stores, one behind the other
pub twice_few : (layout : Layout) (p : Places) (c d : ℕ) (s : Chip) → fitted layout p s ≡ true → sound layout p (pointers layout p s) ≡ true
    → length (store layout p c s and_then store layout p d).log ≤ 8198 * slots layout
twice_few layout p c d s good well = go (store layout p c s).answer refl
  where
    few : length (store layout p c s).log ≤ 4099 * slots layout
    few = store_cost layout p c s good well

    go : (w : Work) → (store layout p c s).answer ≡ w → length (store layout p c s and_then store layout p d).log ≤ 8198 * slots layout
    go (Ok tt) h =
        let laws = store_laws layout p c s (fitted_ready good) (test_sound layout p _ well) in
        let fit = ready_fitted (ready_kept (fitted_ready good) (within_kept laws.within)) in
        let more = store_cost layout p d (store layout p c s).after fit (sound_test layout p _ (laws.stored h).sound) in
        rw (done_then (store layout p c s) (store layout p d) h, length-append) (omega (arith, few, more))
    go (Err why) h = rw (stopped_then (store layout p c s) (store layout p d) why h) (omega (arith, few))
