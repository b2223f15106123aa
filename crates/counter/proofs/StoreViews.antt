-- What is said of storing, one law a turn, over what functions have said of its pieces, `v` and `u`.
--   map_long, pointer_here, gap_here  the map that code reads, its pointers and the gap that these leave
--   mapped_works              a row of map bytes was put
--   low_pointer, high_pointer the bytes of a pointer were put, by its slot's kind
--   GapFits, gap_fits         the gap that a fitting chip's pointers leave
--   SpareHeld, spare_held     what a spare that holds leaves for the pointer
--   move_lost, move_nowhere, move_at  a byte was moved, by what was found
--   slot_put, slot_moved      a byte was put at its slot's cell, or moved
--   slot_lost, slot_done, slot_moves  the same on mains that can be lost
--   slot_still                a put that fails leaves the chip as it was, fit for the move
--   slot_settled, store_settled  work that is done leaves a fitting chip with a sound map
--   slot_next                 and the pointer of another slot where it was
--   store_left, store_left_all, store_left_none, store_left_lost, store_left_done, store_left_stopped  what is left of a store
use Rattle.std.proofs.Common.{◌≡◌, ℕ, suc, ◌+◌, ◌-◌, ◌/◌, ◌%◌, ◌<◌, ◌≤◌, Bool, true, false, List, [], ◌∷◌, length, take, drop, sym, refl, ap, ◌∙◌, true≢false, arith, Option, Some, None, Err}
use native.Mathlib.Nat.{sub-zero, sub_self}
use Rattle.cells.specs.declared.row.RowPut.{RowPut}
use Rattle.cells.specs.Chip.{Chip}
use Rattle.cells.specs.Run.{Run, Seen, seen, view, plus, still, ◌giving◌}
use Rattle.cells.specs.Log.{Within}
use Rattle.cells.specs.Put.{put_at}
use Rattle.cells.specs.Row.{put_row}
use Rattle.cells.specs.Cut.{Cut, Cut.whole, Cut.lost, Says, row_shows}
use Rattle.cells.proofs.Views.{said_then, said_giving, said_answer, said_after}
use Rattle.cells.proofs.Cuts.{Starts, starts_same, starts_append, Left, left_none, said_lost, said_view, said_ends, said_left}
use Rattle.cells.proofs.Logs.{within_kept}
use Rattle.cells.proofs.Puts.{put_tried, put_within, put_laws}
use Rattle.counter.specs.declared.places.Places.{Places}
use Rattle.counter.specs.declared.spares.Gap.{Gap}
use Rattle.counter.specs.declared.verdict.Refusal.TheVariants.{NoSpare}
use Rattle.counter.specs.Layout.{Layout, slots, map_cells}
use Rattle.counter.specs.Spares.{gap_of}
use Rattle.counter.specs.Slots.{kind_of}
use Rattle.counter.specs.Map.{map_in, offset_of, pointer_of, pointer_bytes, reachable, sound}
use Rattle.counter.specs.Verdict.{◌and_then◌, Work, complete}
use Rattle.counter.specs.Store.{mapped, put_pointer, try_spares, move_slot, slot_code, store_slot, store_from, store}
use Rattle.counter.proofs.MapBytes.{map_whole}
use Rattle.counter.proofs.Offsets.{kind_low, kind_high}
use Rattle.counter.proofs.SoundPointers.{Sound, test_sound, sound_test, reach_test}
use Rattle.counter.proofs.Gaps.{between_map, between_ordered, free_spare}
use Rattle.counter.proofs.Ready.{pointers, Ready, Own, ready_placed, ready_kept, start_fits}
use Rattle.counter.proofs.Fitted.{fitted_ready, ready_fitted, ready_short}
use Rattle.counter.proofs.Tries.{Trying, Trying.missing, Trying.landing, TryLaws, try_laws}
use Rattle.counter.proofs.Moves.{gap_at, tries, first, move_missing, move_landing, slot_held, slot_failed, slot_laws}
use Rattle.counter.specs.Inside.{fitted, told, mapped_row}
use Rattle.std.specs.Result.{is_err}
use Rattle.counter.proofs.Stores.{store_laws}
use Rattle.counter.proofs.Behind.{stopped_not, works_lost, works_stopped, works_done}

-- ## The map that code reads in a fitting chip

module _ (layout : Layout) (p : Places) (s : Chip) (good : fitted layout p s ≡ true) {place : ℕ} {map : List ℕ} (at : place ≡ p.map) (given : map ≡ take (map_cells layout) (drop place s.cells)) where
  map_here : map ≡ map_in layout p s.cells
  map_here = given ∙ ap (λ (from : ℕ). take (map_cells layout) (drop from s.cells)) at

  pub map_long : (length map ≡ map_cells layout) × (length map ≤ 4096)
  map_long =
      let ready = fitted_ready good in
      let whole : length map ≡ map_cells layout = ap length map_here ∙ map_whole s.cells (ready_placed ready) in
      (whole, omega (arith, ready_placed ready, ready_short ready))

  pub pointer_here : (k : ℕ) {a : ℕ} → a ≡ pointer_of map k → a ≡ pointers layout p s k
  pointer_here k e = e ∙ ap (λ (cells : List ℕ). pointer_of cells k) map_here

  pub gap_here : {g : Gap} → g ≡ gap_of layout p (pointer_of map) → g ≡ gap_at layout p s
  gap_here e = rw (← map_here) e

-- ## A row of map bytes, and an address put as a slot's pointer

-- a row of map bytes, as a piece of storing
pub mapped_works : {n b : ℕ} {r : Run (Option ℕ)} {s t : Chip} {row : RowPut} → Says (whole (row_shows row t)) n b r s
    → Says (whole (told (mapped_row row) t)) n b (r giving mapped r.answer) s
mapped_works {r = r} {row = row} e =
    let failed : r.answer ≡ row.failed = said_answer r (said_view e) refl in
    rw failed (said_ends e {x = mapped row.failed})

module _ (layout : Layout) (p : Places) (k a at : ℕ) {s : Chip} (here : at ≡ offset_of k) where
  pub low_pointer : {n x : ℕ} {y : Cut Work} → k % 8 < 3
      → Says y n x (put_row (a % 256 ∷ a / 256 ∷ []) (p.map + at) s giving mapped (put_row (a % 256 ∷ a / 256 ∷ []) (p.map + at) s).answer) s
      → Says y n x (put_pointer layout p k a s) s
  unfolding put_pointer pointer_bytes
  low_pointer h e = rw (kind_low k h, ← here) e

  pub high_pointer : {n x : ℕ} {y : Cut Work} → 3 ≤ k % 8 → a ≤ 255
      → Says y n x (put_row (a % 256 ∷ []) (p.map + at) s giving mapped (put_row (a % 256 ∷ []) (p.map + at) s).answer) s
      → Says y n x (put_pointer layout p k a s) s
  unfolding put_pointer pointer_bytes
  high_pointer h small e = let same : a % 256 ≡ a = omega arith in rw (kind_high k h, ← here, ← same) e

-- ## The gap that a fitting chip's pointers leave

pub record GapFits (size : ℕ) (g : Gap) : Type 0 where
  pub first : 1 ≤ g.high
  pub reach : g.high ≤ 256
  pub ordered : g.high ≤ g.low
  pub inside : g.low ≤ size

pub gap_fits : {layout : Layout} {p : Places} {s : Chip} → Ready layout p s → Sound (slots layout) p (pointers layout p s) → GapFits (length s.cells) (gap_at layout p s)
gap_fits {layout} {p} {s} ready sound =
    let placed = ready_placed ready in
    let gap = between_map layout p (pointers layout p s) in
    let from = gap.start in
    let to = gap.end in
    record {
      first = omega arith;
      reach = gap.least 256 (omega arith) (λ k l e. let h = sound.reach k l e in omega arith);
      ordered = between_ordered (start_fits ready) sound gap;
      inside = omega arith;
    }

-- ## A byte moved to a spare

pub record SpareHeld (layout : Layout) (p : Places) (k a : ℕ) (s : Chip) : Type 0 where
  pub ready : Ready layout p s
  pub small : a < 65536
  pub reach : reachable (kind_of k) a ≡ true

module _ (layout : Layout) (p : Places) (k b : ℕ) {s : Chip} {g : Gap} (here : g ≡ gap_at layout p s) where
  pub move_lost : {n x a : ℕ} {t : Chip} → Says (lost a t) n x (try_spares k g b s) s → Says (lost a t) n x (move_slot layout p k b s) s
  unfolding move_slot
  move_lost e = said_lost (rw here at e) (starts_append (tries layout p k b s).log _)

  module _ {n x : ℕ} {v : Seen (Option ℕ)} (e : Says (whole v) n x (try_spares k g b s) s) where
    said : Says (whole v) n x (tries layout p k b s) s
    said = rw here at e

    pub spare_held : {a : ℕ} → Ready layout p s → v.answer ≡ Some a → SpareHeld layout p k a v.after
    spare_held {a} ready h = go laws.trying
      where
        laws : TryLaws k (gap_at layout p s) b s
        laws = try_laws k (gap_at layout p s) b s ready.paired

        kept : Ready layout p v.after
        kept = rw (said_after (tries layout p k b s) (said_view said)) (ready_kept ready (within_kept laws.within))

        go : Trying k (gap_at layout p s) b s → SpareHeld layout p k a v.after
        go (missing m) = let q = m.nowhere in let f = said_view said in absurd (true≢false cc)
        go (landing m) =
            let same : m.place ≡ a = let q = m.here in let f = said_view said in cc in
            let inside = (free_spare (between_map layout p (pointers layout p s)) m.free).inside.to in
            let placed = ready_placed ready in
            let short = ready_short ready in
            record { ready = kept; small = omega arith; reach = rw same at (reach_test (kind_of k) m.place m.free.reach) }

    pub move_nowhere : Ready layout p s → v.answer ≡ None → Says (whole (seen (Err (NoSpare k)) v.writes v.tried v.after)) n x (move_slot layout p k b s) s
    move_nowhere ready h =
        rw (move_missing layout p k b s (said_answer (tries layout p k b s) (said_view said) h))
        (left_none (said_left said (still (Err (NoSpare k))) (try_laws k (gap_at layout p s) b s ready.paired).within.logged) refl)

    pub move_at : {a : ℕ} → Ready layout p s → v.answer ≡ Some a → Left v.writes v.tried n x (move_slot layout p k b s) s (put_pointer layout p k a v.after) v.after
    move_at {a} ready h =
        rw (move_landing layout p k b s a (said_answer (tries layout p k b s) (said_view said) h))
        (said_left said (put_pointer layout p k a) (try_laws k (gap_at layout p s) b s ready.paired).within.logged)

-- ## A byte put at its slot's cell

module _ (layout : Layout) (p : Places) (k b : ℕ) (s : Chip) {at : ℕ} (here : at ≡ pointers layout p s k) {v : Seen Bool} (e : v ≡ view (put_at at b s)) where
  first_said : v ≡ view (first layout p k b s)
  first_said = rw here at e

  pub slot_put : v.answer ≡ true → view (store_slot layout p k b s) ≡ seen complete v.writes 0 v.after
  slot_put h =
      ap view (slot_held layout p k b s (said_answer (first layout p k b s) first_said h))
      ∙ said_giving (first layout p k b s) first_said complete
      ∙ rw (ap (λ (w : Seen Bool). w.tried) first_said, put_tried)

  -- a put that fails leaves the chip as it was, fit for the move
  pub slot_still :
      fitted layout p s ≡ true → sound layout p (pointers layout p s) ≡ true → v.answer ≡ false
      → (fitted layout p v.after ≡ true) × (sound layout p (pointers layout p v.after) ≡ true)
  slot_still good well h =
      let r = first layout p k b s in
      let same = ap (λ (q : Run Bool). q.after) ((put_laws (pointers layout p s k) b s (fitted_ready good).paired).unchanged (said_answer r first_said h)) in
      rw (said_after r first_said ∙ same) (good, well)

  pub slot_moved : v.answer ≡ false → {u : Seen Work} → u ≡ view (move_slot layout p k b v.after) → view (store_slot layout p k b s) ≡ plus v.writes 0 u
  slot_moved h {u} f =
      ap view (slot_failed layout p k b s (said_answer (first layout p k b s) first_said h))
      ∙ said_then (first layout p k b s) first_said (move_slot layout p k b)
      ∙ ap (plus _ _) (sym f)
      ∙ ap (λ (t : ℕ). plus v.writes t u) (ap (λ (w : Seen Bool). w.tried) first_said ∙ put_tried _ _ _)

-- the same on mains that can be lost
module _ (layout : Layout) (p : Places) (k b : ℕ) (s : Chip) {at : ℕ} (here : at ≡ pointers layout p s k) where
  slot_starts : Starts (first layout p k b s).log (store_slot layout p k b s).log
  slot_starts = go (first layout p k b s).answer refl
    where
      go : (t : Bool) → (first layout p k b s).answer ≡ t → Starts (first layout p k b s).log (store_slot layout p k b s).log
      go true h = rw (slot_held layout p k b s h) (starts_same (first layout p k b s).log)
      go false h = rw (slot_failed layout p k b s h) (starts_append (first layout p k b s).log _)

  pub slot_lost : {n x a : ℕ} {t : Chip} → Says (lost a t) n x (put_at at b s) s → Says (lost a t) n x (store_slot layout p k b s) s
  slot_lost e = said_lost (rw here at e) slot_starts

  module _ {n x : ℕ} {v : Seen Bool} (e : Says (whole v) n x (put_at at b s) s) where
    slot_said : Says (whole v) n x (first layout p k b s) s
    slot_said = rw here at e

    -- a put tries no spare
    none : v.tried ≡ 0
    none = ap (λ (w : Seen Bool). w.tried) (said_view slot_said) ∙ put_tried _ _ _

    pub slot_done : v.answer ≡ true → Says (whole (seen complete v.writes 0 v.after)) n x (store_slot layout p k b s) s
    slot_done h =
        rw (slot_held layout p k b s (said_answer (first layout p k b s) (said_view slot_said) h))
        (rw none at (said_ends slot_said {x = complete}))

    pub slot_moves : v.answer ≡ false → Left v.writes 0 n x (store_slot layout p k b s) s (move_slot layout p k b v.after) v.after
    slot_moves h =
        rw (slot_failed layout p k b s (said_answer (first layout p k b s) (said_view slot_said) h))
        (rw none at (said_left slot_said (move_slot layout p k b) (put_within _ _ _).logged))

-- ## A count stored

-- work inside map and area that leaves a sound map leaves what the next piece asks
settled :
    (layout : Layout) (p : Places) (s : Chip) (r : Run Work) {v : Seen Work}
    → Ready layout p s
    → Within (Own layout p) s r
    → Sound (slots layout) p (pointers layout p r.after)
    → v ≡ view r
    → (fitted layout p v.after ≡ true) × (sound layout p (pointers layout p v.after) ≡ true)
settled layout p s r ready within well e = rw (said_after r e) (ready_fitted (ready_kept ready (within_kept within)), sound_test layout p _ well)

module _ (layout : Layout) (p : Places) (s : Chip) {v : Seen Work} (good : fitted layout p s ≡ true) (well : sound layout p (pointers layout p s) ≡ true) where
  pub slot_settled : (k b : ℕ) → k < slots layout → v ≡ view (store_slot layout p k b s) → is_err v.answer ≡ false → (fitted layout p v.after ≡ true) × (sound layout p (pointers layout p v.after) ≡ true)
  slot_settled k b l e h =
      let laws = slot_laws (fitted_ready good) (test_sound layout p _ well) k l b in
      settled layout p s _ (fitted_ready good) laws.within (laws.settles (said_answer (store_slot layout p k b s) e (stopped_not v.answer h))).sound e

  -- and another slot's pointer is where it was
  pub slot_next :
      (k b : ℕ) → k < slots layout → v ≡ view (store_slot layout p k b s) → is_err v.answer ≡ false
      → (j : ℕ) → j < slots layout → (j ≡ k → ⊥) → {at : ℕ} → at ≡ pointers layout p s j
      → (fitted layout p v.after ≡ true) × (sound layout p (pointers layout p v.after) ≡ true) × (at ≡ pointers layout p v.after j)
  slot_next k b l e h j m d here =
      let fit = slot_settled k b l e h in
      let same : pointers layout p v.after j ≡ pointers layout p s j = rw (said_after (store_slot layout p k b s) e) ((slot_laws (fitted_ready good) (test_sound layout p _ well) k l b).others j m d) in
      (fit.0, fit.1, here ∙ sym same)

  pub store_settled : (c : ℕ) → v ≡ view (store layout p c s) → is_err v.answer ≡ false → (fitted layout p v.after ≡ true) × (sound layout p (pointers layout p v.after) ≡ true)
  store_settled c e h =
      let laws = store_laws layout p c s (fitted_ready good) (test_sound layout p _ well) in
      settled layout p s _ (fitted_ready good) laws.within (laws.stored (said_answer (store layout p c s) e (stopped_not v.answer h))).sound e

-- what is left of a store when the slots below k hold their codes
abbrev pub store_left : Layout → Places → ℕ → ℕ → Chip → Run Work
store_left layout p c k s = store_from (slots layout - k) k layout p c s

module _ (layout : Layout) (p : Places) (c : ℕ) where
  -- at first, all of it
  pub store_left_all : (s : Chip) → store_left layout p c 0 s ≡ store layout p c s
  unfolding store
  store_left_all s = rw sub-zero

  -- at the end, nothing
  pub store_left_none : (k : ℕ) (s : Chip) → k ≡ slots layout → store_left layout p c k s ≡ still complete s
  unfolding store_from
  store_left_none k s e = rw (e, sub_self)

  module _ (k : ℕ) {b : ℕ} (s : Chip) (inside : k < slots layout) (here : b ≡ slot_code c k) where
    -- there is a slot left
    one_more : store_left layout p c k s ≡ store_slot layout p k b s and_then store_left layout p c (k + 1)
    unfolding store_from
    one_more = let more : slots layout - k ≡ suc (slots layout - (k + 1)) = omega arith in rw (more, here)

    -- the power was lost at slot k
    pub store_left_lost : {n x a : ℕ} {t : Chip} → Says (lost a t) n x (store_slot layout p k b s) s → Says (lost a t) n x (store_left layout p c k s) s
    store_left_lost e = rw one_more (works_lost e (store_left layout p c (k + 1)))

    module _ {n x : ℕ} {v : Seen Work} (e : Says (whole v) n x (store_slot layout p k b s) s) where
      -- slot k was done
      pub store_left_done : fitted layout p s ≡ true → sound layout p (pointers layout p s) ≡ true → is_err v.answer ≡ false
          → Left v.writes v.tried n x (store_left layout p c k s) s (store_left layout p c (k + 1) v.after) v.after
      store_left_done good well h =
          rw one_more (works_done e (store_left layout p c (k + 1)) h (slot_laws (fitted_ready good) (test_sound layout p _ well) k inside b).within.logged)

      -- slot k stopped
      pub store_left_stopped : is_err v.answer ≡ true → Says (whole v) n x (store_left layout p c k s) s
      store_left_stopped h = rw one_more (works_stopped e (store_left layout p c (k + 1)) h)
