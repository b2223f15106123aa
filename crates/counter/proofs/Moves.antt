-- A byte put at a slot's cell, and moved to a spare if the put fails: what it keeps, what it changes, what it costs.
--   gap_at, room_of           the gap and the room that a chip's map leaves
--   Ended, not_done           how storing can end, and what stopped is not done
--   Settles                   what such work comes to where it is done
--   SlotLaws                  the laws, given what the work may cost beside the spares it tries; what tried none left the map
--   move_laws, slot_laws      they hold of a move, and of a store of one slot
--   tries, first              the spares tried, and the put at the slot's cell
--   move_missing, move_landing  a move, by what the spares come to
--   slot_held, slot_failed    a slot, by its put
--   change                    one where two bytes differ, else none
--   slot_there                a slot that holds its byte is left alone
--   slot_alive                a slot whose cell has life is written there
--   slot_refused              a slot whose cell refuses the byte is moved
use Rattle.counter.specs.Verdict.{Work, complete}
use Rattle.std.proofs.Common.{◌≡◌, ℕ, ◌+◌, ◌<◌, ◌≤◌, Bool, true, false, cond, eqb, ◌⊎◌, List, [], ◌∷◌, ◌++◌, length, sym, refl, ap, ◌∙◌, inl, inr, true≢false, append-nil, arith, ne_eqb, Option, Some, None, Err}
use native.Mathlib.Decide.{ℕ_discrete}
use Rattle.cells.specs.Chip.{Chip, cell_at, life_at, Paired}
use Rattle.cells.specs.Run.{Run, Write, write, run, still, ◌then◌, ◌giving◌}
use Rattle.cells.specs.Log.{asked_in, Within}
use Rattle.cells.specs.Put.{put_at}
use Rattle.cells.proofs.Logs.{every_wider, asked_here, asked_append, asked_all, asked_apart, within_still, within_wider, within_giving, within_then, within_kept}
use Rattle.cells.proofs.Puts.{PutLaws, put_there, put_cost, put_laws}
use Rattle.counter.specs.declared.places.Places.{Places}
use Rattle.counter.specs.declared.spares.Gap.{Gap}
use Rattle.counter.specs.declared.verdict.Refusal.{Refusal}
use Rattle.counter.specs.declared.verdict.Refusal.TheVariants.{NoSpare, MapByte}
use Rattle.counter.specs.Layout.{Layout, slots}
use Rattle.counter.specs.Slots.{kind_of}
use Rattle.counter.specs.Map.{map_in, marked, pointer_of}
use Rattle.counter.specs.Spares.{narrow, gap_of}
use Rattle.counter.specs.Store.{put_pointer, try_spares, move_to, move_slot, store_slot}
use Rattle.counter.proofs.SoundPointers.{Inside, Sound}
use Rattle.counter.proofs.Gaps.{between_map, between_unique, between_moved, Free, Spare, free_spare, spare_fresh, sound_joined}
use Rattle.counter.proofs.Ready.{pointers, data_of, Ready, Own, ready_kept, map_kept}
use Rattle.counter.proofs.Pointers.{of_map, of_elsewhere, PointerLaws, pointer_laws}
use Rattle.counter.proofs.Tries.{room, Missing, Landing, Trying, Trying.missing, Trying.landing, try_laws}

abbrev pub gap_at : Layout → Places → Chip → Gap
gap_at layout p s = gap_of layout p (pointers layout p s)

abbrev pub room_of : Layout → Places → Chip → ℕ
room_of layout p s = room (gap_at layout p s)

pub data Ended (w : Work) : Type 0 where
  done : w ≡ complete → Ended w
  roomless : (k : ℕ) → w ≡ Err (NoSpare k) → Ended w
  unmapped : (a : ℕ) → w ≡ Err (MapByte a) → Ended w

-- what stopped is not done
pub not_done : {A : Type 0} {why : Refusal} → Err why ≡ complete → A
not_done e = absurd (true≢false cc)

-- slot k holds b, the others what they held, in a sound map; and what was asked of area cells has been paid for
pub record Settles (layout : Layout) (p : Places) (k b cost : ℕ) (s : Chip) (r : Run Work) : Type 0 where
  pub sound : Sound (slots layout) p (pointers layout p r.after)
  pub held : data_of layout p r.after k ≡ b
  pub kept : (j : ℕ) → j < slots layout → (j ≡ k → ⊥) → data_of layout p r.after j ≡ data_of layout p s j
  pub paid : asked_in p.start p.end r.log + room_of layout p r.after ≤ cost + room_of layout p s

pub record SlotLaws (layout : Layout) (p : Places) (k b cost : ℕ) (s : Chip) (r : Run Work) : Type 0 where
  pub within : Within (Own layout p) s r
  pub mark : marked (map_in layout p r.after.cells) ≡ marked (map_in layout p s.cells)
  pub others : (j : ℕ) → j < slots layout → (j ≡ k → ⊥) → pointers layout p r.after j ≡ pointers layout p s j
  pub unmoved : r.tried ≡ 0 → map_in layout p r.after.cells ≡ map_in layout p s.cells
  pub bounded : asked_in p.start p.end r.log ≤ cost + room_of layout p s
  pub settles : r.answer ≡ complete → Settles layout p k b cost s r
  pub ended : Ended r.answer

-- ## A move

module _ (layout : Layout) (p : Places) (k b : ℕ) (s : Chip) where
  abbrev pub tries : Run (Option ℕ)
  tries = try_spares k (gap_at layout p s) b s

  pub move_missing : tries.answer ≡ None → move_slot layout p k b s ≡ tries then still (Err (NoSpare k)) tries.after
  unfolding move_slot move_to
  move_missing e = rw e

  pub move_landing : (a : ℕ) → tries.answer ≡ Some a → move_slot layout p k b s ≡ tries then put_pointer layout p k a tries.after
  unfolding move_slot move_to
  move_landing a e = rw e

module _ {layout : Layout} {p : Places} {s : Chip} (ready : Ready layout p s) (sound : Sound (slots layout) p (pointers layout p s)) (k : ℕ) (l : k < slots layout) (b : ℕ) where
  spare : {a : ℕ} → Free (kind_of k) (gap_at layout p s) a → Spare (kind_of k) (slots layout) p (pointers layout p s) a
  spare = free_spare (between_map layout p (pointers layout p s))

  tries_within : Within (Inside p) s (tries layout p k b s)
  tries_within = within_wider (λ c f. (spare f).inside) (try_laws k (gap_at layout p s) b s ready.paired).within

  -- all writes of the tries are asked of area cells
  tries_asked : asked_in p.start p.end (tries layout p k b s).log ≡ length (tries layout p k b s).log
  tries_asked = asked_all p.start p.end (every_wider (λ c i. (i.from, i.to)) tries_within.places)

  missing_laws :
      Missing k (gap_at layout p s) b s
      → SlotLaws layout p k b 0 s (tries layout p k b s then still (Err (NoSpare k)) (tries layout p k b s).after)
  missing_laws m =
      record {
        within = within_then (within_wider (λ c i. inr i) tries_within) (within_still _ _);
        mark = rw m.same;
        others = λ j h d. rw m.same;
        unmoved = λ e. rw m.same;
        bounded = let h = m.cost in let h' = tries_asked in rw append-nil (omega arith);
        settles = λ e. not_done e;
        ended = roomless k refl;
      }

  module _ (m : Landing k (gap_at layout p s) b s) where
    abbrev landed : Chip
    landed = (tries layout p k b s).after

    abbrev puts : Run Work
    puts = put_pointer layout p k m.place landed

    landed_map : map_in layout p landed.cells ≡ map_in layout p s.cells
    landed_map = map_kept ready (within_kept tries_within)

    pointing : PointerLaws layout p k m.place landed
    pointing = pointer_laws (ready_kept ready m.kept) k l m.place

    -- the pointers of the other slots stay
    landing_others : (j : ℕ) → j < slots layout → (j ≡ k → ⊥) → pointers layout p puts.after j ≡ pointers layout p s j
    landing_others j h d = pointing.others j h d ∙ ap (λ (map : List ℕ). pointer_of map j) landed_map

    -- the cells of the area stay while the pointer is put
    area_kept : (c : ℕ) → Inside p c → cell_at puts.after c ≡ cell_at landed c
    area_kept c i = (within_kept pointing.within).cell c (λ o. of_elsewhere ready k l o i.from i.to)

    -- its writes are asked of none of them
    puts_asked : asked_in p.start p.end puts.log ≡ 0
    puts_asked = asked_apart p.start p.end (every_wider (λ c o. of_elsewhere ready k l o) pointing.within.places)

    landing_asked : asked_in p.start p.end ((tries layout p k b s).log ++ puts.log) ≡ length (tries layout p k b s).log
    landing_asked = let e = asked_append p.start p.end (tries layout p k b s).log puts.log in let h = tries_asked in let h' = puts_asked in omega arith

    narrowed : puts.answer ≡ complete → room_of layout p puts.after ≡ room (narrow (kind_of k) m.place (gap_at layout p s))
    narrowed e =
        let moved = between_moved (pointers layout p puts.after) (between_map layout p (pointers layout p s)) l m.free (pointing.held e) landing_others in
        let same = between_unique (between_map layout p (pointers layout p puts.after)) moved in
        omega arith

    landing_settles : puts.answer ≡ complete → Settles layout p k b 0 s (tries layout p k b s then puts)
    landing_settles e =
        record {
          sound = sound_joined (pointers layout p puts.after) sound (spare m.free) (pointing.held e) (λ j h d. (h, sym (landing_others j h d)));
          held = ap (cell_at puts.after) (pointing.held e) ∙ area_kept m.place (spare m.free).inside ∙ m.held;
          kept = λ j h d. ap (cell_at puts.after) (landing_others j h d) ∙ area_kept _ (sound.inside j h) ∙ m.kept.cell _ (spare_fresh (spare m.free) j h);
          paid = let h = m.cost in let h₁ = landing_asked in let h₂ = narrowed e in omega arith;
        }

    landing_laws : SlotLaws layout p k b 0 s (tries layout p k b s then puts)
    landing_laws =
        record {
          within = within_then (within_wider (λ c i. inr i) tries_within) (within_wider (λ c o. inl (of_map ready k l o)) pointing.within);
          mark = pointing.mark ∙ ap marked landed_map;
          others = landing_others;
          unmoved = λ e. let h = m.tried in absurd (omega arith);
          bounded = let h = m.cost in let h₁ = landing_asked in omega arith;
          settles = landing_settles;
          ended = ends pointing.either;
        }
      where
        ends : (puts.answer ≡ complete) ⊎ ((x : ℕ) × (puts.answer ≡ Err (MapByte x))) → Ended puts.answer
        ends (inl e) = done e
        ends (inr (x, e)) = unmapped x e

  pub move_laws : SlotLaws layout p k b 0 s (move_slot layout p k b s)
  move_laws = go (try_laws k (gap_at layout p s) b s ready.paired).trying
    where
      go : Trying k (gap_at layout p s) b s → SlotLaws layout p k b 0 s (move_slot layout p k b s)
      go (missing m) = rw (move_missing layout p k b s m.nowhere) (missing_laws m)
      go (landing m) = rw (move_landing layout p k b s m.place m.here) (landing_laws m)

-- ## A slot

-- one where the two bytes differ, else none
abbrev pub change : ℕ → ℕ → ℕ
change x b = cond (eqb x b) 0 1

module _ (layout : Layout) (p : Places) (k b : ℕ) (s : Chip) where
  abbrev pub first : Run Bool
  first = put_at (pointers layout p s k) b s

  pub slot_held : first.answer ≡ true → store_slot layout p k b s ≡ first giving complete
  unfolding store_slot
  slot_held e = rw e

  pub slot_failed : first.answer ≡ false → store_slot layout p k b s ≡ first then move_slot layout p k b first.after
  unfolding store_slot
  slot_failed e = rw e

  -- a slot that holds its byte is left alone
  pub slot_there : data_of layout p s k ≡ b → store_slot layout p k b s ≡ still complete s
  slot_there e = let h = put_there (pointers layout p s k) b s e in slot_held (ap (λ (r : Run Bool). r.answer) h) ∙ ap (λ (r : Run Bool). r giving complete) h

  -- a slot whose cell has life is written there
  pub slot_alive : Paired s → 1 ≤ life_at s (pointers layout p s k) → store_slot layout p k b s ≡ first giving complete
  slot_alive paired h = slot_held ((put_laws (pointers layout p s k) b s paired).alive h)

  -- a slot whose cell refuses the byte is moved
  pub slot_refused :
      Paired s → first.answer ≡ false
      → store_slot layout p k b s ≡ run false (write (pointers layout p s k) b ∷ []) 0 s then move_slot layout p k b s
  slot_refused paired e = slot_failed e ∙ ap (λ (r : Run Bool). r then move_slot layout p k b r.after) ((put_laws (pointers layout p s k) b s paired).unchanged e)

  -- what the put at the slot's cell asks
  first_asked : length first.log ≤ change (data_of layout p s k) b
  first_asked = go (ℕ_discrete (data_of layout p s k) b)
    where
      go : Dec (data_of layout p s k ≡ b) → length first.log ≤ change (data_of layout p s k) b
      go (yes e) = rw (put_there (pointers layout p s k) b s e) (omega arith)
      go (no n) = rw (ne_eqb (data_of layout p s k) b n) (put_cost (pointers layout p s k) b s)

module _ {layout : Layout} {p : Places} {s : Chip} (ready : Ready layout p s) (sound : Sound (slots layout) p (pointers layout p s)) (k : ℕ) (l : k < slots layout) (b : ℕ) where
  put : PutLaws (pointers layout p s k) b s
  put = put_laws (pointers layout p s k) b s ready.paired

  put_inside : Within (Inside p) s (first layout p k b s)
  put_inside = within_wider (λ c e. rw e (sound.inside k l)) put.within

  put_map : map_in layout p (first layout p k b s).after.cells ≡ map_in layout p s.cells
  put_map = map_kept ready (within_kept put_inside)

  put_asked : asked_in p.start p.end (first layout p k b s).log ≤ change (data_of layout p s k) b
  put_asked =
      let h = asked_all p.start p.end (every_wider (λ c i. (i.from, i.to)) put_inside.places) in
      let h' = first_asked layout p k b s in
      omega arith

  held_settles : (first layout p k b s).answer ≡ true → Settles layout p k b (change (data_of layout p s k) b) s (first layout p k b s giving complete)
  held_settles e =
      record {
        sound = rw put_map sound;
        held = rw put_map (put.held e);
        kept = λ j h d. rw put_map (put.kept.cell (pointers layout p s j) (sound.apart j k h l d));
        paid = let h = put_asked in rw put_map (omega arith);
      }

  held_laws : (first layout p k b s).answer ≡ true → SlotLaws layout p k b (change (data_of layout p s k) b) s (first layout p k b s giving complete)
  held_laws e =
      record {
        within = within_giving complete (within_wider (λ c i. inr i) put_inside);
        mark = ap marked put_map;
        others = λ j h d. ap (λ (map : List ℕ). pointer_of map j) put_map;
        unmoved = λ q. put_map;
        bounded = let h = put_asked in omega arith;
        settles = λ q. held_settles e;
        ended = done refl;
      }

  -- the write that failed, asked of a cell of the area
  asked_first : (log : List Write) → asked_in p.start p.end (write (pointers layout p s k) b ∷ log) ≡ 1 + asked_in p.start p.end log
  asked_first log = asked_here p.start p.end (write (pointers layout p s k) b) log (sound.inside k l).from (sound.inside k l).to

  moved_laws :
      (first layout p k b s).answer ≡ false
      → SlotLaws layout p k b 1 s (run false (write (pointers layout p s k) b ∷ []) 0 s then move_slot layout p k b s)
  moved_laws e =
      let m = move_laws ready sound k l b in
      let asked = asked_first (move_slot layout p k b s).log in
      record {
        within = within_then (within_wider (λ c i. inr i) (rw (put.unchanged e) at put_inside)) m.within;
        mark = m.mark;
        others = m.others;
        unmoved = λ q. m.unmoved (omega arith);
        bounded = let h = m.bounded in omega arith;
        settles = λ q. let t = m.settles q in record { sound = t.sound; held = t.held; kept = t.kept; paid = let h = t.paid in omega arith };
        ended = m.ended;
      }

  pub slot_laws : SlotLaws layout p k b (change (data_of layout p s k) b) s (store_slot layout p k b s)
  slot_laws = go (first layout p k b s).answer refl
    where
      go : (t : Bool) → (first layout p k b s).answer ≡ t → SlotLaws layout p k b (change (data_of layout p s k) b) s (store_slot layout p k b s)
      go true e = rw (slot_held layout p k b s e) (held_laws e)
      go false e = rw (slot_refused layout p k b s ready.paired e, ne_eqb (data_of layout p s k) b (put.failed e).other) (moved_laws e)
