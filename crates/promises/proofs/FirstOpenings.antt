-- A first opening where every cell of map and area has life.
--   UnmarkedAlive             an image without its mark, on good settings, with so many good writes in each of those cells
--   alive_fewer               and so with fewer
--   Pointed                   all addresses taken and all pointers put, whether the mark is there or not
--   OpeningParts, opening_parts  its writes: those of addresses and pointers, none of them in the mark's cells, then the mark's
--   OpenCalm, open_calm       it answers, tries no spare, and asks at most one write of any cell
use Rattle.std.proofs.Common.{Ok}
use Prim.Native.Nat.{ℕ, ◌≤◌, ◌<◌}
use mathlib.Core.Path.{◌≡◌, sym, ap, ◌∙◌}
use mathlib.Core.Bool.{false}
use mathlib.Core.List.{List, ◌++◌, append_assoc}
use mathlib.Core.Logic.{inl, inr}
use native.Mathlib.Nat.{zero-add}
use native.Mathlib.Omega.{arith}
use lib.IntN.{pos}
use lib.ListN.{get_or}
use Rattle.cells.specs.Chip.{Chip, cell_at, life_at}
use Rattle.cells.specs.Run.{Run, Write, ◌then◌, ◌giving◌}
use Rattle.cells.specs.Log.{write_all, asked_of, Every}
use Rattle.cells.proofs.Logs.{write_all_append, every_append, every_wider, asked_append, within_kept}
use Rattle.cells.proofs.Rows.{row_laws}
use Rattle.cells.proofs.AskedOnce.{asked_outside, Once, once_append}
use Rattle.counter.specs.declared.places.Places.{Places}
use Rattle.counter.specs.declared.layout.Layout.{Layout}
use Rattle.counter.specs.Layout.{slots}
use Rattle.counter.specs.Map.{map_in, marked, mark_bytes, offset_of}
use Rattle.counter.specs.Spares.{whole_area}
use Rattle.counter.specs.Verdict.{ending, ◌and_then◌, Work, read_as, complete}
use Rattle.counter.specs.Store.{slot_code}
use Rattle.counter.specs.Opening.{Taken, take_from, put_pointers, put_mark, untried, first_opening}
use Rattle.counter.specs.Doors.{beginning, open_run}
use Rattle.counter.proofs.Offsets.{offset_first}
use Rattle.counter.proofs.SoundPointers.{Sound, sound_none}
use Rattle.counter.proofs.Gaps.{between_none}
use Rattle.counter.proofs.Ready.{pointers, data_of, Ready, InMap, Own, ready_placed, ready_kept, apart_map}
use Rattle.counter.proofs.Takes.{InGap, AllTaken, TakeLaws, take_laws}
use Rattle.counter.proofs.PointerRows.{mark_row}
use Rattle.counter.proofs.Stores.{done_then}
use Rattle.counter.proofs.WorkSteps.{opening_on}
use Rattle.counter.proofs.Openings.{OfMark, whole_inside, zero_code, opening_laws, PointsLaws, points_laws, MapLaws, map_laws}
use Rattle.counter.proofs.Exact.{Exact, exact_opened}
use Rattle.counter.proofs.DoorViews.{ready_unopened, open_first}
use Rattle.promises.proofs.CalmTakes.{roomy_whole, Unwritten, CalmTake, calm_take}
use Rattle.promises.proofs.CalmMaps.{LiveFrom, Behind, Calmly, points_calm, calm_maps}

pub record UnmarkedAlive (n : ℕ) (layout : Layout) (p : Places) (s : Chip) : Type 0 where
  pub ready : Ready layout p s
  pub unmarked : marked (map_in layout p s.cells) ≡ false
  pub lasting : (a : ℕ) → Own layout p a → n ≤ life_at s a

pub alive_fewer : {m n : ℕ} {layout : Layout} {p : Places} {s : Chip} → m ≤ n → UnmarkedAlive n layout p s → UnmarkedAlive m layout p s
alive_fewer l alive = record { ready = alive.ready; unmarked = alive.unmarked; lasting = λ a own. let h = alive.lasting a own in omega arith }

-- the map is sound, and every slot's cell holds its code of 0
pub record Pointed (layout : Layout) (p : Places) (s : Chip) : Type 0 where
  pub ready : Ready layout p s
  pub sound : Sound (slots layout) p (pointers layout p s)
  pub held : (k : ℕ) → k < slots layout → data_of layout p s k ≡ slot_code 0 k

pub record OpeningParts (layout : Layout) (p : Places) (s : Chip) : Type 0 where
  pub early : List Write
  pub mark : List Write
  pub log : (open_run layout p s).log ≡ early ++ mark
  pub apart : Every (λ c. OfMark p c → ⊥) early
  pub marking : Every (OfMark p) mark
  pub pointed : Pointed layout p (write_all early s)

pub record OpenCalm (layout : Layout) (p : Places) (s : Chip) : Type 0 where
  pub answers : (open_run layout p s).answer ≡ read_as 0 (pos 0)
  pub tried : (open_run layout p s).tried ≡ 0
  pub exact : Exact layout p 0 (open_run layout p s).after
  pub once : Once (open_run layout p s).log
  -- where no cell of the area reads 80, each slot's is asked for it
  pub asked :
      Unwritten (whole_area p) s → (k : ℕ) → k < slots layout
      → asked_of (pointers layout p (open_run layout p s).after k) (open_run layout p s).log ≡ 1

module _ {layout : Layout} {p : Places} {s : Chip} (alive : UnmarkedAlive 1 layout p s) where
  opens_first : open_run layout p s ≡ beginning layout p s
  opens_first = open_first layout p s (ready_unopened layout p s alive.ready alive.unmarked)

  -- ## The addresses

  abbrev taking : Run Taken
  taking = take_from (slots layout) 0 (whole_area p) s

  taken_calm : CalmTake (slots layout) (whole_area p) s taking
  taken_calm =
      calm_take (slots layout) 0 (whole_area p) s (roomy_whole (ready_placed alive.ready))
      (record { paired = alive.ready.paired; alive = λ c i. alive.lasting c (inr (whole_inside p c i)) })

  takes : TakeLaws (slots layout) 0 (whole_area p) s taking
  takes = take_laws (slots layout) 0 (whole_area p) s alive.ready.paired

  all : AllTaken (slots layout) 0 (whole_area p) taking
  all = takes.all taken_calm.done

  -- ## The map

  -- the cells of the map are none of the area
  apart : (c : ℕ) → InGap (whole_area p) c → InMap layout p c → ⊥
  apart c i m = apart_map alive.ready m (whole_inside p c i)

  ready_taken : Ready layout p taking.after
  ready_taken = ready_kept alive.ready (within_kept takes.within)

  live_taken : LiveFrom 0 layout p taking.after
  live_taken c from to =
      let m : InMap layout p c = record { from = omega arith; to = to } in
      rw ((within_kept takes.within).life c (λ i. apart c i m)) (alive.lasting c (inl m))

  abbrev pointing : Run Work
  pointing = put_pointers taking.answer.addresses 0 layout p taking.after

  abbrev marking : Run Work
  marking = put_mark layout p pointing.after

  abbrev mapping : Run Work
  mapping = pointing and_then put_mark layout p

  mapping_calm : Calmly (InMap layout p) mapping
  mapping_calm = calm_maps ready_taken taking.answer.addresses all.many live_taken

  pointing_calm : Calmly (Behind (offset_of 0) p) pointing
  pointing_calm = points_calm ready_taken taking.answer.addresses all.many live_taken

  points : PointsLaws layout p taking.answer.addresses 0 taking.after pointing
  points = points_laws layout p taking.answer.addresses 0 taking.after ready_taken (omega (arith, all.many))

  maps : MapLaws layout p taking.answer.addresses taking.after mapping
  maps = map_laws ready_taken taking.answer.addresses all.many

  -- ## All of it

  opening_is : first_opening layout p s ≡ (untried taking giving taking.answer.work) then mapping
  opening_is = opening_on layout p s taken_calm.done

  done : (first_opening layout p s).answer ≡ complete
  done = rw opening_is mapping_calm.done

  opening_once : Once (first_opening layout p s).log
  opening_once = rw opening_is (once_append takes.within.places mapping_calm.places apart taken_calm.once mapping_calm.once)

  asked_once : Unwritten (whole_area p) s → (k : ℕ) → k < slots layout → asked_of (pointers layout p (first_opening layout p s).after k) (first_opening layout p s).log ≡ 1
  asked_once other k l =
      let a = get_or taking.answer.addresses k 0 in
      let none = asked_outside a mapping_calm.places (apart a (all.inside k l)) in
      let one = taken_calm.asked other k l in
      rw (opening_is, maps.pointed mapping_calm.done k l, asked_append) (omega arith)

  pub open_calm : OpenCalm layout p s
  open_calm =
      record {
        answers = rw opens_first (ap (ending (read_as 0 (pos 0))) done);
        tried = rw opens_first (opening_laws alive.ready).tried;
        exact = rw opens_first (exact_opened alive.ready done);
        once = rw opens_first opening_once;
        asked = rw opens_first asked_once;
      }

  -- ## Its parts

  abbrev early : List Write
  early = taking.log ++ pointing.log

  early_after : write_all early s ≡ pointing.after
  early_after = write_all_append taking.log pointing.log s ∙ ap (write_all pointing.log) (sym takes.within.logged) ∙ sym points.within.logged

  early_apart : Every (λ c. OfMark p c → ⊥) early
  early_apart =
      every_append
      (every_wider (λ c i m. apart c i (record { from = m.0; to = let h = m.1 in omega arith })) takes.within.places)
      (every_wider (λ c from m. let h = m.1 in let h' = offset_first 0 in omega arith) pointing_calm.places)

  slot_pointed : (k : ℕ) → k < slots layout → pointers layout p pointing.after k ≡ get_or taking.answer.addresses k 0
  slot_pointed k l = rw zero-add at (points.pointed pointing_calm.done k (omega (arith, all.many)))

  -- the cells of the area stay while the pointers are put
  slot_held : (k : ℕ) → k < slots layout → data_of layout p pointing.after k ≡ slot_code 0 k
  slot_held k l =
      ap (cell_at pointing.after) (slot_pointed k l)
      ∙ (within_kept points.within).cell _ (apart _ (all.inside k l))
      ∙ all.held k l
      ∙ sym (zero_code k)

  early_pointed : Pointed layout p pointing.after
  early_pointed =
      record {
        ready = ready_kept ready_taken (within_kept points.within);
        sound = rw zero-add at (all.sound p (pointers layout p pointing.after) (λ j l. rw zero-add (slot_pointed j l)) (between_none p _) (sound_none p _));
        held = slot_held;
      }

  opening_log : (first_opening layout p s).log ≡ early ++ marking.log
  opening_log =
      ap (λ (r : Run Work). r.log) opening_is
      ∙ ap (λ (r : Run Work). taking.log ++ r.log) (done_then pointing (put_mark layout p) pointing_calm.done)
      ∙ sym (append_assoc taking.log pointing.log marking.log)

  pub opening_parts : OpeningParts layout p s
  opening_parts =
      record {
        early = early;
        mark = marking.log;
        log = rw opens_first opening_log;
        apart = early_apart;
        marking = rw (mark_row layout p pointing.after) (row_laws mark_bytes p.map pointing.after early_pointed.ready.paired).within.places;
        pointed = rw early_after early_pointed;
      }
