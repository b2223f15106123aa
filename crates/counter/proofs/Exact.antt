-- A chip that holds a count exactly, and what reading and storing make of it.
--   read_weighed              where refusals 1 to 4 do not hold, an image reads as what its data come to
--   Exact                     refusals 1 to 4 do not hold, and every slot's cell is its code of c
--   exact_stored              after a store of c that is done
--   exact_opened              after a first opening that is done, at 0
--   exact_reads, exact_verdict  it reads as c, with lag 0
--   exact_still               storing c on it asks nothing and changes nothing
use Rattle.counter.specs.Verdict.{read_as, complete}
use Rattle.std.proofs.Common.{◌≡◌, ℕ, zero, suc, ◌+◌, ◌^◌, ◌<◌, ◌≤◌, true, pos, sym, refl, ◌∙◌, arith, eq-eqb}
use Rattle.cells.specs.Chip.{Chip}
use Rattle.cells.specs.Run.{still}
use Rattle.cells.proofs.Logs.{within_kept}
use Rattle.counter.specs.declared.places.Places.{Places}
use Rattle.counter.specs.Layout.{Layout, slots}
use Rattle.counter.specs.Map.{map_in, marked, sound}
use Rattle.counter.specs.Reading.{weigh, examine, verdict_of}
use Rattle.counter.specs.Store.{slot_code, store_from, store}
use Rattle.counter.specs.Opening.{first_opening}
use Rattle.counter.specs.Doors.{chip_verdict}
use Rattle.counter.specs.Places.{lives_good}
use Rattle.counter.proofs.SoundPointers.{Sound, sound_test}
use Rattle.counter.proofs.Ready.{pointers, data_of, Ready, ready_kept}
use Rattle.counter.proofs.Moves.{slot_there}
use Rattle.counter.proofs.Stores.{store_laws}
use Rattle.counter.proofs.Openings.{opening_laws, zero_code}
use Rattle.counter.proofs.ReadBack.{weigh_exact}

pub read_weighed : {layout : Layout} {p : Places} {s : Chip} → Ready layout p s → marked (map_in layout p s.cells) ≡ true
    → Sound (slots layout) p (pointers layout p s) → verdict_of layout p s.cells ≡ weigh layout (data_of layout p s)
unfolding verdict_of examine
read_weighed {layout} {p} {s} ready marks sound = rw (ready.long, ready.good, marks, sound_test layout p (pointers layout p s) sound)

pub record Exact (layout : Layout) (p : Places) (c : ℕ) (s : Chip) : Type 0 where
  pub ready : Ready layout p s
  pub marks : marked (map_in layout p s.cells) ≡ true
  pub sound : Sound (slots layout) p (pointers layout p s)
  pub held : (k : ℕ) → k < slots layout → data_of layout p s k ≡ slot_code c k

module _ {layout : Layout} {p : Places} {s : Chip} (ready : Ready layout p s) where
  pub exact_stored :
      (c : ℕ) → marked (map_in layout p s.cells) ≡ true → Sound (slots layout) p (pointers layout p s)
      → (store layout p c s).answer ≡ complete → Exact layout p c (store layout p c s).after
  exact_stored c marks sound e =
      let laws = store_laws layout p c s ready sound in
      let stored = laws.stored e in
      record {
        ready = ready_kept ready (within_kept laws.within);
        marks = laws.mark ∙ marks;
        sound = stored.sound;
        held = λ k l. stored.held k (omega arith) (omega arith);
      }

  pub exact_opened : (first_opening layout p s).answer ≡ complete → Exact layout p 0 (first_opening layout p s).after
  exact_opened e =
      let laws = opening_laws ready in
      let opened = laws.opened e in
      record {
        ready = ready_kept ready (within_kept laws.within);
        marks = opened.marks;
        sound = opened.sound;
        held = λ k l. opened.held k l ∙ sym (zero_code k);
      }

module _ {layout : Layout} {p : Places} {c : ℕ} {s : Chip} (exact : Exact layout p c s) where
  pub exact_reads : 1 ≤ layout.copies → c < 2 ^ 32 → verdict_of layout p s.cells ≡ read_as c (pos 0)
  exact_reads one small =
      read_weighed exact.ready exact.marks exact.sound ∙ weigh_exact layout {byte = data_of layout p s} small exact.held one

  pub exact_verdict : 1 ≤ layout.copies → c < 2 ^ 32 → chip_verdict layout p s ≡ read_as c (pos 0)
  unfolding chip_verdict lives_good
  exact_verdict one small = rw (eq-eqb _ _ exact.ready.paired) (exact_reads one small)

  still_from : (n k : ℕ) → k + n ≤ slots layout → store_from n k layout p c s ≡ still complete s
  unfolding store_from
  still_from zero k l = refl
  still_from (suc n) k l = rw (slot_there layout p k (slot_code c k) s (exact.held k (omega arith)), still_from n (k + 1) (omega arith))

  pub exact_still : store layout p c s ≡ still complete s
  unfolding store
  exact_still = still_from (slots layout) 0 (omega arith)
