-- A first opening in which the mains were lost (document 02, P6): whatever the power and the torn byte, the next open answers 0, given
-- two good writes in every cell of map and area.
--   OpensAtZero               an open answers count 0 with lag 0, and leaves that count exactly
--   exact_reopens             opening a chip that holds a count exactly asks nothing and changes nothing
--   torn_alive, torn_exact    a chip left by a cut has life in those cells; and if the mark is there, it holds count 0 exactly
--   cut_opening               so the next open answers 0
--   cut_blank                 in document 02's words, of a blank image
use Rattle.std.proofs.Common.{Ok}
use Prim.Native.Nat.{ℕ, ◌^◌, ◌≤◌, ◌<◌}
use mathlib.Core.Path.{◌≡◌, refl, sym, ap, ◌∙◌}
use mathlib.Core.Bool.{Bool, true, false, true≢false}
use mathlib.Core.Logic.{◌⊎◌, inl, inr}
use native.Mathlib.Omega.{arith}
use lib.IntN.{pos}
use lib.ListN.{length}
use Rattle.cells.specs.Chip.{Chip, cell_at, Kept}
use Rattle.cells.specs.Run.{Run, still, view}
use Rattle.cells.specs.Log.{write_all}
use Rattle.cells.specs.Cut.{Cut, Cut.whole, tear}
use Rattle.cells.proofs.TornLogs.{Torn, TornAt, tear_torn, torn_kept, torn_life, torn_append}
use Rattle.counter.specs.declared.places.Places.{Places}
use Rattle.counter.specs.declared.layout.Layout.{Layout}
use Rattle.counter.specs.Layout.{two, slots}
use Rattle.counter.specs.Map.{map_in, marked}
use Rattle.counter.specs.Verdict.{answer, ◌ending_in◌, Verdict, Work, read_as}
use Rattle.counter.specs.Doors.{open_run, open_of}
use Rattle.counter.specs.Trials.{cut_outcome, trial_open_of}
use Rattle.counter.proofs.SoundPointers.{sound_same}
use Rattle.counter.proofs.Ready.{pointers, Ready, Own, ready_kept, mark_kept, apart_map}
use Rattle.counter.proofs.Openings.{OfMark, mark_pointers}
use Rattle.counter.proofs.Exact.{Exact, exact_verdict, exact_still}
use Rattle.counter.proofs.DoorViews.{marked_opened, open_again, settling_good}
use Rattle.counter.proofs.DoorAnswers.{good_says, open_is, trial_open_is}
use Rattle.promises.specs.Runs.{Fresh}
use Rattle.promises.proofs.DoorRuns.{open_laws}
use Rattle.promises.proofs.FirstOpenings.{UnmarkedAlive, alive_fewer, Pointed, OpeningParts, opening_parts, OpenCalm, open_calm}
use Rattle.promises.proofs.BlankOpenings.{fresh_alive}

pub record OpensAtZero (layout : Layout) (p : Places) (s : Chip) : Type 0 where
  pub says : (open_of layout p s).says ≡ answer 0 0 (pos 0) 0 (length (open_run layout p s).log) 0
  pub leaves : Exact layout p 0 (open_of layout p s).leaves

-- ## The next open

module _ {layout : Layout} {p : Places} {s : Chip} where
  -- as the work of open ends
  at_zero : (open_run layout p s).answer ≡ read_as 0 (pos 0) → (open_run layout p s).tried ≡ 0 → Exact layout p 0 (open_run layout p s).after → OpensAtZero layout p s
  at_zero good none exact =
      record {
        says = rw (open_is layout p s, good_says (open_run layout p s) good, none);
        leaves = rw (open_is layout p s) exact;
      }

  pub exact_reopens : {c : ℕ} → 1 ≤ layout.copies → c < 2 ^ 32 → Exact layout p c s → open_run layout p s ≡ still (read_as c (pos 0)) s
  exact_reopens {c} one small exact =
      open_again layout p s (marked_opened layout p s exact.marks)
      ∙ settling_good layout p s _ c (pos 0) (exact_verdict exact one small)
      ∙ ap (λ (r : Run Work). r ending_in read_as c (pos 0)) (exact_still exact)

  exact_opens : 1 ≤ layout.copies → Exact layout p 0 s → OpensAtZero layout p s
  exact_opens one exact =
      let run = exact_reopens one (omega arith) exact in
      at_zero (ap (λ (r : Run Verdict). r.answer) run) (ap (λ (r : Run Verdict). r.tried) run) (rw run exact)

  unmarked_opens : UnmarkedAlive 1 layout p s → OpensAtZero layout p s
  unmarked_opens alive = let calm = open_calm alive in at_zero calm.answers calm.tried calm.exact

-- ## What a cut leaves

module _ {layout : Layout} {p : Places} {s t : Chip} where
  -- where the mark's cells alone change, the pointers stay, and so do the cells that they point at
  module _ (x : Pointed layout p s) (kept : Kept (OfMark p) s t) where
    pointers_stay : (k : ℕ) → k < slots layout → pointers layout p t k ≡ pointers layout p s k
    pointers_stay = mark_pointers x.ready kept

    off_mark : (k : ℕ) → k < slots layout → OfMark p (pointers layout p s k) → ⊥
    off_mark k l m = apart_map x.ready (record { from = m.0; to = let h = m.1 in omega arith }) (x.sound.inside k l)

    pointed_exact : marked (map_in layout p t.cells) ≡ true → Exact layout p 0 t
    pointed_exact marks =
        record {
          ready = ready_kept x.ready kept;
          marks = marks;
          sound = sound_same _ pointers_stay x.sound;
          held = λ k l. ap (cell_at t) (pointers_stay k l) ∙ kept.cell _ (off_mark k l) ∙ x.held k l;
        }

  -- where they stay, so does the mark
  mark_stays : Ready layout p s → Kept (λ c. OfMark p c → ⊥) s t → marked (map_in layout p t.cells) ≡ marked (map_in layout p s.cells)
  mark_stays ready kept = mark_kept ready kept (λ j l off. off (omega arith, omega arith))

module _ {layout : Layout} {p : Places} {s : Chip} (alive : UnmarkedAlive 2 layout p s) where
  calm : OpenCalm layout p s
  calm = open_calm (alive_fewer (omega arith) alive)

  parts : OpeningParts layout p s
  parts = opening_parts (alive_fewer (omega arith) alive)

  module _ {b : ℕ} {t : Chip} (torn : Torn b (open_run layout p s).log s t) where
    torn_keeps : Kept (Own layout p) s t
    torn_keeps = torn_kept (open_laws layout p s).within.places torn

    -- each cell was asked at most once, the torn write with the others
    pub torn_alive : marked (map_in layout p t.cells) ≡ false → UnmarkedAlive 1 layout p t
    torn_alive unmarked =
        record {
          ready = ready_kept alive.ready torn_keeps;
          unmarked = unmarked;
          lasting = λ a own.
              let h = alive.lasting a own in
              let h₁ = torn_life torn a in
              let h₂ = calm.once a in
              omega arith;
        }

    -- the mark is there only where the cut fell behind addresses and pointers
    pub torn_exact : marked (map_in layout p t.cells) ≡ true → Exact layout p 0 t
    torn_exact marks = go (torn_append parts.early (rw parts.log at torn))
      where
        go : Torn b parts.early s t ⊎ Torn b parts.mark (write_all parts.early s) t → Exact layout p 0 t
        go (inl x) = absurd (true≢false (sym marks ∙ mark_stays alive.ready (torn_kept parts.apart x) ∙ alive.unmarked))
        go (inr x) = pointed_exact parts.pointed (torn_kept parts.marking x) marks

    torn_opens : 1 ≤ layout.copies → OpensAtZero layout p t
    torn_opens one = go (marked (map_in layout p t.cells)) refl
      where
        go : (m : Bool) → marked (map_in layout p t.cells) ≡ m → OpensAtZero layout p t
        go true e = exact_opens one (torn_exact e)
        go false e = unmarked_opens (torn_alive e)

  -- ## The theorem

  pub cut_opening : (power torn : ℕ) → 1 ≤ layout.copies → OpensAtZero layout p (trial_open_of layout p power torn s).leaves
  cut_opening power torn one = rw (trial_open_is layout p s power torn) (go (tear_torn power torn (open_run layout p s).log (view (open_run layout p s)) s))
    where
      c : Cut Verdict
      c = tear power torn (open_run layout p s).log (view (open_run layout p s)) s

      go : (c ≡ whole (view (open_run layout p s))) ⊎ TornAt torn (open_run layout p s).log s c → OpensAtZero layout p (cut_outcome c).leaves
      go (inl e) = rw e (exact_opens one calm.exact)
      go (inr x) = rw x.comes (torn_opens x.torn one)

-- two good writes in every cell are what a chip fresh for one step has
pub cut_blank : (p : Places) (s : Chip) (power torn : ℕ) → Fresh 1 two p s → OpensAtZero two p (trial_open_of two p power torn s).leaves
cut_blank p s power torn fresh = cut_opening (fresh_alive fresh) power torn (omega arith)
