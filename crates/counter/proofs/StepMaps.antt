-- A step that tried no spare leaves the map.
--   Unmoved                   work that leaves the map, and the image as long as it was
--   step_unmoved              a step in which no spare was tried
use Rattle.std.proofs.Common.{◌≡◌, ℕ, ◌+◌, length, ℤ, sym, refl, ◌∙◌, arith, Ok, Err}
use native.Mathlib.Decide.{ℕ_discrete}
use Rattle.cells.specs.Chip.{Chip}
use Rattle.cells.specs.Run.{Run, still}
use Rattle.cells.proofs.Logs.{within_kept}
use Rattle.counter.specs.declared.places.Places.{Places}
use Rattle.counter.specs.Layout.{Layout, slots}
use Rattle.counter.specs.Map.{map_in}
use Rattle.counter.specs.Verdict.{outcome_of, ◌and_then◌, Verdict, Work, read_as}
use Rattle.counter.specs.Store.{store}
use Rattle.counter.specs.Doors.{last_count, chip_verdict, step_run, step_of}
use Rattle.counter.proofs.SoundPointers.{Sound}
use Rattle.counter.proofs.Ready.{pointers, Ready, ready_kept}
use Rattle.counter.proofs.Moves.{Ended, Ended.done, Ended.roomless, Ended.unmapped}
use Rattle.counter.proofs.Stores.{StoreLaws, store_laws, done_then, stopped_then}
use Rattle.counter.proofs.GoodVerdicts.{verdict_good}
use Rattle.counter.proofs.DoorViews.{step_refused, step_last, step_on}
use Rattle.counter.proofs.DoorAnswers.{step_is, storing_tried}

pub record Unmoved (layout : Layout) (p : Places) (s t : Chip) : Type 0 where
  pub long : length t.cells ≡ length s.cells
  pub map : map_in layout p t.cells ≡ map_in layout p s.cells

module _ {layout : Layout} {p : Places} where
  stored_unmoved : {n k c : ℕ} {s : Chip} {r : Run Work} → StoreLaws layout p n k c s r → r.tried ≡ 0 → Unmoved layout p s r.after
  stored_unmoved laws e = record { long = (within_kept laws.within).cells_length; map = laws.unmoved e }

  unmoved_then : {s t u : Chip} → Unmoved layout p s t → Unmoved layout p t u → Unmoved layout p s u
  unmoved_then one two = record { long = two.long ∙ one.long; map = two.map ∙ one.map }

-- storing, however it ended, that leaves the map where it tried no spare
record Trying (layout : Layout) (p : Places) (s : Chip) (r : Run Work) : Type 0 where
  ended : Ended r.answer
  unmoved : r.tried ≡ 0 → Unmoved layout p s r.after

-- one count stored and then another
twice_trying :
    {layout : Layout} {p : Places} (c d : ℕ) (s : Chip) → Ready layout p s → Sound (slots layout) p (pointers layout p s)
    → Trying layout p s (store layout p c s and_then store layout p d)
twice_trying {layout} {p} c d s ready sound = go laws.ended
  where
    r : Run Work
    r = store layout p c s

    laws : StoreLaws layout p (slots layout) 0 c s r
    laws = store_laws layout p c s ready sound

    one : Trying layout p s r
    one = record { ended = laws.ended; unmoved = stored_unmoved laws }

    go : Ended r.answer → Trying layout p s (r and_then store layout p d)
    go (done e) =
        let next = store_laws layout p d r.after (ready_kept ready (within_kept laws.within)) (laws.stored e).sound in
        rw (done_then r (store layout p d) e)
        (record { ended = next.ended; unmoved = λ none. unmoved_then (stored_unmoved laws (omega arith)) (stored_unmoved next (omega arith)) })
    go (roomless k e) = rw (stopped_then r (store layout p d) _ e) one
    go (unmapped a e) = rw (stopped_then r (store layout p d) _ e) one

module _ (layout : Layout) (p : Places) (s : Chip) where
  -- where its outcome says that no spare was tried, work left the map
  abbrev Leaves : Run Verdict → Type 0
  Leaves r = (outcome_of r).says.tried ≡ 0 → Unmoved layout p s r.after

  refused_leaves : {r : Run Verdict} {v : Verdict} → r ≡ still v s → Leaves r
  refused_leaves e = rw e (λ none. record { long = refl; map = refl })

  pub step_unmoved : (step_of layout p s).says.tried ≡ 0 → Unmoved layout p s (step_of layout p s).leaves
  step_unmoved = rw (step_is layout p s) (go (chip_verdict layout p s) refl)
    where
      counted : (c : ℕ) (lag : ℤ) → chip_verdict layout p s ≡ read_as c lag → Dec (c ≡ last_count) → Leaves (step_run layout p s)
      counted c lag e (yes l) = refused_leaves (step_last layout p s c lag e l)
      counted c lag e (no n) =
          let good = (verdict_good layout p s e).1 in
          let twice = twice_trying c (c + 1) s good.ready good.sound in
          rw (step_on layout p s c lag e n) (λ none. twice.unmoved (sym (storing_tried (c + 1) lag (store layout p c s and_then store layout p (c + 1)) twice.ended) ∙ none))

      go : (v : Verdict) → chip_verdict layout p s ≡ v → Leaves (step_run layout p s)
      go (Ok (c, lag)) e = counted c lag e (ℕ_discrete c last_count)
      go (Err why) e = refused_leaves (step_refused layout p s why e)
