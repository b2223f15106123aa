-- The work of open and step: where it writes, and the ways in which it ends.
--   Comes                     refused with nothing touched, and not for what storing is, stopped, or good with an exact chip
--   DoorLaws                  where a door's work writes, and how it ends
--   open_laws, step_laws      they hold of open and of step
use Rattle.std.proofs.Common.{Ok, Err}
use Prim.Native.Nat.{ℕ, ◌^◌, ◌<◌}
use mathlib.Core.Path.{◌≡◌, refl, sym, ap, ◌∙◌}
use mathlib.Core.Bool.{Bool, true, false}
use native.Mathlib.Decide.{ℕ_discrete}
use native.Mathlib.Omega.{arith}
use lib.IntN.{ℤ, pos}
use Rattle.cells.specs.Chip.{Chip}
use Rattle.cells.specs.Run.{Run, still}
use Rattle.cells.specs.Log.{Within}
use Rattle.cells.proofs.Logs.{within_still, within_giving, within_then}
use Rattle.counter.specs.declared.places.Places.{Places}
use Rattle.counter.specs.declared.verdict.Refusal.{Refusal}
use Rattle.counter.specs.declared.verdict.Refusal.TheVariants.{LastCount, NoSpare, MapByte}
use Rattle.counter.specs.declared.layout.Layout.{Layout}
use Rattle.counter.specs.Verdict.{on_good, ending, ◌ending_in◌, ◌and_then◌, Verdict, Work, read_as, complete}
use Rattle.counter.specs.Store.{store}
use Rattle.counter.specs.Opening.{first_opening}
use Rattle.counter.specs.Doors.{last_count, chip_verdict, open_run, step_run}
use Rattle.counter.proofs.Ready.{Ready, Own}
use Rattle.counter.proofs.Moves.{not_done, Ended, Ended.done, Ended.roomless, Ended.unmapped}
use Rattle.counter.proofs.Stores.{store_laws, done_then, stopped_then}
use Rattle.counter.proofs.Openings.{opening_laws}
use Rattle.counter.proofs.Exact.{Exact, exact_stored, exact_opened}
use Rattle.counter.proofs.GoodVerdicts.{VerdictGood, verdict_good, of_storing, verdict_reads}
use Rattle.counter.proofs.DoorViews.{unopened, unopened_ready, open_first, open_again, step_refused, step_last, step_on}

pub data Comes (layout : Layout) (p : Places) (s : Chip) (r : Run Verdict) : Type 0 where
  untouched : (why : Refusal) → of_storing why ≡ false → r ≡ still (Err why) s → Comes layout p s r
  spareless : (k : ℕ) → r.answer ≡ Err (NoSpare k) → Comes layout p s r
  mapless : (a : ℕ) → r.answer ≡ Err (MapByte a) → Comes layout p s r
  good : (c : ℕ) (lag : ℤ) → r.answer ≡ read_as c lag → c < 2 ^ 32 → Exact layout p c r.after → Comes layout p s r

pub record DoorLaws (layout : Layout) (p : Places) (s : Chip) (r : Run Verdict) : Type 0 where
  pub within : Within (Own layout p) s r
  pub comes : Comes layout p s r

-- storing that leaves the count c, where it is done
pub record Leaves (layout : Layout) (p : Places) (c : ℕ) (s : Chip) (r : Run Work) : Type 0 where
  pub within : Within (Own layout p) s r
  pub ended : Ended r.answer
  pub exact : r.answer ≡ complete → Exact layout p c r.after

module _ {layout : Layout} {p : Places} {s : Chip} where
  refused_laws : (why : Refusal) → of_storing why ≡ false → DoorLaws layout p s (still (Err why) s)
  refused_laws why reads = record { within = within_still _ s; comes = untouched why reads refl }

  -- a call that is its storing
  ending_laws : {c : ℕ} (lag : ℤ) (r : Run Work) → c < 2 ^ 32 → Leaves layout p c s r → DoorLaws layout p s (r ending_in read_as c lag)
  ending_laws {c} lag r small leaves = record { within = within_giving _ leaves.within; comes = go leaves.ended }
    where
      go : Ended r.answer → Comes layout p s (r ending_in read_as c lag)
      go (done e) = good c lag (ap (ending (read_as c lag)) e) small (leaves.exact e)
      go (roomless k e) = spareless k (ap (ending (read_as c lag)) e)
      go (unmapped a e) = mapless a (ap (ending (read_as c lag)) e)

  store_leaves : {c d : ℕ} → VerdictGood layout p d s → Leaves layout p c s (store layout p c s)
  store_leaves {c} v =
      let laws = store_laws layout p c s v.ready v.sound in
      record { within = laws.within; ended = laws.ended; exact = exact_stored v.ready c v.marks v.sound }

  opening_leaves : Ready layout p s → Leaves layout p 0 s (first_opening layout p s)
  opening_leaves ready =
      let laws = opening_laws ready in
      record { within = laws.within; ended = laws.ended; exact = exact_opened ready }

-- an exact chip passes the tests of a read
exact_good : {layout : Layout} {p : Places} {c : ℕ} {s : Chip} → c < 2 ^ 32 → Exact layout p c s → VerdictGood layout p c s
exact_good small x = record { ready = x.ready; marks = x.marks; sound = x.sound; small = small }

module _ {layout : Layout} {p : Places} {s : Chip} where
  -- one count stored, and then another
  two_leave : {c d : ℕ} → VerdictGood layout p c s → Leaves layout p d s (store layout p c s and_then store layout p d)
  two_leave {c} {d} v = go one.ended
    where
      r : Run Work
      r = store layout p c s

      one : Leaves layout p c s r
      one = store_leaves v

      go : Ended r.answer → Leaves layout p d s (r and_then store layout p d)
      go (done e) =
          let other = store_leaves {c = d} (exact_good v.small (one.exact e)) in
          rw (done_then r (store layout p d) e) (record { within = within_then one.within other.within; ended = other.ended; exact = other.exact })
      go (roomless k e) = rw (stopped_then r (store layout p d) _ e) (record { within = one.within; ended = one.ended; exact = λ q. not_done (sym e ∙ q) })
      go (unmapped a e) = rw (stopped_then r (store layout p d) _ e) (record { within = one.within; ended = one.ended; exact = λ q. not_done (sym e ∙ q) })

-- ## Open

module _ (layout : Layout) (p : Places) (s : Chip) where
  again : (v : Verdict) → chip_verdict layout p s ≡ v → DoorLaws layout p s (on_good v (λ c lag. store layout p c s ending_in read_as c lag) s)
  again (Ok (c, lag)) e = let v = (verdict_good layout p s e).1 in ending_laws lag (store layout p c s) v.small (store_leaves v)
  again (Err why) e = refused_laws why (verdict_reads layout p s e)

  pub open_laws : DoorLaws layout p s (open_run layout p s)
  open_laws = go (unopened layout p s) refl
    where
      go : (t : Bool) → unopened layout p s ≡ t → DoorLaws layout p s (open_run layout p s)
      go true e = rw (open_first layout p s e) (ending_laws (pos 0) (first_opening layout p s) (omega arith) (opening_leaves (unopened_ready layout p s e)))
      go false e = rw (open_again layout p s e) (again (chip_verdict layout p s) refl)

-- ## Step

module _ (layout : Layout) (p : Places) (s : Chip) where
  pub step_laws : DoorLaws layout p s (step_run layout p s)
  step_laws = go (chip_verdict layout p s) refl
    where
      counted : (c : ℕ) (lag : ℤ) → chip_verdict layout p s ≡ read_as c lag → Dec (c ≡ last_count) → DoorLaws layout p s (step_run layout p s)
      counted c lag e (yes l) = rw (step_last layout p s c lag e l) (refused_laws LastCount refl)
      counted c lag e (no n) =
          let v = (verdict_good layout p s e).1 in
          let small = v.small in
          rw (step_on layout p s c lag e n) (ending_laws lag _ (omega arith) (two_leave v))

      go : (v : Verdict) → chip_verdict layout p s ≡ v → DoorLaws layout p s (step_run layout p s)
      go (Ok (c, lag)) e = counted c lag e (ℕ_discrete c last_count)
      go (Err why) e = rw (step_refused layout p s why e) (refused_laws why (verdict_reads layout p s e))
