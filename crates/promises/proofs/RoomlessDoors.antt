-- Refusal 8 of a door comes exactly where the turn of the slot that it names comes, and no cell takes that slot's byte (condition 2).
--   Roomless                  a call is refused 8, and names the slot
--   TwoFull                   one of the two stores of a step
--   StepFull, step_roomless   a step
--   StepAsked, step_tried     which has asked every one of those cells, at the end of its log
--   OpenFull, open_roomless   an opening
--   OpenAsked, open_tried     which has asked them too
use Rattle.std.proofs.Common.{Ok, Err}
use Prim.Native.Nat.{ℕ, ◌+◌}
use mathlib.Core.Path.{◌≡◌, refl, sym, ap, ◌∙◌}
use mathlib.Core.Bool.{Bool, true, false, true≢false}
use mathlib.Core.Logic.{◌⊎◌, inl, inr, ◌↔◌}
use native.Mathlib.Decide.{ℕ_discrete}
use lib.IntN.{ℤ, pos}
use lib.ListN.{length}
use Rattle.cells.specs.Chip.{Chip}
use Rattle.cells.specs.Run.{Run}
use Rattle.cells.proofs.Logs.{within_kept}
use Rattle.counter.specs.declared.places.Places.{Places}
use Rattle.counter.specs.declared.verdict.Refusal.TheVariants.{NoSpare}
use Rattle.counter.specs.declared.layout.Layout.{Layout}
use Rattle.counter.specs.Layout.{slots}
use Rattle.counter.specs.Verdict.{Outcome, ending, ◌and_then◌, Verdict, Work, read_as, complete}
use Rattle.counter.specs.Store.{slot_code, store}
use Rattle.counter.specs.Doors.{last_count, chip_verdict, open_run, step_run, open_of, step_of}
use Rattle.counter.proofs.Ready.{ready_kept}
use Rattle.counter.proofs.Moves.{Ended, Ended.done, Ended.roomless, Ended.unmapped}
use Rattle.counter.proofs.Stores.{StoreLaws, store_laws, done_then, stopped_then}
use Rattle.counter.proofs.DoorAnswers.{code_eight, spareless_code, spareless_place, open_is, step_is}
use Rattle.counter.proofs.DoorViews.{unopened, unopened_ready, open_first, open_again, settling_refused, settling_good, step_refused, step_last, step_on}
use Rattle.counter.proofs.GoodVerdicts.{VerdictGood, verdict_good, verdict_reads}
use Rattle.promises.proofs.Room.{Asked, asked_then, asked_giving}
use Rattle.promises.proofs.RoomlessStores.{StoreFull, store_roomless, store_tried}
use Rattle.promises.proofs.RoomlessOpenings.{taken_to, OpeningFull, opening_roomless, SparesAsked, spares_giving, opening_tried}

-- refused 8, and the slot named
abbrev pub Roomless : ℕ → Outcome → Type 0
Roomless k o = (o.says.code ≡ 8) × (o.says.place ≡ k)

-- a call that found no spare ended its storing so
ending_stopped : (k c : ℕ) (lag : ℤ) (w : Work) → ending (read_as c lag) w ≡ Err (NoSpare k) → w ≡ Err (NoSpare k)
ending_stopped k c lag (Ok tt) e = absurd (true≢false cc)
ending_stopped k c lag (Err why) e = let q : why ≡ NoSpare k = cc in ap Err q

-- ## A step

-- in the store of the count that was read, or, when that is done, in the store of the next
abbrev pub TwoFull : Layout → Places → ℕ → ℕ → Chip → Type 0
TwoFull layout p c k s = StoreFull layout p c k s ⊎ (((store layout p c s).answer ≡ complete) × StoreFull layout p (c + 1) k (store layout p c s).after)

pub record StepFull (layout : Layout) (p : Places) (s : Chip) (k : ℕ) : Type 0 where
  pub count : ℕ
  pub lag : ℤ
  pub reads : chip_verdict layout p s ≡ read_as count lag
  pub more : count ≡ last_count → ⊥
  pub full : TwoFull layout p count k s

-- and so it was found: the slot's byte of the count that was read, or of the next, was asked of its own cell and of every spare of its kind
pub record StepAsked (layout : Layout) (p : Places) (s : Chip) (k : ℕ) : Type 0 where
  pub full : StepFull layout p s k
  pub stored : ℕ
  pub either : (stored ≡ full.count) ⊎ (stored ≡ full.count + 1)
  pub asked : Asked layout p k (slot_code stored k) (step_run layout p s)

module _ {layout : Layout} {p : Places} {c : ℕ} {s : Chip} (v : VerdictGood layout p c s) (k : ℕ) where
  abbrev settled : Run Work
  settled = store layout p c s

  abbrev stepped : Chip → Run Work
  stepped = store layout p (c + 1)

  laws : StoreLaws layout p (slots layout) 0 c s settled
  laws = store_laws layout p c s v.ready v.sound

  once : (settled.answer ≡ Err (NoSpare k)) ↔ StoreFull layout p c k s
  once = store_roomless layout p c s k v.ready v.sound

  once_more : settled.answer ≡ complete → ((stepped settled.after).answer ≡ Err (NoSpare k)) ↔ StoreFull layout p (c + 1) k settled.after
  once_more q = store_roomless layout p (c + 1) settled.after k (ready_kept v.ready (within_kept laws.within)) (laws.stored q).sound

  two_roomless : ((settled and_then stepped).answer ≡ Err (NoSpare k)) ↔ TwoFull layout p c k s
  two_roomless = (λ e. only e laws.ended, always)
    where
      answers : {r q : Run Work} → r ≡ q → r.answer ≡ q.answer
      answers e = ap (λ (w : Run Work). w.answer) e

      only : (settled and_then stepped).answer ≡ Err (NoSpare k) → Ended settled.answer → TwoFull layout p c k s
      only e (done q) = inr (q, (once_more q).0 (sym (answers (done_then settled stepped q)) ∙ e))
      only e (roomless i q) = inl (once.0 (sym (answers (stopped_then settled stepped _ q)) ∙ e))
      only e (unmapped a q) =
          let h = sym q ∙ sym (answers (stopped_then settled stepped _ q)) ∙ e in
          absurd (true≢false cc)

      always : TwoFull layout p c k s → (settled and_then stepped).answer ≡ Err (NoSpare k)
      always (inl full) = let q = once.1 full in answers (stopped_then settled stepped _ q) ∙ q
      always (inr (q, full)) = answers (done_then settled stepped q) ∙ (once_more q).1 full

  -- two stores that are stopped so have asked, in the first or in the second
  two_tried : TwoFull layout p c k s → (d : ℕ) × ((d ≡ c) ⊎ (d ≡ c + 1)) × Asked layout p k (slot_code d k) (settled and_then stepped)
  two_tried (inl full) =
      let q = once.1 full in
      (c, inl refl, rw (stopped_then settled stepped _ q) (store_tried layout p c s k v.ready v.sound q))
  two_tried (inr (q, full)) =
      let h = store_tried layout p (c + 1) settled.after k (ready_kept v.ready (within_kept laws.within)) (laws.stored q).sound ((once_more q).1 full) in
      (c + 1, inr refl, rw (done_then settled stepped q) (asked_then settled h))

module _ (layout : Layout) (p : Places) (s : Chip) (k : ℕ) where
  step_only : (step_run layout p s).answer ≡ Err (NoSpare k) → (v : Verdict) → chip_verdict layout p s ≡ v → StepFull layout p s k
  step_only e (Err why) q =
      let h = sym (ap (λ (r : Run Verdict). r.answer) (step_refused layout p s why q)) ∙ e in
      absurd (true≢false (verdict_reads {why = NoSpare k} layout p s (q ∙ h)))
  step_only e (Ok (c, lag)) q = counted (ℕ_discrete c last_count)
    where
      counted : Dec (c ≡ last_count) → StepFull layout p s k
      counted (yes l) = let h = sym (ap (λ (r : Run Verdict). r.answer) (step_last layout p s c lag q l)) ∙ e in absurd (true≢false cc)
      counted (no n) =
          let stops = ending_stopped k (c + 1) lag _ (sym (ap (λ (r : Run Verdict). r.answer) (step_on layout p s c lag q n)) ∙ e) in
          record { count = c; lag = lag; reads = q; more = n; full = (two_roomless (verdict_good layout p s q).1 k).0 stops }

  step_ends : StepFull layout p s k → (step_run layout p s).answer ≡ Err (NoSpare k)
  step_ends f =
      ap (λ (r : Run Verdict). r.answer) (step_on layout p s f.count f.lag f.reads f.more)
      ∙ ap (ending (read_as (f.count + 1) f.lag)) ((two_roomless (verdict_good layout p s f.reads).1 k).1 f.full)

  pub step_roomless : Roomless k (step_of layout p s) ↔ StepFull layout p s k
  step_roomless =
      rw (step_is layout p s) (
        λ (e, at). step_only (code_eight (step_run layout p s).answer (length (step_run layout p s).log) (step_run layout p s).tried e ∙ ap (λ (j : ℕ). Err (NoSpare j)) at) (chip_verdict layout p s) refl,
        λ f. (spareless_code (step_run layout p s) (step_ends f), spareless_place (step_run layout p s) (step_ends f)),
      )

  -- what such a step asks
  step_asks : StepFull layout p s k → StepAsked layout p s k
  step_asks f =
      let two = two_tried (verdict_good layout p s f.reads).1 k f.full in
      record {
        full = f;
        stored = two.0;
        either = two.1;
        asked = rw (step_on layout p s f.count f.lag f.reads f.more) (asked_giving _ two.2);
      }

  -- a step is refused 8 only when every spare of the kind has been tried and has not taken the byte
  pub step_tried : Roomless k (step_of layout p s) → StepAsked layout p s k
  step_tried e = step_asks (step_roomless.0 e)

-- ## An opening

-- in a first opening, or in the store of the count that was read
pub data OpenFull (layout : Layout) (p : Places) (s : Chip) (k : ℕ) : Type 0 where
  first : unopened layout p s ≡ true → OpeningFull layout p k s → OpenFull layout p s k
  again : unopened layout p s ≡ false → (c : ℕ) (lag : ℤ) → chip_verdict layout p s ≡ read_as c lag → StoreFull layout p c k s → OpenFull layout p s k

-- and so it was found: the code of 0 was asked of every spare that the addresses taken so far leave, or the slot's byte of its own cell
-- and of every spare of its kind
pub data OpenAsked (layout : Layout) (p : Places) (s : Chip) (k : ℕ) : Type 0 where
  first : unopened layout p s ≡ true → OpeningFull layout p k s → SparesAsked p k (taken_to p s k) (open_run layout p s) → OpenAsked layout p s k
  again :
      unopened layout p s ≡ false → (c : ℕ) (lag : ℤ) → chip_verdict layout p s ≡ read_as c lag
      → StoreFull layout p c k s → Asked layout p k (slot_code c k) (open_run layout p s) → OpenAsked layout p s k

module _ (layout : Layout) (p : Places) (s : Chip) (k : ℕ) where
  open_only : (open_run layout p s).answer ≡ Err (NoSpare k) → (t : Bool) → unopened layout p s ≡ t → OpenFull layout p s k
  open_only e true q =
      let stops = ending_stopped k 0 (pos 0) _ (sym (ap (λ (r : Run Verdict). r.answer) (open_first layout p s q)) ∙ e) in
      first q ((opening_roomless (unopened_ready layout p s q) k).0 stops)
  open_only e false q = read (chip_verdict layout p s) refl
    where
      read : (v : Verdict) → chip_verdict layout p s ≡ v → OpenFull layout p s k
      read (Err why) h =
          let run = open_again layout p s q ∙ settling_refused layout p s _ why h in
          absurd (true≢false (verdict_reads {why = NoSpare k} layout p s (h ∙ sym (ap (λ (r : Run Verdict). r.answer) run) ∙ e)))
      read (Ok (c, lag)) h =
          let run = open_again layout p s q ∙ settling_good layout p s _ c lag h in
          let v = (verdict_good layout p s h).1 in
          let stops = ending_stopped k c lag _ (sym (ap (λ (r : Run Verdict). r.answer) run) ∙ e) in
          again q c lag h ((store_roomless layout p c s k v.ready v.sound).0 stops)

  open_ends : OpenFull layout p s k → (open_run layout p s).answer ≡ Err (NoSpare k)
  open_ends (first q f) =
      ap (λ (r : Run Verdict). r.answer) (open_first layout p s q) ∙ ap (ending (read_as 0 (pos 0))) ((opening_roomless (unopened_ready layout p s q) k).1 f)
  open_ends (again q c lag h f) =
      let v = (verdict_good layout p s h).1 in
      ap (λ (r : Run Verdict). r.answer) (open_again layout p s q ∙ settling_good layout p s _ c lag h)
      ∙ ap (ending (read_as c lag)) ((store_roomless layout p c s k v.ready v.sound).1 f)

  pub open_roomless : Roomless k (open_of layout p s) ↔ OpenFull layout p s k
  open_roomless =
      rw (open_is layout p s) (
        λ (e, at). open_only (code_eight (open_run layout p s).answer (length (open_run layout p s).log) (open_run layout p s).tried e ∙ ap (λ (j : ℕ). Err (NoSpare j)) at) (unopened layout p s) refl,
        λ f. (spareless_code (open_run layout p s) (open_ends f), spareless_place (open_run layout p s) (open_ends f)),
      )

  -- what such an opening asks
  open_asks : OpenFull layout p s k → OpenAsked layout p s k
  open_asks (first q f) =
      let ready = unopened_ready layout p s q in
      first q f (rw (open_first layout p s q) (spares_giving _ _ (opening_tried ready k ((opening_roomless ready k).1 f))))
  open_asks (again q c lag h f) =
      let v = (verdict_good layout p s h).1 in
      let stops = (store_roomless layout p c s k v.ready v.sound).1 f in
      again q c lag h f (rw (open_again layout p s q ∙ settling_good layout p s _ c lag h) (asked_giving _ (store_tried layout p c s k v.ready v.sound stops)))

  -- so is an opening
  pub open_tried : Roomless k (open_of layout p s) → OpenAsked layout p s k
  open_tried e = open_asks (open_roomless.0 e)
