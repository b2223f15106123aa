-- A step on a chip that holds its count exactly: what it asks, where the cells have life and where they have not.
--   step_writes               the writes of a step, one a copy, in order
--   step_log                  the slots that change give just those
--   step_stores               a step on an exact chip is the store of the next count
--   StepBound, step_bound     what it asks of area cells, against the room
--   StepCalm, step_calm       what it does where the cells that change have life
use Rattle.std.proofs.Common.{Ok, Err}
use Prim.Native.Nat.{ℕ, zero, suc, ◌+◌, ◌-◌, ◌*◌, ◌/◌, ◌%◌, ◌^◌, ◌≤◌, ◌<◌}
use mathlib.Core.Path.{◌≡◌, refl, ap, ◌∙◌}
use mathlib.Core.Bool.{cond}
use mathlib.Core.List.{List, [], ◌∷◌}
use native.Mathlib.Nat.{zero-add, add-zero}
use native.Mathlib.Decide.{ℕ_discrete}
use native.Mathlib.Omega.{arith}
use lib.IntN.{ℤ, pos}
use lib.Dec.{eqb}
use borrow.Author.Tests.{eq-eqb, ne_eqb}
use Rattle.code.proofs.ChangeLaws.{step_nibble_small}
use Rattle.cells.specs.Chip.{Chip, life_at}
use Rattle.cells.specs.Run.{Run, Write, write, still}
use Rattle.cells.specs.Log.{asked_in, asked_of}
use Rattle.counter.specs.declared.places.Places.{Places}
use Rattle.counter.specs.declared.layout.Layout.{Layout}
use Rattle.counter.specs.Layout.{slots}
use Rattle.counter.specs.Map.{map_in}
use Rattle.counter.specs.Verdict.{ending, ◌ending_in◌, ◌and_then◌, Verdict, Work, read_as, complete}
use Rattle.counter.specs.Store.{slot_code, store}
use Rattle.counter.specs.Doors.{last_count, step_run}
use Rattle.counter.proofs.Ready.{pointers, data_of}
use Rattle.counter.proofs.Moves.{room_of}
use Rattle.counter.proofs.Stores.{changes, changes_same, StoreLaws, store_laws}
use Rattle.counter.proofs.Exact.{Exact, exact_stored, exact_verdict, exact_still}
use Rattle.counter.proofs.GoodVerdicts.{not_good}
use Rattle.counter.proofs.DoorViews.{step_on}
use Rattle.counter.proofs.NextStores.{changed_nibble, step_changed, step_stays}
use Rattle.promises.proofs.StepChanges.{change_step, step_changes}
use Rattle.promises.proofs.Ample.{changed_writes, writes_same, Calm, Alive, calm_store, tally_slot, tally_other}

-- ## The writes of a step

-- the code of the changed nibble, asked of its cell in each of n copies from one on
unfoldable pub step_writes : ℕ → ℕ → (ℕ → ℕ) → ℕ → List Write
step_writes zero copy pointer c = []
step_writes (suc n) copy pointer c = write (pointer (8 * copy + changed_nibble c)) (slot_code (c + 1) (8 * copy + changed_nibble c)) ∷ step_writes n (copy + 1) pointer c

-- slots that do not change are passed over
skip :
    (pointer byte code : ℕ → ℕ) (m n k : ℕ) → ((j : ℕ) → k ≤ j → j < k + m → byte j ≡ code j)
    → changed_writes (m + n) k pointer byte code ≡ changed_writes n (k + m) pointer byte code
unfolding changed_writes
skip pointer byte code zero n k same = rw (zero-add, add-zero)
skip pointer byte code (suc m) n k same =
    let e : suc m + n ≡ suc (m + n) = omega arith in
    let f : k + suc m ≡ k + 1 + m = omega arith in
    rw (e, f, eq-eqb _ _ (same k (omega arith) (omega arith))) (skip pointer byte code m n (k + 1) (λ j l u. same j (omega arith) (omega arith)))

-- a slot that changes is a write, and then the rest
one_write :
    (pointer byte code : ℕ → ℕ) (n k : ℕ) → (byte k ≡ code k → ⊥)
    → changed_writes (suc n) k pointer byte code ≡ write (pointer k) (code k) ∷ changed_writes n (k + 1) pointer byte code
unfolding changed_writes
one_write pointer byte code n k d = rw (ne_eqb _ _ d)

module _ (c : ℕ) (small : c + 1 < 2 ^ 32) (pointer : ℕ → ℕ) where
  abbrev changed : ℕ → ℕ → List Write
  changed n k = changed_writes n k pointer (slot_code c) (slot_code (c + 1))

  -- the slots of a copy before the one that changes, and those behind it
  before : (n copy : ℕ) → changed (8 * suc n) (8 * copy) ≡ changed (suc (7 - changed_nibble c + 8 * n)) (8 * copy + changed_nibble c)
  before n copy =
      let small-nibble = step_nibble_small c small in
      let e : 8 * suc n ≡ changed_nibble c + suc (7 - changed_nibble c + 8 * n) = omega arith in
      ap (λ (m : ℕ). changed m (8 * copy)) e
      ∙ skip pointer (slot_code c) (slot_code (c + 1)) (changed_nibble c) (suc (7 - changed_nibble c + 8 * n)) (8 * copy) (λ j l u. step_stays c small j (λ q. omega arith))

  behind : (n copy : ℕ) → changed (7 - changed_nibble c + 8 * n) (8 * copy + changed_nibble c + 1) ≡ changed (8 * n) (8 * (copy + 1))
  behind n copy =
      let small-nibble = step_nibble_small c small in
      let e : 8 * copy + changed_nibble c + 1 + (7 - changed_nibble c) ≡ 8 * (copy + 1) = omega arith in
      skip pointer (slot_code c) (slot_code (c + 1)) (7 - changed_nibble c) (8 * n) (8 * copy + changed_nibble c + 1) (λ j l u. step_stays c small j (λ q. omega arith))
      ∙ ap (changed (8 * n)) e

  pub step_log : (n copy : ℕ) → changed_writes (8 * n) (8 * copy) pointer (slot_code c) (slot_code (c + 1)) ≡ step_writes n copy pointer c
  unfolding changed_writes step_writes
  step_log zero copy = refl
  step_log (suc n) copy =
      let small-nibble = step_nibble_small c small in
      let here : (8 * copy + changed_nibble c) % 8 ≡ changed_nibble c = omega arith in
      before n copy
      ∙ one_write pointer (slot_code c) (slot_code (c + 1)) (7 - changed_nibble c + 8 * n) (8 * copy + changed_nibble c) (step_changed c small _ here)
      ∙ ap (λ (ws : List Write). write (pointer (8 * copy + changed_nibble c)) (slot_code (c + 1) (8 * copy + changed_nibble c)) ∷ ws) (behind n copy ∙ step_log n (copy + 1))

-- ## A step on an exact chip

-- a call that ends well was done
ending_done : {d : ℕ} {lag : ℤ} (v : Verdict) (w : Work) → ending v w ≡ read_as d lag → w ≡ complete
ending_done v (Ok tt) e = refl
ending_done v (Err why) e = not_good e

-- what it asks of area cells: in any case no more than one write a copy and the room; and, where it is good, what it
-- asks and the room it leaves are no more than that
pub record StepBound (layout : Layout) (p : Places) (s : Chip) : Type 0 where
  pub bounded : asked_in p.start p.end (step_run layout p s).log ≤ layout.copies + room_of layout p s
  pub paid :
      (d : ℕ) (lag : ℤ) → (step_run layout p s).answer ≡ read_as d lag
      → asked_in p.start p.end (step_run layout p s).log + room_of layout p (step_run layout p s).after ≤ layout.copies + room_of layout p s

-- it answers, tries no spare, keeps the map, and writes the cell of the changed nibble in each copy, in order, and no other
pub record StepCalm (layout : Layout) (p : Places) (c : ℕ) (s : Chip) : Type 0 where
  pub answers : (step_run layout p s).answer ≡ read_as (c + 1) (pos 0)
  pub tried : (step_run layout p s).tried ≡ 0
  pub map : map_in layout p (step_run layout p s).after.cells ≡ map_in layout p s.cells
  pub log : (step_run layout p s).log ≡ step_writes layout.copies 0 (pointers layout p s) c
  pub exact : Exact layout p (c + 1) (step_run layout p s).after
  pub tally : (j : ℕ) → j < slots layout → asked_of (pointers layout p s j) (step_run layout p s).log ≡ cond (eqb (j % 8) (changed_nibble c)) 1 0
  pub others : (a : ℕ) → ((j : ℕ) → j < slots layout → pointers layout p s j ≡ a → ⊥) → asked_of a (step_run layout p s).log ≡ 0

module _ {layout : Layout} {p : Places} {c : ℕ} {s : Chip} (one : 1 ≤ layout.copies) (below : c < last_count) (exact : Exact layout p c s) where
  abbrev next : Run Work
  next = store layout p (c + 1) s

  pub step_stores : step_run layout p s ≡ next ending_in read_as (c + 1) (pos 0)
  step_stores =
      step_on layout p s c (pos 0) (exact_verdict exact one (omega arith)) (λ e. omega arith)
      ∙ ap (λ (r : Run Work). (r and_then store layout p (c + 1)) ending_in read_as (c + 1) (pos 0)) (exact_still exact)
      ∙ after
    where
      after : ◌≡◌ {A = Run Verdict} ((still complete s and_then store layout p (c + 1)) ending_in read_as (c + 1) (pos 0)) (store layout p (c + 1) s ending_in read_as (c + 1) (pos 0))
      after = rw zero-add

  laws : StoreLaws layout p (slots layout) 0 (c + 1) s next
  laws = store_laws layout p (c + 1) s exact.ready exact.sound

  cost : changes (slots layout) 0 (data_of layout p s) (slot_code (c + 1)) ≡ layout.copies
  cost = changes_same (slots layout) 0 _ _ (slot_code (c + 1)) (λ j l u. exact.held j (omega arith)) ∙ step_changes c (omega arith) layout

  pub step_bound : StepBound layout p s
  step_bound =
      rw_bound
      (let h = laws.bounded in omega (arith, cost))
      (λ d lag e. let h = (laws.stored (ending_done (read_as (c + 1) (pos 0)) next.answer e)).paid in omega (arith, cost))
    where
      rw_bound :
          asked_in p.start p.end next.log ≤ layout.copies + room_of layout p s
          → ((d : ℕ) (lag : ℤ) → ending (read_as (c + 1) (pos 0)) next.answer ≡ read_as d lag → asked_in p.start p.end next.log + room_of layout p next.after ≤ layout.copies + room_of layout p s)
          → StepBound layout p s
      rw_bound bounded paid = record { bounded = rw step_stores bounded; paid = rw step_stores paid }

  module _ (life : (copy : ℕ) → copy < layout.copies → 1 ≤ life_at s (pointers layout p s (8 * copy + changed_nibble c))) where
    -- the slots that change are those of the changed nibble
    alive : Alive layout p (slots layout) 0 (c + 1) s
    alive j l u d = go (ℕ_discrete (j % 8) (changed_nibble c))
      where
        go : Dec (j % 8 ≡ changed_nibble c) → 1 ≤ life_at s (pointers layout p s j)
        go (yes e) = let q : 8 * (j / 8) + changed_nibble c ≡ j = omega arith in rw q at (life (j / 8) (omega arith))
        go (no n) = absurd (d (exact.held j (omega arith) ∙ step_stays c (omega arith) j n))

    calm : Calm layout p (slots layout) 0 (c + 1) s next
    calm = calm_store layout p (c + 1) s exact.ready exact.sound alive

    -- the log over the codes of the two counts
    log_is : next.log ≡ changed_writes (slots layout) 0 (pointers layout p s) (slot_code c) (slot_code (c + 1))
    log_is = calm.log ∙ writes_same (slots layout) 0 _ _ _ _ (slot_code (c + 1)) (λ j l u. (refl, exact.held j (omega arith)))

    tally_is : (j : ℕ) → j < slots layout → asked_of (pointers layout p s j) next.log ≡ cond (eqb (j % 8) (changed_nibble c)) 1 0
    tally_is j l =
        ap (asked_of (pointers layout p s j)) log_is
        ∙ tally_slot (pointers layout p s) (slot_code c) (slot_code (c + 1)) (slots layout) 0 j (omega arith) (omega arith) (λ i m u d. exact.sound.apart i j (omega arith) l d)
        ∙ change_step c (omega arith) j

    others_are : (a : ℕ) → ((j : ℕ) → j < slots layout → pointers layout p s j ≡ a → ⊥) → asked_of a next.log ≡ 0
    others_are a d = ap (asked_of a) log_is ∙ tally_other (pointers layout p s) (slot_code c) (slot_code (c + 1)) a (slots layout) 0 (λ i m u. d i (omega arith))

    pub step_calm : StepCalm layout p c s
    step_calm =
        record {
          answers = rw step_stores (ap (ending (read_as (c + 1) (pos 0))) calm.done);
          tried = rw step_stores calm.tried;
          map = rw step_stores calm.map;
          log = rw step_stores (log_is ∙ step_log c (omega arith) (pointers layout p s) layout.copies 0);
          exact = rw step_stores (exact_stored exact.ready (c + 1) exact.marks exact.sound calm.done);
          tally = rw step_stores tally_is;
          others = rw step_stores others_are;
        }
