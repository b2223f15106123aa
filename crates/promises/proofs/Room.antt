-- Room is refused exactly where every spare of the kind refuses the byte, and when each has been asked (condition 2; document 01, refusal 8).
--   Spareless, Full           every spare of a slot's kind refuses a byte, and its own cell too
--   all_asked                 what is done for such a slot: its own cell and every spare of its kind are asked
--   Asked                     work that ends so
--   all_asked_lem, asked_then, asked_giving  it holds of that slot, of work behind other work, and with another answer
--   spare_asked, asked_each   every spare is among those asked
--   slot_only                 storing a slot that ends in "no spare" names that slot, and comes to just that
--   slot_roomless             storing a slot ends in "no spare" exactly where its cell and every spare of its kind
--                             have life 0 and another byte
--   take_roomless             so does taking an address for a slot in a first opening, over the addresses taken so far
use Rattle.counter.specs.Verdict.{Work, complete}
use Rattle.std.proofs.Common.{Option, None, Ok, Err}
use Prim.Native.Nat.{ℕ, ◌+◌, ◌≤◌, ◌<◌}
use mathlib.Core.Path.{◌≡◌, refl, sym, ap, ◌∙◌}
use mathlib.Core.Bool.{Bool, true, false, true≢false}
use mathlib.Core.List.{List, [], ◌∷◌, ◌++◌, append-nil, append_assoc}
use mathlib.Core.Logic.{◌⊎◌, inl, inr, ◌↔◌}
use native.Mathlib.Nat.{add-zero, zero-add}
use native.Mathlib.Omega.{arith}
use borrow.Author.Tests.{ne_eqb}
use Rattle.code.specs.Codes.{code_of}
use Rattle.cells.specs.Chip.{Chip, Paired}
use Rattle.cells.specs.Run.{Write, write, Run, run, still, ◌then◌, ◌giving◌}
use Rattle.cells.specs.Put.{put_at}
use Rattle.cells.specs.Log.{asked_of}
use Rattle.cells.proofs.Logs.{asked_append}
use Rattle.cells.proofs.Walks.{asks_each}
use Rattle.cells.proofs.Puts.{Refuses, PutLaws, put_laws}
use Rattle.counter.specs.declared.places.Places.{Places}
use Rattle.counter.specs.declared.spares.Gap.{Gap}
use Rattle.counter.specs.declared.verdict.Refusal.TheVariants.{NoSpare, MapByte}
use Rattle.counter.specs.declared.layout.Layout.{Layout}
use Rattle.counter.specs.Layout.{slots}
use Rattle.counter.specs.Slots.{kind_of}
use Rattle.counter.specs.Spares.{way_of, next_of, spares_of}
use Rattle.counter.specs.Store.{store_slot, move_slot, put_pointer, try_spares}
use Rattle.counter.proofs.Gaps.{Between, between_map, Spare, free_spare, spare_free, free_walked}
use Rattle.counter.proofs.Ready.{pointers, Ready, ready_kept}
use Rattle.counter.proofs.Pointers.{pointer_laws}
use Rattle.counter.proofs.Tries.{asked_spares, Landing, Trying, Trying.missing, Trying.landing, try_laws, try_nowhere}
use Rattle.counter.proofs.Moves.{gap_at, slot_held, slot_refused, move_missing, move_landing}

-- every spare of slot k's kind refuses the byte b
abbrev pub Spareless : Layout → Places → ℕ → ℕ → Chip → Type 0
Spareless layout p k b s = (a : ℕ) → Spare (kind_of k) (slots layout) p (pointers layout p s) a → Refuses a b s

-- and so does its own cell
pub record Full (layout : Layout) (p : Places) (k b : ℕ) (s : Chip) : Type 0 where
  pub cell : Refuses (pointers layout p s k) b s
  pub spares : Spareless layout p k b s

-- the byte asked of slot k's own cell and of every spare of its kind, in order; the spares count as tried, and nothing is changed
abbrev pub all_asked : Layout → Places → ℕ → ℕ → Chip → Run Work
all_asked layout p k b s =
    run
    (Err (NoSpare k))
    (write (pointers layout p s k) b ∷ asked_spares k (gap_at layout p s) b)
    (spares_of (kind_of k) (gap_at layout p s))
    s

-- at the end of the work's log the byte b was asked of slot k's own cell and of every spare of its kind, in order; tried counts at least
-- these spares, and each cell refuses the byte. Cell and spares are those of the map as the work leaves it, since nothing was changed by it
pub record Asked {A : Type 0} (layout : Layout) (p : Places) (k b : ℕ) (r : Run A) : Type 0 where
  -- what was asked before, and the rest of what was tried
  pub earlier : List Write
  pub before : ℕ
  pub log : r.log ≡ earlier ++ (write (pointers layout p r.after k) b ∷ asked_spares k (gap_at layout p r.after) b)
  pub tried : r.tried ≡ before + spares_of (kind_of k) (gap_at layout p r.after)
  pub full : Full layout p k b r.after

module _ {layout : Layout} {p : Places} {k b : ℕ} where
  -- the slot that found no room
  pub all_asked_lem : {s : Chip} → Full layout p k b s → Asked layout p k b (all_asked layout p k b s)
  all_asked_lem full = record { earlier = []; before = 0; log = refl; tried = sym (zero-add _); full = full }

  -- work behind other work
  pub asked_then : {A B : Type 0} (r : Run A) {q : Run B} → Asked layout p k b q → Asked layout p k b (r then q)
  asked_then r x =
      record {
        earlier = r.log ++ x.earlier;
        before = r.tried + x.before;
        log = rw x.log (sym (append_assoc r.log x.earlier _));
        tried = let h = x.tried in omega arith;
        full = x.full;
      }

  -- the same work with another answer
  pub asked_giving : {A B : Type 0} {r : Run A} (y : B) → Asked layout p k b r → Asked layout p k b (r giving y)
  asked_giving y x = record { earlier = x.earlier; before = x.before; log = x.log; tried = x.tried; full = x.full }

-- every spare that pointers leave for slot k, in the document's words, is asked where those that their gap leaves are
pub spare_asked :
    {n : ℕ} {p : Places} {pointer : ℕ → ℕ} {g : Gap} (k a b : ℕ) → Between n p pointer g → Spare (kind_of k) n p pointer a
    → 1 ≤ asked_of a (asked_spares k g b)
spare_asked {g = g} k a b between spare =
    let j = free_walked (kind_of k) g a (spare_free between spare) in
    rw j.2 at (asks_each (spares_of (kind_of k) g) (way_of (kind_of k)) (next_of (kind_of k) g) b j.0 j.1)

-- so work that ends so has asked every spare of the kind
pub asked_each :
    {A : Type 0} {layout : Layout} {p : Places} {k b : ℕ} {r : Run A} → Asked layout p k b r
    → (a : ℕ) → Spare (kind_of k) (slots layout) p (pointers layout p r.after) a → 1 ≤ asked_of a r.log
asked_each {layout = layout} {p = p} {k = k} {b = b} {r = r} x a spare =
    let own = write (pointers layout p r.after k) b in
    let spares = asked_spares k (gap_at layout p r.after) b in
    let h = spare_asked k a b (between_map layout p (pointers layout p r.after)) spare in
    let h₁ = asked_append a a x.earlier (own ∷ spares) in
    let h₂ = asked_append a a (own ∷ []) spares in
    rw x.log (omega arith)

module _ {layout : Layout} {p : Places} {s : Chip} (ready : Ready layout p s) (k : ℕ) (l : k < slots layout) (b : ℕ) where
  between : Between (slots layout) p (pointers layout p s) (gap_at layout p s)
  between = between_map layout p (pointers layout p s)

  -- a pointer that is put does not end so
  mapped_ends : (j : ℕ) (w : Work) → (w ≡ complete) ⊎ ((x : ℕ) × (w ≡ Err (MapByte x))) → w ≡ Err (NoSpare j) → ⊥
  mapped_ends j w (inl d) e = true≢false cc
  mapped_ends j w (inr (x, d)) e = true≢false cc

  landed :
      (m : Landing k (gap_at layout p s) b s)
      → (move_slot layout p k b s).answer ≡ (put_pointer layout p k m.place (try_spares k (gap_at layout p s) b s).after).answer
  landed m = ap (λ (r : Run Work). r.answer) (move_landing layout p k b s m.place m.here)

  -- what a move comes to that ends so
  abbrev missed : Run Work
  missed = run (Err (NoSpare k)) (asked_spares k (gap_at layout p s) b) (spares_of (kind_of k) (gap_at layout p s)) s

  -- a move that ends so names its slot, and has asked every spare of the kind
  move_only : (j : ℕ) → (move_slot layout p k b s).answer ≡ Err (NoSpare j) → (j ≡ k) × (move_slot layout p k b s ≡ missed) × Spareless layout p k b s
  move_only j e = go (try_laws k (gap_at layout p s) b s ready.paired).trying
    where
      go : Trying k (gap_at layout p s) b s → (j ≡ k) × (move_slot layout p k b s ≡ missed) × Spareless layout p k b s
      go (missing m) =
          let q = move_missing layout p k b s m.nowhere in
          let same = sym e ∙ ap (λ (r : Run Work). r.answer) q in
          let comes = q ∙ ap (λ (r : Run (Option ℕ)). r then still (Err (NoSpare k)) r.after) m.comes in
          (cc, rw (comes, append-nil, add-zero), λ a f. m.refused a (spare_free between f))
      go (landing m) = absurd (mapped_ends j _ (pointer_laws (ready_kept ready m.kept) k l m.place).either (sym (landed m) ∙ e))

  move_always : Spareless layout p k b s → (move_slot layout p k b s).answer ≡ Err (NoSpare k)
  move_always f = go (try_laws k (gap_at layout p s) b s ready.paired).trying
    where
      go : Trying k (gap_at layout p s) b s → (move_slot layout p k b s).answer ≡ Err (NoSpare k)
      go (missing m) = ap (λ (r : Run Work). r.answer) (move_missing layout p k b s m.nowhere)
      go (landing m) = absurd (m.takes (f m.place (free_spare between m.free)))

  put : PutLaws (pointers layout p s k) b s
  put = put_laws (pointers layout p s k) b s ready.paired

  -- storing a slot that ends so names that slot, and has asked its own cell and every spare of its kind
  pub slot_only :
      (j : ℕ) → (store_slot layout p k b s).answer ≡ Err (NoSpare j)
      → (j ≡ k) × (store_slot layout p k b s ≡ all_asked layout p k b s) × Full layout p k b s
  slot_only j e = go (put_at (pointers layout p s k) b s).answer refl
    where
      go : (t : Bool) → (put_at (pointers layout p s k) b s).answer ≡ t → (j ≡ k) × (store_slot layout p k b s ≡ all_asked layout p k b s) × Full layout p k b s
      go true h = let q = ap (λ (r : Run Work). r.answer) (slot_held layout p k b s h) in absurd (true≢false cc)
      go false h =
          let q = slot_refused layout p k b s ready.paired h in
          let m = move_only j (sym (ap (λ (r : Run Work). r.answer) q) ∙ e) in
          (m.0, rw (q, m.1, zero-add), record { cell = put.failed h; spares = m.2 })

  pub slot_roomless : ((store_slot layout p k b s).answer ≡ Err (NoSpare k)) ↔ Full layout p k b s
  slot_roomless = (λ e. (slot_only k e).2, always)
    where
      always : Full layout p k b s → (store_slot layout p k b s).answer ≡ Err (NoSpare k)
      always f =
          let failed = put.worn f.cell.worn ∙ ne_eqb _ b f.cell.other in
          ap (λ (q : Run Work). q.answer) (slot_refused layout p k b s ready.paired failed) ∙ move_always f.spares

-- no address is found for slot k exactly where every spare, given the pointers taken so far, refuses the code of 0
pub take_roomless :
    {k : ℕ} {p : Places} {pointer : ℕ → ℕ} {g : Gap} (s : Chip) → Paired s → Between k p pointer g
    → ((try_spares k g (code_of 0) s).answer ≡ None) ↔ ((a : ℕ) → Spare (kind_of k) k p pointer a → Refuses a (code_of 0) s)
take_roomless {k} {p} {pointer} {g} s paired between =
    let both = try_nowhere k g (code_of 0) s paired in
    (λ e a f. both.0 e a (spare_free between f), λ f. both.1 (λ a free. f a (free_spare between free)))
