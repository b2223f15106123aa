-- Addresses taken where every cell has life: each slot takes the next address, which is written once unless it reads 80.
--   highs                     how many of the slots below k are High
--   Roomy, roomy_whole        a gap has room for the n slots from k on; the whole area has it for all
--   LiveGap                   every cell of a gap has life
--   Unwritten                 none reads 80
--   CalmTake, calm_take       the taking is done, no cell asked more than one write and, where none reads 80, each address just one
use Rattle.counter.specs.Verdict.{complete}
use Rattle.std.proofs.Common.{Option, Some, Ok}
use Prim.Native.Nat.{ℕ, zero, suc, ◌+◌, ◌-◌, ◌*◌, ◌/◌, ◌%◌, ◌≤◌, ◌<◌}
use mathlib.Core.Path.{◌≡◌, refl, sym, ap, ◌∙◌}
use mathlib.Core.Bool.{Bool}
use mathlib.Core.List.{◌∷◌, ◌++◌}
use native.Mathlib.Decide.{dec_lt}
use native.Mathlib.Omega.{arith}
use lib.ListN.{get_or}
use Rattle.code.specs.Codes.{code_of}
use Rattle.cells.specs.Chip.{Chip, cell_at, life_at, Paired}
use Rattle.cells.specs.Run.{Run, write, run, ◌then◌, ◌giving◌}
use Rattle.cells.specs.Log.{asked_of}
use Rattle.cells.specs.Put.{put_at}
use Rattle.cells.proofs.Writes.{kept_paired}
use Rattle.cells.proofs.Logs.{asked_here, asked_elsewhere}
use Rattle.cells.proofs.Puts.{PutLaws, put_laws}
use Rattle.counter.specs.declared.map.Kind.{Kind}
use Rattle.counter.specs.declared.places.Places.{Places}
use Rattle.counter.specs.declared.spares.Gap.{Gap}
use Rattle.counter.specs.Slots.{kind_of}
use Rattle.counter.specs.Spares.{whole_area, narrow, next_of, spares_of}
use Rattle.counter.specs.Store.{try_spares}
use Rattle.counter.specs.Opening.{Taken, taken, take_from}
use Rattle.cells.proofs.AskedOnce.{Once, once_none, once_append, once_put, asked_outside}
use Rattle.counter.specs.declared.layout.Layout.{Layout}
use Rattle.counter.specs.Layout.{slots}
use Rattle.counter.proofs.Settings.{Placed}
use Rattle.counter.proofs.Gaps.{Free}
use Rattle.counter.proofs.Takes.{InGap, TakeLaws, narrow_inside, narrow_other, take_landing, take_laws}
use Rattle.counter.specs.Inside.{Next}
use Rattle.counter.proofs.NextSpares.{next_free, low_next, high_next, spares_alive}
use Rattle.counter.proofs.WorkSteps.{whole_gap, take_none}

abbrev pub highs : ℕ → ℕ
highs k = 5 * (k / 8) + (k % 8 - 3)

-- a cell for each slot, and for each High one a cell up to 255
pub record Roomy (n k : ℕ) (g : Gap) : Type 0 where
  pub cells : g.high + n ≤ g.low
  pub reach : g.high + highs (k + n) ≤ 256 + highs k

pub roomy_whole : {layout : Layout} {n : ℕ} {p : Places} → Placed layout n p → Roomy (slots layout) 0 (whole_area p)
roomy_whole {layout} {n} {p} placed = rw (whole_gap p) (record { cells = placed.large; reach = let h = placed.start_low in let h' = placed.start_reaches in omega arith })

-- the next address of a kind is free, and what it leaves has room for the other slots
pub record NextFree (kind : Kind) (n k : ℕ) (g : Gap) : Type 0 where
  pub some : 1 ≤ spares_of kind g
  pub free : Free kind g (next_of kind g)
  pub roomy : Roomy n (k + 1) (narrow kind (next_of kind g) g)

module _ (n k : ℕ) (g : Gap) (room : Roomy (suc n) k g) where
  next_roomy : {a : ℕ} {left : Gap} → Next (kind_of k) g a left → Roomy n (k + 1) left → NextFree (kind_of k) n k g
  next_roomy next roomy =
      let some = next.some in
      record { some = omega arith; free = next_free (kind_of k) g some; roomy = rw (← next.here, ← next.leaves) roomy }

  next_is_free : NextFree (kind_of k) n k g
  next_is_free = go (dec_lt (k % 8) 3)
    where
      sum : k + 1 + n ≡ k + suc n
      sum = omega arith

      go : Dec (k % 8 < 3) → NextFree (kind_of k) n k g
      go (yes l) =
          let cells = room.cells in
          let reach = room.reach in
          next_roomy (low_next g k l (omega arith)) (record { cells = omega arith; reach = rw sum (omega arith) })
      go (no l) =
          let cells = room.cells in
          let reach = room.reach in
          next_roomy (high_next g k (omega arith) (omega arith) (omega arith)) (record { cells = omega arith; reach = rw sum (omega arith) })

pub record LiveGap (g : Gap) (s : Chip) : Type 0 where
  pub paired : Paired s
  pub alive : (a : ℕ) → InGap g a → 1 ≤ life_at s a

abbrev pub Unwritten : Gap → Chip → Type 0
Unwritten g s = (a : ℕ) → InGap g a → cell_at s a ≡ code_of 0 → ⊥

pub record CalmTake (n : ℕ) (g : Gap) (s : Chip) (r : Run Taken) : Type 0 where
  pub done : r.answer.work ≡ complete
  pub asked : Unwritten g s → (j : ℕ) → j < n → asked_of (get_or r.answer.addresses j 0) r.log ≡ 1
  pub once : Once r.log

module _ (n k : ℕ) (g : Gap) (s : Chip) (live : LiveGap g s) (next : NextFree (kind_of k) n k g) where
  -- the address that slot k takes, the gap that it leaves, and the put there
  abbrev a : ℕ
  a = next_of (kind_of k) g

  abbrev left : Gap
  left = narrow (kind_of k) a g

  abbrev first : Run Bool
  first = put_at a (code_of 0) s

  in_gap : InGap g a
  in_gap = record { from = next.free.from; to = next.free.to }

  spares_are : try_spares k g (code_of 0) s ≡ run (Some a) first.log 1 first.after
  spares_are = let some = next.some in spares_alive k g (code_of 0) s (omega arith) live.paired (live.alive a in_gap)

  put : PutLaws a (code_of 0) s
  put = put_laws a (code_of 0) s live.paired

  -- the cells of the gap that is left are other ones
  left_apart : (c : ℕ) → InGap left c → c ≡ a → ⊥
  left_apart c i e = narrow_other (kind_of k) g a (rw e at i)

  left_inside : (c : ℕ) → InGap left c → InGap g c
  left_inside c i = narrow_inside (kind_of k) g a c next.free i

  left_live : LiveGap left first.after
  left_live =
      record {
        paired = kept_paired put.kept live.paired;
        alive = λ c i. rw (put.kept.life c (left_apart c i)) (live.alive c (left_inside c i));
      }

  left_unwritten : Unwritten g s → Unwritten left first.after
  left_unwritten other c i e = other c (left_inside c i) (sym (put.kept.cell c (left_apart c i)) ∙ e)

  abbrev rest : Run Taken
  rest = take_from n (k + 1) left first.after

  take_is : take_from (suc n) k g s ≡ run (Some a) first.log 1 first.after then (rest giving taken rest.answer.work (a ∷ rest.answer.addresses))
  take_is = take_landing n k g s a (ap (λ (r : Run (Option ℕ)). r.answer) spares_are) ∙ rw spares_are

  module _ (calm : CalmTake n left first.after rest) where
    takes : TakeLaws n (k + 1) left first.after rest
    takes = take_laws n (k + 1) left first.after left_live.paired

    -- the rest is asked of other cells
    asked_more : Unwritten g s → (j : ℕ) → j < suc n → asked_of (get_or (a ∷ rest.answer.addresses) j 0) (first.log ++ rest.log) ≡ 1
    asked_more other j l =
        let writes = ap (λ (r : Run Bool). r.log) (put.taken (other a in_gap) (live.alive a in_gap)) in
        rw writes (go j l)
      where
        go : (j : ℕ) → j < suc n → asked_of (get_or (a ∷ rest.answer.addresses) j 0) (write a (code_of 0) ∷ rest.log) ≡ 1
        go zero l = asked_here a a _ rest.log (omega arith) (omega arith) ∙ ap (λ (x : ℕ). 1 + x) (asked_outside a takes.within.places (narrow_other (kind_of k) g a))
        go (suc j) l =
            let c = get_or rest.answer.addresses j 0 in
            let i : InGap left c = (takes.all calm.done).inside j (omega arith) in
            asked_elsewhere c c _ rest.log (λ from to. left_apart c i (omega arith)) ∙ calm.asked (left_unwritten other) j (omega arith)

    more_calm : CalmTake (suc n) g s (take_from (suc n) k g s)
    more_calm =
        rw take_is
        (record {
          done = calm.done;
          asked = asked_more;
          once = once_append put.within.places takes.within.places (λ c e i. left_apart c i e) (once_put a (code_of 0) s) calm.once;
        })

pub calm_take : (n k : ℕ) (g : Gap) (s : Chip) → Roomy n k g → LiveGap g s → CalmTake n g s (take_from n k g s)
calm_take zero k g s room live = rw (take_none k g s) (record { done = refl; asked = λ other j l. absurd (omega arith); once = once_none })
calm_take (suc n) k g s room live =
    let next = next_is_free n k g room in
    more_calm n k g s live next (calm_take n (k + 1) _ _ next.roomy (left_live n k g s live next))
