-- A first opening is stopped for want of room exactly where the turn of a slot comes, and every spare that the addresses taken so
-- far leave for it refuses the code of 0 (condition 2).
--   taken_to, Bare            the addresses taken so far, as pointers; no spare that pointers leave takes the code of 0
--   OpeningFull, opening_roomless
--   SparesAsked               work that ends in asking every spare that pointers leave
--   spares_giving             the same with another answer
--   spares_each               every such spare was asked
--   opening_tried             a first opening that is stopped so ends in asking those that the addresses taken so far leave
use Rattle.std.proofs.Common.{Ok, Err}
use Prim.Native.Nat.{ℕ, zero, suc, ◌+◌, ◌≤◌, ◌<◌}
use mathlib.Core.Path.{◌≡◌, sym, ap, ap₂, ◌∙◌}
use mathlib.Core.Bool.{true≢false}
use mathlib.Core.List.{List, [], ◌++◌, append-nil, append_assoc}
use mathlib.Core.Logic.{◌⊎◌, inl, inr, ◌↔◌}
use native.Mathlib.Nat.{add-zero, zero-add}
use native.Mathlib.Numerals.{add-one}
use native.Mathlib.Omega.{arith}
use lib.ListN.{length, get_or}
use Rattle.code.specs.Codes.{code_of}
use Rattle.cells.specs.Chip.{Chip, Paired}
use Rattle.cells.specs.Run.{Write, Run, run, still, ◌then◌}
use Rattle.cells.proofs.Writes.{kept_paired}
use Rattle.cells.specs.Log.{asked_of}
use Rattle.cells.proofs.Logs.{asked_append, within_kept}
use Rattle.cells.proofs.Puts.{Refuses}
use Rattle.counter.specs.declared.places.Places.{Places}
use Rattle.counter.specs.declared.spares.Gap.{Gap}
use Rattle.counter.specs.declared.verdict.Refusal.TheVariants.{NoSpare}
use Rattle.counter.specs.declared.layout.Layout.{Layout}
use Rattle.counter.specs.Layout.{slots}
use Rattle.counter.specs.Slots.{kind_of}
use Rattle.counter.specs.Spares.{gap, whole_area, narrow, gap_to}
use Rattle.counter.specs.Verdict.{◌and_then◌, Work, complete}
use Rattle.counter.specs.Store.{try_spares}
use Rattle.counter.specs.Opening.{Taken, taken, take_from, put_pointers, put_mark, first_opening}
use Rattle.counter.proofs.Gaps.{Between, between_none, between_more, between_gap, between_unique, Spare, spare_free}
use Rattle.counter.proofs.Ready.{Ready, ready_kept}
use Rattle.counter.proofs.Tries.{asked_spares, Missing, Landing, Trying, Trying.missing, Trying.landing, try_laws}
use Rattle.counter.proofs.Moves.{not_done}
use Rattle.counter.proofs.Takes.{TakeLaws, take_landing, take_missing, take_laws}
use Rattle.counter.proofs.WorkSteps.{take_none, opening_on, opening_ends}
use Rattle.counter.proofs.Openings.{MapEnded, MapEnded.put, MapEnded.failed, map_laws}
use Rattle.promises.proofs.Room.{spare_asked, take_roomless}

-- the addresses that the slots before k take in a first opening, as pointers
abbrev pub taken_to : Places → Chip → ℕ → ℕ → ℕ
taken_to p s k j = get_or (take_from k 0 (whole_area p) s).answer.addresses j 0

-- every spare that the pointers of the slots before k leave for slot k refuses the code of 0
abbrev pub Bare : ℕ → Places → (ℕ → ℕ) → Chip → Type 0
Bare k p pointer s = (a : ℕ) → Spare (kind_of k) k p pointer a → Refuses a (code_of 0) s

-- the slots before k took their addresses, and then every spare that these leave for slot k refuses the code of 0
pub record OpeningFull (layout : Layout) (p : Places) (k : ℕ) (s : Chip) : Type 0 where
  pub inside : k < slots layout
  pub before : (take_from k 0 (whole_area p) s).answer.work ≡ complete
  pub full : Bare k p (taken_to p s k) (take_from k 0 (whole_area p) s).after

-- at the end of the work's log the code of 0 was asked of every spare that the pointers of the slots before k leave for slot k, in
-- order; each refuses it
pub record SparesAsked {A : Type 0} (p : Places) (k : ℕ) (pointer : ℕ → ℕ) (r : Run A) : Type 0 where
  -- what was asked before
  pub earlier : List Write
  pub log : r.log ≡ earlier ++ asked_spares k (gap_to k p pointer) (code_of 0)
  pub bare : Bare k p pointer r.after

-- the same work, with another answer and count of spares
pub spares_giving :
    {A B : Type 0} {p : Places} {k : ℕ} {pointer : ℕ → ℕ} {r : Run A} (y : B) (tried : ℕ) → SparesAsked p k pointer r
    → SparesAsked p k pointer (run y r.log tried r.after)
spares_giving y tried x = record { earlier = x.earlier; log = x.log; bare = x.bare }

-- so every such spare was asked
pub spares_each :
    {A : Type 0} {p : Places} {k : ℕ} {pointer : ℕ → ℕ} {r : Run A} → SparesAsked p k pointer r
    → (a : ℕ) → Spare (kind_of k) k p pointer a → 1 ≤ asked_of a r.log
spares_each {p = p} {k = k} {pointer = pointer} x a spare =
    let h = spare_asked k a (code_of 0) (between_gap k p pointer) spare in
    let h₁ = asked_append a a x.earlier (asked_spares k (gap_to k p pointer) (code_of 0)) in
    rw x.log (omega arith)

-- work behind other work
spares_then :
    {A B : Type 0} {p : Places} {k : ℕ} {pointer : ℕ → ℕ} (r : Run A) {q : Run B} → SparesAsked p k pointer q
    → SparesAsked p k pointer (r then q)
spares_then r x = record { earlier = r.log ++ x.earlier; log = rw x.log (sym (append_assoc r.log x.earlier _)); bare = x.bare }

-- pointers from slot k on that are these addresses
abbrev Listed : ℕ → List ℕ → (ℕ → ℕ) → Type 0
Listed k addresses pointer = (j : ℕ) → j < length addresses → pointer (k + j) ≡ get_or addresses j 0

take_always :
    (i m k : ℕ) (g : Gap) (s : Chip) (p : Places) (pointer : ℕ → ℕ) → i < m → Paired s
    → (take_from i k g s).answer.work ≡ complete
    → Listed k (take_from i k g s).answer.addresses pointer
    → Between k p pointer g
    → Bare (k + i) p pointer (take_from i k g s).after
    → (take_from m k g s).answer.work ≡ Err (NoSpare (k + i))
take_always i zero k g s p pointer l paired e at between bare = absurd (omega arith)
take_always zero (suc m) k g s p pointer l paired e at between bare =
    let here : Bare k p pointer s = rw (take_none k g s, add-zero) at bare in
    ap (λ (r : Run Taken). r.answer.work) (take_missing m k g s ((take_roomless s paired between).1 here)) ∙ ap (λ (j : ℕ). Err (NoSpare j)) (sym (add-zero k))
take_always (suc i) (suc m) k g s p pointer l paired e at between bare = go (take_always i m (k + 1)) (try_laws k g (code_of 0) s paired).trying
  where
    Later : Type 0
    Later =
        (g : Gap) (s : Chip) (p : Places) (pointer : ℕ → ℕ) → i < m → Paired s
        → (take_from i (k + 1) g s).answer.work ≡ complete
        → Listed (k + 1) (take_from i (k + 1) g s).answer.addresses pointer
        → Between (k + 1) p pointer g
        → Bare (k + 1 + i) p pointer (take_from i (k + 1) g s).after
        → (take_from m (k + 1) g s).answer.work ≡ Err (NoSpare (k + 1 + i))

    go : Later → Trying k g (code_of 0) s → (take_from (suc m) k g s).answer.work ≡ Err (NoSpare (k + suc i))
    go later (missing t) = not_done (sym (ap (λ (r : Run Taken). r.answer.work) (take_missing i k g s t.nowhere)) ∙ e)
    go later (landing t) =
        let early = take_landing i k g s t.place t.here in
        let moved : k + 1 + i ≡ k + suc i = omega arith in
        let at' : (j : ℕ) → j < length (take_from (suc i) k g s).answer.addresses → pointer (k + j) ≡ get_or (take_from (suc i) k g s).answer.addresses j 0 = at in
        let held = rw early at at' in
        let here = rw (← moved) at (rw early at bare) in
        ap (λ (r : Run Taken). r.answer.work) (take_landing m k g s t.place t.here)
        ∙ later (narrow (kind_of k) t.place g) (try_spares k g (code_of 0) s).after p pointer (omega arith) (kept_paired t.kept paired)
        (sym (ap (λ (r : Run Taken). r.answer.work) early) ∙ e)
        (λ j l. let q : k + 1 + j ≡ k + suc j = omega arith in rw q (held (suc j) (omega arith)))
        (rw add-one (between_more between t.place (rw add-zero at (held 0 (omega arith)))))
        here
        ∙ ap (λ (j : ℕ). Err (NoSpare j)) moved

-- spares that are tried and found to miss were asked, and that is the end
spares_missed :
    {p : Places} {k : ℕ} {pointer : ℕ → ℕ} {g : Gap} {s : Chip} → Between k p pointer g → Missing k g (code_of 0) s
    → SparesAsked p k pointer (try_spares k g (code_of 0) s then still (taken (Err (NoSpare k)) []) (try_spares k g (code_of 0) s).after)
spares_missed {p} {k} {pointer} {g} {s} between m =
    let same = between_unique between (between_gap k p pointer) in
    let left : g ≡ gap_to k p pointer = ap₂ gap same.0 same.1 in
    record {
      earlier = [];
      log = rw (append-nil, m.comes, left);
      bare = rw m.same (λ a f. m.refused a (spare_free between f));
    }

-- where a taking ended so: the slots before it took their addresses, and then it asked every spare that they leave and changed nothing
record TakeStop (n k j : ℕ) (g : Gap) (s : Chip) : Type 0 where
  many : ℕ
  slot : j ≡ k + many
  inside : many < n
  before : (take_from many k g s).answer.work ≡ complete
  after : (take_from n k g s).after ≡ (take_from many k g s).after
  asked : (p : Places) (pointer : ℕ → ℕ) → Listed k (take_from many k g s).answer.addresses pointer → Between k p pointer g → SparesAsked p j pointer (take_from n k g s)

take_only : (n k : ℕ) (g : Gap) (s : Chip) (j : ℕ) → Paired s → (take_from n k g s).answer.work ≡ Err (NoSpare j) → TakeStop n k j g s
take_only zero k g s j paired e = not_done (sym e ∙ ap (λ (r : Run Taken). r.answer.work) (take_none k g s))
take_only (suc n) k g s j paired e = go (take_only n (k + 1)) (try_laws k g (code_of 0) s paired).trying
  where
    Later : Type 0
    Later = (g : Gap) (s : Chip) (j : ℕ) → Paired s → (take_from n (k + 1) g s).answer.work ≡ Err (NoSpare j) → TakeStop n (k + 1) j g s

    -- it ended at a later slot
    there :
        (t : Landing k g (code_of 0) s)
        → TakeStop n (k + 1) j (narrow (kind_of k) t.place g) (try_spares k g (code_of 0) s).after
        → TakeStop (suc n) k j g s
    there t x =
        let early = take_landing x.many k g s t.place t.here in
        let all = take_landing n k g s t.place t.here in
        record {
          many = suc x.many;
          slot = let h = x.slot in omega arith;
          inside = let h = x.inside in omega arith;
          before = ap (λ (r : Run Taken). r.answer.work) early ∙ x.before;
          after = ap (λ (r : Run Taken). r.after) all ∙ x.after ∙ sym (ap (λ (r : Run Taken). r.after) early);
          asked = rw (early, all)
              (λ p pointer at between.
              spares_then (try_spares k g (code_of 0) s) (spares_giving _ _ (x.asked p pointer
              (λ i l. let q : k + 1 + i ≡ k + suc i = omega arith in rw q (at (suc i) (omega arith)))
              (rw add-one (between_more between t.place (rw add-zero at (at 0 (omega arith))))))));
        }

    go : Later → Trying k g (code_of 0) s → TakeStop (suc n) k j g s
    go later (missing t) =
        let none = take_none k g s in
        let all = take_missing n k g s t.nowhere in
        let same : j ≡ k = (let q = sym e ∙ ap (λ (r : Run Taken). r.answer.work) all in cc) in
        record {
          many = 0;
          slot = same ∙ sym (add-zero k);
          inside = omega arith;
          before = ap (λ (r : Run Taken). r.answer.work) none;
          after = ap (λ (r : Run Taken). r.after) all ∙ t.same ∙ sym (ap (λ (r : Run Taken). r.after) none);
          asked = rw (none, same, all) (λ p pointer at between. spares_missed between t);
        }
    go later (landing t) =
        there t (later (narrow (kind_of k) t.place g) (try_spares k g (code_of 0) s).after j (kept_paired t.kept paired) (sym (ap (λ (r : Run Taken). r.answer.work) (take_landing n k g s t.place t.here)) ∙ e))

module _ {layout : Layout} {p : Places} {s : Chip} (ready : Ready layout p s) where
  abbrev taking : Run Taken
  taking = take_from (slots layout) 0 (whole_area p) s

  abbrev mapping : Chip → Run Work
  mapping t = put_pointers taking.answer.addresses 0 layout p t and_then put_mark layout p

  takes : TakeLaws (slots layout) 0 (whole_area p) s taking
  takes = take_laws (slots layout) 0 (whole_area p) s ready.paired

  -- an opening that found no spare ended its taking so
  opening_taking : (j : ℕ) → (first_opening layout p s).answer ≡ Err (NoSpare j) → taking.answer.work ≡ Err (NoSpare j)
  opening_taking j e = go takes.either
    where
      mapped_out : MapEnded (mapping taking.after).answer → (mapping taking.after).answer ≡ Err (NoSpare j) → ⊥
      mapped_out (put d) q = true≢false cc
      mapped_out (failed a d) q = true≢false cc

      go : (taking.answer.work ≡ complete) ⊎ ((i : ℕ) × (taking.answer.work ≡ Err (NoSpare i))) → taking.answer.work ≡ Err (NoSpare j)
      go (inl d) =
          let maps = map_laws (ready_kept ready (within_kept takes.within)) taking.answer.addresses (takes.all d).many in
          absurd (mapped_out maps.ended (sym (ap (λ (w : Run Work). w.answer) (opening_on layout p s d)) ∙ e))
      go (inr (i, d)) = sym (ap (λ (w : Run Work). w.answer) (opening_ends layout p s d)) ∙ e

  module _ (k : ℕ) where
    -- where the taking ended
    opening_stop : (first_opening layout p s).answer ≡ Err (NoSpare k) → TakeStop (slots layout) 0 k (whole_area p) s
    opening_stop e = take_only (slots layout) 0 (whole_area p) s k ready.paired (opening_taking k e)

    -- and what it asked there
    stop_asked : (x : TakeStop (slots layout) 0 k (whole_area p) s) → SparesAsked p k (taken_to p s x.many) taking
    stop_asked x = x.asked p (taken_to p s x.many) (λ i l. ap (taken_to p s x.many) (zero-add i)) (between_none p (taken_to p s x.many))

    pub opening_roomless : ((first_opening layout p s).answer ≡ Err (NoSpare k)) ↔ OpeningFull layout p k s
    opening_roomless = (only, always)
      where
        only : (first_opening layout p s).answer ≡ Err (NoSpare k) → OpeningFull layout p k s
        only e =
            let x = opening_stop e in
            let same : x.many ≡ k = sym (x.slot ∙ zero-add x.many) in
            record {
              inside = rw (← same) x.inside;
              before = rw same at x.before;
              full = rw same at (rw x.after at (stop_asked x).bare);
            }

        always : OpeningFull layout p k s → (first_opening layout p s).answer ≡ Err (NoSpare k)
        always f =
            let same = zero-add k in
            let stops =
            take_always k (slots layout) 0 (whole_area p) s p (taken_to p s k) f.inside ready.paired f.before (λ j l. ap (taken_to p s k) (zero-add j)) (between_none p (taken_to p s k)) (rw same f.full)
            ∙ ap (λ (j : ℕ). Err (NoSpare j)) same in
            ap (λ (r : Run Work). r.answer) (opening_ends layout p s stops) ∙ stops

    -- a first opening that is stopped so ends in asking every spare that the addresses taken so far leave
    pub opening_tried : (first_opening layout p s).answer ≡ Err (NoSpare k) → SparesAsked p k (taken_to p s k) (first_opening layout p s)
    opening_tried e =
        let x = opening_stop e in
        let same : x.many ≡ k = sym (x.slot ∙ zero-add x.many) in
        rw (opening_ends layout p s (opening_taking k e)) (spares_giving _ _ (rw same at (stop_asked x)))
