-- Storing where the cells to be written have life: each is written once, where it is, and nothing else.
--   changed_writes            a write for each slot whose byte is another than it is to be
--   Calm                      storing that is done with just those writes, the map staying as it is
--   calm_from, calm_store     so it goes where those cells have life
--   tally_slot, tally_other   how many of those writes are asked of a slot's cell, and of any other
use Rattle.std.proofs.Common.{Ok}
use Prim.Native.Nat.{ℕ, zero, suc, ◌+◌, ◌≤◌, ◌<◌}
use mathlib.Core.Path.{◌≡◌, refl, sym, ap, ◌∙◌}
use mathlib.Core.Bool.{Bool, true, false, cond}
use mathlib.Core.List.{List, [], ◌∷◌}
use native.Mathlib.Nat.{zero-add, add-zero}
use native.Mathlib.Decide.{ℕ_discrete}
use native.Mathlib.Omega.{arith}
use borrow.Author.Tests.{eq-eqb, ne_eqb}
use lib.Dec.{eqb}
use Rattle.cells.specs.Chip.{Chip, life_at, write_at}
use Rattle.cells.specs.Run.{Run, Write, write, run, still, ◌then◌}
use Rattle.cells.specs.Log.{asked_of}
use Rattle.cells.proofs.Logs.{asked_none, asked_here, asked_elsewhere}
use Rattle.counter.specs.declared.places.Places.{Places}
use Rattle.counter.specs.declared.layout.Layout.{Layout}
use Rattle.counter.specs.Layout.{slots}
use Rattle.counter.specs.Map.{map_in, pointer_of}
use Rattle.counter.specs.Verdict.{◌and_then◌, Work, complete}
use Rattle.counter.specs.Store.{slot_code, store_slot, store_from, store}
use Rattle.counter.proofs.SoundPointers.{Sound}
use Rattle.counter.proofs.Ready.{pointers, data_of, Ready}
use Rattle.counter.proofs.Moves.{change, slot_there}
use Rattle.counter.proofs.WorkSteps.{store_all, store_none, store_next}
use Rattle.promises.proofs.Written.{slot_written, written_map, written_ready, written_sound, written_data, written_life}

-- w in front of ws, where the test does not hold
abbrev pub unless_same : Bool → Write → List Write → List Write
unless_same true w ws = ws
unless_same false w ws = w ∷ ws

-- of the n slots from k on, in order
unfoldable pub changed_writes : ℕ → ℕ → (ℕ → ℕ) → (ℕ → ℕ) → (ℕ → ℕ) → List Write
changed_writes zero k pointer byte code = []
changed_writes (suc n) k pointer byte code = unless_same (eqb (byte k) (code k)) (write (pointer k) (code k)) (changed_writes n (k + 1) pointer byte code)

pub writes_same :
    (n k : ℕ) (f h f' h' code : ℕ → ℕ) → ((j : ℕ) → k ≤ j → j < k + n → (f j ≡ f' j) × (h j ≡ h' j))
    → changed_writes n k f h code ≡ changed_writes n k f' h' code
unfolding changed_writes
writes_same zero k f h f' h' code same = refl
writes_same (suc n) k f h f' h' code same =
    let e = same k (omega arith) (omega arith) in
    rw (e.0, e.1, writes_same n (k + 1) f h f' h' code (λ j l u. same j (omega arith) (omega arith)))

pub record Calm (layout : Layout) (p : Places) (n k c : ℕ) (s : Chip) (r : Run Work) : Type 0 where
  pub done : r.answer ≡ complete
  pub tried : r.tried ≡ 0
  pub map : map_in layout p r.after.cells ≡ map_in layout p s.cells
  pub log : r.log ≡ changed_writes n k (pointers layout p s) (data_of layout p s) (slot_code c)

-- each slot that is to change has life in its cell
abbrev pub Alive : Layout → Places → ℕ → ℕ → ℕ → Chip → Type 0
Alive layout p n k c s = (j : ℕ) → k ≤ j → j < k + n → (data_of layout p s j ≡ slot_code c j → ⊥) → 1 ≤ life_at s (pointers layout p s j)

module _ (layout : Layout) (p : Places) (c : ℕ) where
  -- a slot that holds its byte is passed over
  calm_there :
      (n k : ℕ) (s : Chip) (q : Run Work) → data_of layout p s k ≡ slot_code c k → Calm layout p n (k + 1) c s q
      → Calm layout p (suc n) k c s (still complete s then q)
  unfolding changed_writes
  calm_there n k s q e calm =
      record {
        done = calm.done;
        tried = zero-add _ ∙ calm.tried;
        map = calm.map;
        log = rw (eq-eqb _ _ e) calm.log;
      }

  module _ (n k : ℕ) (s : Chip) (ready : Ready layout p s) (sound : Sound (slots layout) p (pointers layout p s)) (fits : k + suc n ≤ slots layout)
      (other : data_of layout p s k ≡ slot_code c k → ⊥) where
    abbrev a : ℕ
    a = pointers layout p s k

    abbrev t : Chip
    t = write_at a (slot_code c k) s

    inside : k < slots layout
    inside = omega arith

    map_same : map_in layout p t.cells ≡ map_in layout p s.cells
    map_same = written_map ready sound k inside (slot_code c k)

    data_same : (j : ℕ) → j < slots layout → (j ≡ k → ⊥) → data_of layout p t j ≡ data_of layout p s j
    data_same = written_data ready sound k inside (slot_code c k)

    still_alive : Alive layout p (suc n) k c s → Alive layout p n (k + 1) c t
    still_alive h j l u d = rw (written_life ready sound k inside (slot_code c k) j (omega arith) (λ e. omega arith)) (h j (omega arith) (omega arith) (λ e. d (data_same j (omega arith) (λ q. omega arith) ∙ e)))

    -- what the later slots are to write is the same on both chips
    rest_same :
        changed_writes n (k + 1) (pointers layout p t) (data_of layout p t) (slot_code c)
        ≡ changed_writes n (k + 1) (pointers layout p s) (data_of layout p s) (slot_code c)
    rest_same =
        writes_same n (k + 1) _ _ _ _ (slot_code c)
        (λ j l u. (ap (λ (map : List ℕ). pointer_of map j) map_same, data_same j (omega arith) (λ e. omega arith)))

    -- a slot that changes is one write
    calm_taken : (q : Run Work) → Calm layout p n (k + 1) c t q → Calm layout p (suc n) k c s (run complete (write a (slot_code c k) ∷ []) 0 t then q)
    unfolding changed_writes
    calm_taken q calm =
        record {
          done = calm.done;
          tried = zero-add _ ∙ calm.tried;
          map = calm.map ∙ map_same;
          log = rw (ne_eqb _ _ other) (ap (λ (ws : List Write). write a (slot_code c k) ∷ ws) (calm.log ∙ rest_same));
        }

  pub calm_from :
      (n k : ℕ) (s : Chip) → k + n ≤ slots layout → Ready layout p s
      → Sound (slots layout) p (pointers layout p s) → Alive layout p n k c s
      → Calm layout p n k c s (store_from n k layout p c s)
  unfolding changed_writes
  calm_from zero k s fits ready sound alive = rw (store_none layout p c k s) (record { done = refl; tried = refl; map = refl; log = refl })
  calm_from (suc n) k s fits ready sound alive = rw (store_next layout p c n k s) (go (calm_from n (k + 1)) (ℕ_discrete (data_of layout p s k) (slot_code c k)))
    where
      Rest : Type 0
      Rest =
          (s : Chip) → k + 1 + n ≤ slots layout → Ready layout p s
          → Sound (slots layout) p (pointers layout p s) → Alive layout p n (k + 1) c s
          → Calm layout p n (k + 1) c s (store_from n (k + 1) layout p c s)

      go :
          Rest → Dec (data_of layout p s k ≡ slot_code c k)
          → Calm layout p (suc n) k c s (store_slot layout p k (slot_code c k) s and_then store_from n (k + 1) layout p c)
      go rest (yes e) =
          rw (slot_there layout p k (slot_code c k) s e)
          (calm_there n k s _ e (rest s (omega arith) ready sound (λ j l u d. alive j (omega arith) (omega arith) d)))
      go rest (no d) =
          let here : k < slots layout = omega arith in
          let life = alive k (omega arith) (omega arith) d in
          let later =
          rest (write_at (pointers layout p s k) (slot_code c k) s) (omega arith)
          (written_ready ready sound k here (slot_code c k))
          (written_sound ready sound k here (slot_code c k))
          (still_alive n k s ready sound fits d alive) in
          rw (slot_written ready sound k here (slot_code c k) d life) (calm_taken n k s ready sound fits d _ later)

  pub calm_store :
      (s : Chip) → Ready layout p s → Sound (slots layout) p (pointers layout p s)
      → Alive layout p (slots layout) 0 c s → Calm layout p (slots layout) 0 c s (store layout p c s)
  calm_store s ready sound alive = rw (store_all layout p c s) (calm_from (slots layout) 0 s (omega arith) ready sound alive)

-- ## Tallies

module _ (a : ℕ) (w : Write) (ws : List Write) where
  asked_skip : (t : Bool) → (w.at ≡ a → ⊥) → asked_of a (unless_same t w ws) ≡ asked_of a ws
  asked_skip true d = refl
  asked_skip false d = asked_elsewhere a a w ws (λ l u. d (omega arith))

  asked_hit : (t : Bool) → w.at ≡ a → asked_of a (unless_same t w ws) ≡ cond t 0 1 + asked_of a ws
  asked_hit true e = sym (zero-add _)
  asked_hit false e = asked_here a a w ws (omega arith) (omega arith)

module _ (pointer byte code : ℕ → ℕ) where
  -- a cell that is no slot's is asked nothing
  pub tally_other : (a n k : ℕ) → ((i : ℕ) → k ≤ i → i < k + n → pointer i ≡ a → ⊥) → asked_of a (changed_writes n k pointer byte code) ≡ 0
  unfolding changed_writes
  tally_other a zero k d = asked_none a a
  tally_other a (suc n) k d = asked_skip a _ _ (eqb (byte k) (code k)) (d k (omega arith) (omega arith)) ∙ tally_other a n (k + 1) (λ i l u. d i (omega arith) (omega arith))

  -- a slot's cell is asked one write where its byte changes, else none
  pub tally_slot :
      (n k j : ℕ) → k ≤ j → j < k + n
      → ((i : ℕ) → k ≤ i → i < k + n → (i ≡ j → ⊥) → pointer i ≡ pointer j → ⊥)
      → asked_of (pointer j) (changed_writes n k pointer byte code) ≡ change (byte j) (code j)
  unfolding changed_writes
  tally_slot zero k j l u d = absurd (omega arith)
  tally_slot (suc n) k j l u d = go (λ m. tally_slot n (k + 1) j (omega arith) (omega arith) (λ i l u. d i (omega arith) (omega arith))) (ℕ_discrete k j)
    where
      rest : List Write
      rest = changed_writes n (k + 1) pointer byte code

      go :
          (k < j → asked_of (pointer j) rest ≡ change (byte j) (code j)) → Dec (k ≡ j)
          → asked_of (pointer j) (unless_same (eqb (byte k) (code k)) (write (pointer k) (code k)) rest) ≡ change (byte j) (code j)
      go later (yes e) =
          let none = tally_other (pointer j) n (k + 1) (λ i l u. d i (omega arith) (omega arith) (λ q. omega arith)) in
          let hit = asked_hit (pointer j) (write (pointer k) (code k)) rest (eqb (byte k) (code k)) (ap pointer e) in
          hit ∙ ap (λ (x : ℕ). change (byte k) (code k) + x) none ∙ add-zero _ ∙ ap (λ (i : ℕ). change (byte i) (code i)) e
      go later (no n) = asked_skip (pointer j) _ rest (eqb (byte k) (code k)) (d k (omega arith) (omega arith) n) ∙ later (omega arith)
