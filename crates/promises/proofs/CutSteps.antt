-- A clean step, cut in its write to one of the copies (document 02, P6), over any number of copies.
--   changed_slot              the slot that a step changes in a copy
--   Clean                     a chip on which a step is clean
--   StepCell                  the cells that it writes
--   Torn                      what a step leaves that was cut in its write to a copy
--   CutStep, cut_step         so ends a step with power for fewer writes than there are copies
--   torn_life, torn_stays     the cells of the changed nibble have life then, and the other slots hold their codes
--   Reopens, torn_reopens     what open makes of it, where it reads as the count before the step or after it
use Rattle.std.proofs.Common.{Ok}
use Prim.Native.Nat.{ℕ, zero, suc, ◌+◌, ◌-◌, ◌*◌, ◌/◌, ◌%◌, ◌^◌, ◌≤◌, ◌<◌}
use mathlib.Core.Path.{◌≡◌, refl, sym, ap, ◌∙◌}
use mathlib.Core.Bool.{true}
use mathlib.Core.List.{List}
use mathlib.Core.Logic.{◌⊎◌, inl, inr}
use native.Mathlib.Nat.{zero-add, add-zero}
use native.Mathlib.Decide.{ℕ_discrete, dec_le}
use native.Mathlib.Omega.{arith}
use lib.IntN.{ℤ, pos}
use lib.ListN.{length}
use Rattle.code.proofs.ChangeLaws.{step_nibble_small}
use Rattle.cells.specs.Chip.{Chip, cell_at, life_at, write_at, Kept}
use Rattle.cells.specs.Run.{Write, write, Seen, view}
use Rattle.cells.specs.Cut.{Cut, Cut.lost, tear, cut}
use Rattle.cells.proofs.Writes.{kept_same, kept_then, kept_wider, write_laws}
use Rattle.cells.proofs.CutLogs.{tear_here, tear_later}
use Rattle.counter.specs.declared.places.Places.{Places}
use Rattle.counter.specs.declared.layout.Layout.{Layout}
use Rattle.counter.specs.Layout.{slots}
use Rattle.counter.specs.Map.{map_in, marked, pointer_of}
use Rattle.counter.specs.Reading.{verdict_of}
use Rattle.counter.specs.Verdict.{answer, outcome_of, ending, read_as}
use Rattle.counter.specs.Store.{slot_code, store}
use Rattle.counter.specs.Doors.{last_count, open_run, step_run, open_of}
use Rattle.counter.specs.Trials.{cut_outcome, trial_step_of}
use Rattle.counter.proofs.SoundPointers.{Sound}
use Rattle.counter.proofs.Ready.{pointers, data_of, Ready, ready_kept, inside_cell}
use Rattle.counter.proofs.Exact.{Exact, exact_stored}
use Rattle.counter.proofs.DoorViews.{chip_verdict_lem, open_on}
use Rattle.counter.proofs.DoorAnswers.{good_says, open_is, trial_step_is}
use Rattle.counter.proofs.NextStores.{changed_nibble, step_stays}
use Rattle.promises.proofs.Written.{written_map, written_data}
use Rattle.promises.proofs.Ample.{Calm, Alive, calm_store}
use Rattle.promises.proofs.ExactSteps.{step_writes, StepCalm, step_calm}

-- ## What is claimed

abbrev pub changed_slot : ℕ → ℕ → ℕ
changed_slot c copy = 8 * copy + changed_nibble c

-- it holds c exactly, c is not the last count, and the cells that the step is to write have life for two writes each: the
-- step's own, and another where that one is torn
pub record Clean (layout : Layout) (p : Places) (c : ℕ) (s : Chip) : Type 0 where
  pub exact : Exact layout p c s
  pub below : c < last_count
  pub life : (copy : ℕ) → copy < layout.copies → 2 ≤ life_at s (pointers layout p s (changed_slot c copy))

-- the cell is that of a slot that the step changes in the first n copies
abbrev pub StepCell : Layout → Places → ℕ → ℕ → Chip → ℕ → Type 0
StepCell layout p c n s a = (copy : ℕ) × (copy < n) × (a ≡ pointers layout p s (changed_slot c copy))

-- from s, which held c, to t: the copies before copy i hold c + 1, it and those behind it hold c, but for the one cell in it
-- that holds the torn byte
pub record Torn (layout : Layout) (p : Places) (c i b : ℕ) (s t : Chip) : Type 0 where
  pub map : map_in layout p t.cells ≡ map_in layout p s.cells
  pub ready : Ready layout p t
  pub marks : marked (map_in layout p t.cells) ≡ true
  pub sound : Sound (slots layout) p (pointers layout p t)
  pub before : (k : ℕ) → k < 8 * i → data_of layout p t k ≡ slot_code (c + 1) k
  pub torn : data_of layout p t (changed_slot c i) ≡ b
  pub behind : (k : ℕ) → 8 * i ≤ k → k < slots layout → (k ≡ changed_slot c i → ⊥) → data_of layout p t k ≡ slot_code c k
  -- each cell written has lost one good write, and nothing else has changed
  pub life : (copy : ℕ) → copy < i + 1 → life_at t (pointers layout p s (changed_slot c copy)) ≡ life_at s (pointers layout p s (changed_slot c copy)) - 1
  pub kept : Kept (StepCell layout p c (i + 1) s) s t

-- refusal 11, its place the cell of the torn write
pub record CutStep (layout : Layout) (p : Places) (c i b : ℕ) (s : Chip) : Type 0 where
  pub says : (trial_step_of layout p i b s).says ≡ answer 11 0 (pos 0) (pointers layout p s (changed_slot c i)) 0 0
  pub leaves : Torn layout p c i b s (trial_step_of layout p i b s).leaves

-- open answers d with that lag, moves nothing, and leaves d in all copies
pub record Reopens (layout : Layout) (p : Places) (d : ℕ) (lag : ℤ) (t : Chip) : Type 0 where
  pub says : (open_of layout p t).says ≡ answer 0 d lag 0 (open_of layout p t).says.writes 0
  pub map : map_in layout p (open_of layout p t).leaves.cells ≡ map_in layout p t.cells
  pub exact : Exact layout p d (open_of layout p t).leaves

-- ## Write by write

module _ {layout : Layout} {p : Places} {c : ℕ} {s : Chip} (clean : Clean layout p c s) where
  small : c + 1 < 2 ^ 32
  small = let h = clean.below in omega arith

  low : changed_nibble c < 8
  low = step_nibble_small c small

  -- from s to u: the writes to the first n copies are made
  record Stepped (n : ℕ) (u : Chip) : Type 0 where
    map : map_in layout p u.cells ≡ map_in layout p s.cells
    before : (k : ℕ) → k < 8 * n → data_of layout p u k ≡ slot_code (c + 1) k
    behind : (k : ℕ) → 8 * n ≤ k → k < slots layout → data_of layout p u k ≡ slot_code c k
    life : (copy : ℕ) → copy < n → life_at u (pointers layout p s (changed_slot c copy)) ≡ life_at s (pointers layout p s (changed_slot c copy)) - 1
    kept : Kept (StepCell layout p c n s) s u

  none_stepped : Stepped 0 s
  none_stepped = record { map = refl; before = λ k l. absurd (omega arith); behind = λ k l u. clean.exact.held k u; life = λ copy l. absurd (omega arith); kept = kept_same s }

  -- a byte written to the next copy
  module _ (n : ℕ) (inside : n < layout.copies) (b : ℕ) (u : Chip) (stepped : Stepped n u) where
    abbrev k : ℕ
    k = changed_slot c n

    abbrev a : ℕ
    a = pointers layout p s k

    abbrev t : Chip
    t = write_at a b u

    here : k < slots layout
    here = let h = low in omega arith

    ready : Ready layout p u
    ready = ready_kept clean.exact.ready stepped.kept

    sound : Sound (slots layout) p (pointers layout p u)
    sound = rw stepped.map clean.exact.sound

    pointer_same : pointers layout p u k ≡ a
    pointer_same = ap (λ (map : List ℕ). pointer_of map k) stepped.map

    map_same : map_in layout p t.cells ≡ map_in layout p s.cells
    map_same = ap (λ (q : ℕ). map_in layout p (write_at q b u).cells) (sym pointer_same) ∙ written_map ready sound k here b ∙ stepped.map

    data_same : (j : ℕ) → j < slots layout → (j ≡ k → ⊥) → data_of layout p t j ≡ data_of layout p u j
    data_same j l d = ap (λ (q : ℕ). data_of layout p (write_at q b u) j) (sym pointer_same) ∙ written_data ready sound k here b j l d

    untouched : StepCell layout p c n s a → ⊥
    untouched (copy, l, e) = let h = low in clean.exact.sound.apart k (changed_slot c copy) here (omega arith) (λ q. omega arith) e

    life_before : life_at u a ≡ life_at s a
    life_before = stepped.kept.life a untouched

    data_here : data_of layout p t k ≡ b
    data_here =
        let h = clean.life n inside in
        ap (λ (map : List ℕ). cell_at t (pointer_of map k)) map_same
        ∙ (write_laws a b u).stored (omega (arith, life_before)) (inside_cell ready (rw pointer_same at (sound.inside k here)))

    life_after : (copy : ℕ) → copy < n + 1 → life_at t (pointers layout p s (changed_slot c copy)) ≡ life_at s (pointers layout p s (changed_slot c copy)) - 1
    life_after copy l = go (ℕ_discrete copy n)
      where
        go : Dec (copy ≡ n) → life_at t (pointers layout p s (changed_slot c copy)) ≡ life_at s (pointers layout p s (changed_slot c copy)) - 1
        go (yes e) = rw e ((write_laws a b u).life ∙ rw life_before)
        go (no d) =
            let h = low in
            (write_laws a b u).kept.life _ (clean.exact.sound.apart (changed_slot c copy) k (omega arith) here (λ q. omega arith))
            ∙ stepped.life copy (omega arith)

    kept_after : Kept (StepCell layout p c (n + 1) s) s t
    kept_after =
        kept_then
        (kept_wider (λ q (copy, l, e). (copy, omega arith, e)) stepped.kept)
        (kept_wider (λ q e. (n, omega arith, e)) (write_laws a b u).kept)

    -- the torn one
    torn_here : Torn layout p c n b s t
    torn_here =
        record {
          map = map_same;
          ready = ready_kept clean.exact.ready kept_after;
          marks = rw map_same clean.exact.marks;
          sound = rw map_same clean.exact.sound;
          before = λ j l. let h = low in data_same j (omega arith) (λ q. omega arith) ∙ stepped.before j l;
          torn = data_here;
          behind = λ j l m d. data_same j m d ∙ stepped.behind j l m;
          life = life_after;
          kept = kept_after;
        }

    -- the step's own
    stepped_next : b ≡ slot_code (c + 1) k → Stepped (n + 1) t
    stepped_next own =
        record {
          map = map_same;
          before = λ j l. before j l (ℕ_discrete j k);
          behind = λ j l m. let h = low in data_same j m (λ q. omega arith) ∙ stepped.behind j (omega arith) m;
          life = life_after;
          kept = kept_after;
        }
      where
        before : (j : ℕ) → j < 8 * (n + 1) → Dec (j ≡ k) → data_of layout p t j ≡ slot_code (c + 1) j
        before j l (yes e) = rw e (data_here ∙ own)
        before j l (no d) = data_same j (omega arith) d ∙ go (dec_le (8 * n) j)
          where
            go : Dec (8 * n ≤ j) → data_of layout p u j ≡ slot_code (c + 1) j
            go (yes h) = stepped.behind j h (omega arith) ∙ step_stays c small j (λ q. d (omega arith))
            go (no h) = stepped.before j (omega arith)

  -- ## The cut

  module _ {A : Type 0} (b : ℕ) (v : Seen A) where
    -- it was lost in the write to copy i
    abbrev LostIn : ℕ → Cut A → Type 0
    LostIn i r = (t : Chip) × (r ≡ lost (pointers layout p s (changed_slot c i)) t) × Torn layout p c i b s t

    cut_here : (n copy : ℕ) (u : Chip) → copy < layout.copies → Stepped copy u → LostIn (copy + 0) (tear 0 b (step_writes (suc n) copy (pointers layout p s) c) v u)
    unfolding step_writes
    cut_here n copy u l stepped =
        rw add-zero (write_at (pointers layout p s (changed_slot c copy)) b u, tear_here b _ _ v u, torn_here copy l b u stepped)

    cut_later :
        (i n copy : ℕ) (u : Chip)
        → LostIn (copy + 1 + i) (tear i b (step_writes n (copy + 1) (pointers layout p s) c) v (write_at (pointers layout p s (changed_slot c copy)) (slot_code (c + 1) (changed_slot c copy)) u))
        → LostIn (copy + suc i) (tear (suc i) b (step_writes (suc n) copy (pointers layout p s) c) v u)
    unfolding step_writes
    cut_later i n copy u rest =
        let e : copy + suc i ≡ copy + 1 + i = omega arith in
        rw (e, tear_later b (write (pointers layout p s (changed_slot c copy)) (slot_code (c + 1) (changed_slot c copy))) (step_writes n (copy + 1) (pointers layout p s) c) v u i) rest

    cut_from :
        (i n copy : ℕ) (u : Chip) → copy + n ≡ layout.copies → i < n → Stepped copy u
        → LostIn (copy + i) (tear i b (step_writes n copy (pointers layout p s) c) v u)
    cut_from i zero copy u all l stepped = absurd (omega arith)
    cut_from zero (suc n) copy u all l stepped = cut_here n copy u (omega arith) stepped
    cut_from (suc i) (suc n) copy u all l stepped =
        cut_later i n copy u
        (cut_from i n (copy + 1) _ (omega arith) (omega arith) (stepped_next copy (omega arith) (slot_code (c + 1) (changed_slot c copy)) u stepped refl))

  pub cut_step : (i b : ℕ) → i < layout.copies → CutStep layout p c i b s
  cut_step i b l =
      let calm : StepCalm layout p c s = step_calm (omega arith) clean.below clean.exact (λ copy m. let h = clean.life copy m in omega arith) in
      let (t, ends, torn) = cut_from b (view (step_run layout p s)) i layout.copies 0 s (zero-add _) l none_stepped in
      let cuts : cut i b (step_run layout p s) s ≡ lost (pointers layout p s (changed_slot c (0 + i))) t = ap (λ (log : List Write). tear i b log (view (step_run layout p s)) s) calm.log ∙ ends in
      rw_cut t (rw zero-add at cuts) (rw zero-add at torn)
    where
      rw_cut : (t : Chip) → cut i b (step_run layout p s) s ≡ lost (pointers layout p s (changed_slot c i)) t → Torn layout p c i b s t → CutStep layout p c i b s
      rw_cut t cuts torn =
          let e = trial_step_is layout p s i b ∙ ap cut_outcome cuts in
          record { says = rw e; leaves = rw e torn }

  -- ## What open makes of it

  module _ (i b : ℕ) (inside : i < layout.copies) (t : Chip) (torn : Torn layout p c i b s t) where
    -- the cells that open may have to write have life
    pub torn_life : (copy : ℕ) → copy < layout.copies → 1 ≤ life_at t (pointers layout p t (changed_slot c copy))
    torn_life copy l = rw torn.map (go (dec_le copy i))
      where
        go : Dec (copy ≤ i) → 1 ≤ life_at t (pointers layout p s (changed_slot c copy))
        go (yes h) = let e = torn.life copy (omega arith) in let h = clean.life copy l in omega arith
        go (no later) =
            let small = low in
            let untouched : StepCell layout p c (i + 1) s (pointers layout p s (changed_slot c copy)) → ⊥ =
            λ (other, m, e). clean.exact.sound.apart (changed_slot c copy) (changed_slot c other) (omega arith) (omega arith) (λ q. omega arith) e in
            let e = torn.kept.life _ untouched in
            let h = clean.life copy l in
            omega arith

    -- slots that the step does not change hold their codes of both counts
    pub torn_stays : (k : ℕ) → k < slots layout → (k % 8 ≡ changed_nibble c → ⊥) → data_of layout p t k ≡ slot_code c k
    torn_stays k l d = let h = low in go (dec_le (8 * i) k)
      where
        go : Dec (8 * i ≤ k) → data_of layout p t k ≡ slot_code c k
        go (yes h) = torn.behind k h l (λ q. let h = low in d (omega arith))
        go (no h) = torn.before k (omega arith) ∙ sym (step_stays c small k d)

    module _ (d : ℕ) (either : (d ≡ c) ⊎ (d ≡ c + 1)) where
      code_either : (k : ℕ) → (k % 8 ≡ changed_nibble c → ⊥) → slot_code c k ≡ slot_code d k
      code_either k other = go either
        where
          go : (d ≡ c) ⊎ (d ≡ c + 1) → slot_code c k ≡ slot_code d k
          go (inl e) = rw e
          go (inr e) = rw e (step_stays c small k other)

      alive : Alive layout p (slots layout) 0 d t
      alive j l u other = go (ℕ_discrete (j % 8) (changed_nibble c))
        where
          go : Dec (j % 8 ≡ changed_nibble c) → 1 ≤ life_at t (pointers layout p t j)
          go (yes e) = let q : changed_slot c (j / 8) ≡ j = omega arith in rw q at (torn_life (j / 8) (omega arith))
          go (no n) = absurd (other (torn_stays j (omega arith) n ∙ code_either j n))

      pub torn_reopens : {lag : ℤ} → verdict_of layout p t.cells ≡ read_as d lag → Reopens layout p d lag t
      torn_reopens {lag} reads =
          let on = open_on layout p t d lag (chip_verdict_lem layout p t torn.ready.paired ∙ reads) in
          let calm : Calm layout p (slots layout) 0 d t (store layout p d t) = calm_store layout p d t torn.ready torn.sound alive in
          let well : (open_run layout p t).answer ≡ read_as d lag = rw on (ap (ending (read_as d lag)) calm.done) in
          let none : (open_run layout p t).tried ≡ 0 = rw on calm.tried in
          let stored : Exact layout p d (open_run layout p t).after = rw on (exact_stored torn.ready d torn.marks torn.sound calm.done) in
          rw_open (good_says (open_run layout p t) well ∙ rw none) (rw on calm.map) stored
        where
          rw_open :
              (outcome_of (open_run layout p t)).says ≡ answer 0 d lag 0 (length (open_run layout p t).log) 0
              → map_in layout p (open_run layout p t).after.cells ≡ map_in layout p t.cells
              → Exact layout p d (open_run layout p t).after → Reopens layout p d lag t
          rw_open says map exact = record { says = rw (open_is layout p t, says); map = rw (open_is layout p t) map; exact = rw (open_is layout p t) exact }
