-- What read and open make of a clean step that was cut (document 02, P6), at two copies.
--   old_nibble, new_nibble    the nibble that the step changes, before it and after it
--   ReadsLost, ReadsAs, ReadsOther  what a torn byte reads as
--   ReadsApart, ReadsCount    what a read answers
--   FirstTorn, first_torn     what is read then, where the first write was torn
--   SecondTorn, second_torn   and where the second one was
--   Survives, cut_survives    in either: the count before the step, or the one after it, or refusal 6; and what open makes of it
--   first_reads, second_reads, torn_survives  the same, of any chip that is left so
use Rattle.std.proofs.Common.{Ok, Err}
use Prim.Native.Nat.{ℕ, zero, suc, ◌+◌, ◌-◌, ◌*◌, ◌%◌, ◌^◌, ◌<◌}
use mathlib.Core.Path.{◌≡◌, refl, sym, ap, ◌∙◌}
use mathlib.Core.Bool.{Bool, true, false, true≢false}
use mathlib.Core.Logic.{◌⊎◌, inl, inr, ◌↔◌}
use native.Mathlib.Decide.{ℕ_discrete, dec_lt}
use native.Mathlib.Nat.{mod-eq_of_lt}
use native.Mathlib.Omega.{arith}
use lib.IntN.{ℤ, pos, ◌-ℤ◌}
use Rattle.code.specs.declared.reading.Reading.{Reading}
use Rattle.code.specs.Codes.{code_of}
use Rattle.code.specs.Readings.{reading_of, is_lost, nibble_read}
use Rattle.code.specs.Gray.{gray_of}
use Rattle.code.specs.Nibbles.{nibble_of}
use Rattle.code.proofs.CodeLaws.{code_small}
use Rattle.code.proofs.ChangeLaws.{step_nibble_small, step_nibble_others}
use Rattle.code.proofs.ReadingLaws.{read_small, nibble_round, nibble_kept}
use Rattle.cells.specs.Chip.{Chip}
use Rattle.counter.specs.declared.places.Places.{Places}
use Rattle.counter.specs.declared.verdict.Answer.{Answer}
use Rattle.counter.specs.declared.verdict.Refusal.TheVariants.{Apart}
use Rattle.counter.specs.Layout.{two}
use Rattle.counter.specs.Reading.{nibble_in, count_in, decide, weigh, verdict_of}
use Rattle.counter.specs.Verdict.{answer, Verdict, read_as}
use Rattle.counter.specs.Store.{slot_code}
use Rattle.counter.specs.Doors.{read_of}
use Rattle.counter.specs.Trials.{trial_step_of}
use Rattle.counter.proofs.Ready.{data_of}
use Rattle.counter.proofs.Lags.{lag_level, lag_ahead, decide_same, decide_next, decide_other}
use Rattle.counter.proofs.ReadBack.{slot_code_lem, count_told, count_tells, weigh_decides}
use Rattle.counter.proofs.Weighed.{nibble_two}
use Rattle.counter.proofs.Exact.{read_weighed}
use Rattle.counter.proofs.DoorAnswers.{read_good, read_refused}
use Rattle.counter.proofs.NextStores.{changed_nibble, step_stays}
use Rattle.promises.proofs.CutSteps.{Clean, Torn, cut_step, Reopens, torn_reopens}

-- ## What is claimed

abbrev pub old_nibble : ℕ → ℕ
old_nibble c = nibble_of (gray_of c) (changed_nibble c)

abbrev pub new_nibble : ℕ → ℕ
new_nibble c = nibble_of (gray_of (c + 1)) (changed_nibble c)

abbrev pub ReadsLost : ℕ → Type 0
ReadsLost b = is_lost (reading_of b) ≡ true

abbrev pub ReadsAs : ℕ → ℕ → Type 0
ReadsAs d b = (is_lost (reading_of b) ≡ false) × (nibble_read (reading_of b) ≡ d)

-- as a nibble, and neither of the two of that place
pub record ReadsOther (c b : ℕ) : Type 0 where
  pub has : is_lost (reading_of b) ≡ false
  pub old : nibble_read (reading_of b) ≡ old_nibble c → ⊥
  pub new : nibble_read (reading_of b) ≡ new_nibble c → ⊥

-- refusal 6, with a lag that is neither 0 nor 1
pub record ReadsApart (read : Answer) : Type 0 where
  pub lag : ℤ
  pub level : lag ≡ pos 0 → ⊥
  pub ahead : lag ≡ pos 1 → ⊥
  pub says : read ≡ answer 6 0 lag 0 0 0

-- copy 1 has the torn byte, copy 2 holds c
pub record FirstTorn (c b : ℕ) (read : Answer) : Type 0 where
  pub lost : ReadsLost b → read ≡ answer 0 c (pos 0) 0 0 0
  pub old : ReadsAs (old_nibble c) b → read ≡ answer 0 c (pos 0) 0 0 0
  pub new : ReadsAs (new_nibble c) b → read ≡ answer 0 (c + 1) (pos 1) 0 0 0
  pub other : ReadsOther c b → ReadsApart read

-- copy 1 holds c + 1, copy 2 has the torn byte
pub record SecondTorn (c b : ℕ) (read : Answer) : Type 0 where
  pub lost : ReadsLost b → read ≡ answer 0 (c + 1) (pos 0) 0 0 0
  pub new : ReadsAs (new_nibble c) b → read ≡ answer 0 (c + 1) (pos 0) 0 0 0
  pub old : ReadsAs (old_nibble c) b → read ≡ answer 0 (c + 1) (pos 1) 0 0 0
  pub other : ReadsOther c b → ReadsApart read

-- the count d, with code 0
abbrev pub ReadsCount : ℕ → Answer → Type 0
ReadsCount d read = (read.code ≡ 0) × (read.count ≡ d)

-- a read gives the old count or the next, or refusal 6, and that just where the torn byte reads as another nibble; if it
-- answers, open settles both copies on that count
pub record Survives (p : Places) (c b : ℕ) (t : Chip) : Type 0 where
  pub reads : ReadsCount c (read_of two p t.cells) ⊎ (ReadsCount (c + 1) (read_of two p t.cells) ⊎ ReadsApart (read_of two p t.cells))
  pub apart : ((read_of two p t.cells).code ≡ 6) ↔ ReadsOther c b
  pub opens : (read_of two p t.cells).code ≡ 0 → Reopens two p (read_of two p t.cells).count (read_of two p t.cells).lag t

-- ## One other byte among the codes of a count

-- the slots hold their codes of e, but for nibble n of copy i, which holds b
record Amid (e i n b : ℕ) (byte : ℕ → ℕ) : Type 0 where
  count : e < 2 ^ 32
  copy : i < 2
  nibble : n < 8
  fits : b < 256
  held : (k : ℕ) → k < 16 → (k ≡ 8 * i + n → ⊥) → byte k ≡ slot_code e k
  torn : byte (8 * i + n) ≡ b

module _ {e i n b : ℕ} {byte : ℕ → ℕ} (amid : Amid e i n b byte) where
  abbrev reading : ℕ → Reading
  reading k = reading_of (byte k)

  code_at : (j m : ℕ) → j < 2 → m < 8 → (8 * j + m ≡ 8 * i + n → ⊥) → byte (8 * j + m) ≡ code_of (nibble_of (gray_of e) m)
  code_at j m l u d = let q : (8 * j + m) % 8 ≡ m = omega arith in amid.held (8 * j + m) (omega arith) d ∙ slot_code_lem e (8 * j + m) ∙ rw q

  kept_at : (j m : ℕ) → j < 2 → m < 8 → (8 * j + m ≡ 8 * i + n → ⊥) → is_lost (reading (8 * j + m)) ≡ false
  kept_at j m l u d = rw (code_at j m l u d) (nibble_kept (gray_of e) m)

  read_at_lem : (j m : ℕ) → j < 2 → m < 8 → (8 * j + m ≡ 8 * i + n → ⊥) → nibble_read (reading (8 * j + m)) ≡ nibble_of (gray_of e) m
  read_at_lem j m l u d = rw (code_at j m l u d) (nibble_round (gray_of e) m)

  bytes : (k : ℕ) → k < 16 → byte k < 256
  bytes k l = go (ℕ_discrete k (8 * i + n))
    where
      go : Dec (k ≡ 8 * i + n) → byte k < 256
      go (yes q) = rw (q, amid.torn) amid.fits
      go (no d) = rw (amid.held k l d ∙ slot_code_lem e k) (code_small (nibble_of (gray_of e) (k % 8)))

  decided : weigh two byte ≡ decide (count_in two reading 0) (count_in two reading 1)
  decided = weigh_decides two {byte = byte} bytes (λ m u. let h = amid.nibble in let l = amid.copy in (1 - i, omega arith, kept_at (1 - i) m (omega arith) u (λ q. omega arith)))

  -- nibbles other than the torn one
  nibble_at : (j m : ℕ) → j < 2 → m < 8 → (8 * j + m ≡ 8 * i + n → ⊥) → nibble_in two reading j m ≡ nibble_of (gray_of e) m
  nibble_at j m l u d = nibble_two reading j m l ∙ rw (kept_at j m l u d) (read_at_lem j m l u d)

  count_other : count_in two reading (1 - i) ≡ e
  count_other = count_told two reading (1 - i) amid.count (λ m u. let h = amid.nibble in let l = amid.copy in nibble_at (1 - i) m (omega arith) u (λ q. omega arith))

  -- the torn one
  nibble_lost : ReadsLost b → nibble_in two reading i n ≡ nibble_of (gray_of e) n
  nibble_lost gone =
      let h = amid.nibble in
      let l = amid.copy in
      let same : 8 - 8 * i + n ≡ 8 * (1 - i) + n = omega arith in
      nibble_two reading i n amid.copy ∙ rw (amid.torn, gone, same) (read_at_lem (1 - i) n (omega arith) amid.nibble (λ q. omega arith))

  nibble_had : is_lost (reading_of b) ≡ false → nibble_in two reading i n ≡ nibble_read (reading_of b)
  nibble_had has = nibble_two reading i n amid.copy ∙ rw (amid.torn, has)

  -- its copy has the count whose nibble that is
  count_own : {f : ℕ} → f < 2 ^ 32 → ((m : ℕ) → (m ≡ n → ⊥) → nibble_of (gray_of e) m ≡ nibble_of (gray_of f) m) → nibble_in two reading i n ≡ nibble_of (gray_of f) n → count_in two reading i ≡ f
  count_own {f} small beside torn = count_told two reading i small (λ m u. go m u (ℕ_discrete m n))
    where
      go : (m : ℕ) → m < 8 → Dec (m ≡ n) → nibble_in two reading i m ≡ nibble_of (gray_of f) m
      go m u (yes q) = rw q torn
      go m u (no d) = nibble_at i m amid.copy u (λ q. d (omega arith)) ∙ beside m d

  -- and no count with another nibble there
  count_not : {f : ℕ} → is_lost (reading_of b) ≡ false → (nibble_read (reading_of b) ≡ nibble_of (gray_of f) n → ⊥) → count_in two reading i ≡ f → ⊥
  count_not {f} has d q = d (sym (mod-eq_of_lt (read_small b amid.fits)) ∙ ap (λ (x : ℕ). x % 16) (sym (nibble_had has)) ∙ sym (count_tells two reading i n amid.nibble) ∙ rw q)

-- ## What is read

-- refused for a lag that is neither 0 nor 1
record ApartBy (v : Verdict) : Type 0 where
  lag : ℤ
  level : lag ≡ pos 0 → ⊥
  ahead : lag ≡ pos 1 → ⊥
  is : v ≡ Err (Apart lag)

apart_by : (x y : ℕ) → (x ≡ y → ⊥) → (x ≡ y + 1 → ⊥) → ApartBy (decide x y)
apart_by x y level ahead = record { lag = pos x -ℤ pos y; level = λ e. level (lag_level x y e); ahead = λ e. ahead (lag_ahead x y e); is = decide_other x y level ahead }

module _ {p : Places} {c : ℕ} {s : Chip} (clean : Clean two p c s) where
  small : c + 1 < 2 ^ 32
  small = let h = clean.below in omega arith

  small_before : c < 2 ^ 32
  small_before = let h = small in omega arith

  low : changed_nibble c < 8
  low = step_nibble_small c small

  -- every other nibble is the same before and after
  stays : (m : ℕ) → (m ≡ changed_nibble c → ⊥) → nibble_of (gray_of (c + 1)) m ≡ nibble_of (gray_of c) m
  stays m d = step_nibble_others c m small d

  module _ (b : ℕ) (fits : b < 256) (t : Chip) where
    abbrev verdict : Verdict
    verdict = verdict_of two p t.cells

    abbrev count : ℕ → ℕ
    count copy = count_in two (λ k. reading_of (data_of two p t k)) copy

    weighed : {i : ℕ} → Torn two p c i b s t → verdict ≡ weigh two (data_of two p t)
    weighed torn = read_weighed torn.ready torn.marks torn.sound

    module _ (torn : Torn two p c 0 b s t) where
      first_amid : Amid c 0 (changed_nibble c) b (data_of two p t)
      first_amid = record { count = small_before; copy = omega arith; nibble = low; fits = fits; held = λ k l d. torn.behind k (omega arith) l d; torn = torn.torn }

      first_decided : verdict ≡ decide (count 0) c
      first_decided =
          weighed torn ∙ decided first_amid
          ∙ ap (decide (count 0)) (count_other first_amid)

      first_same : nibble_in two (λ k. reading_of (data_of two p t k)) 0 (changed_nibble c) ≡ old_nibble c → verdict ≡ read_as c (pos 0)
      first_same e = first_decided ∙ ap (λ (x : ℕ). decide x c) (count_own first_amid small_before (λ m d. refl) e) ∙ decide_same c

      first_lost : ReadsLost b → verdict ≡ read_as c (pos 0)
      first_lost gone = first_same (nibble_lost first_amid gone)

      first_old : ReadsAs (old_nibble c) b → verdict ≡ read_as c (pos 0)
      first_old (has, e) = first_same (nibble_had first_amid has ∙ e)

      first_new : ReadsAs (new_nibble c) b → verdict ≡ read_as (c + 1) (pos 1)
      first_new (has, e) =
          let had = nibble_had first_amid has ∙ e in
          first_decided ∙ ap (λ (x : ℕ). decide x c) (count_own first_amid small (λ m d. sym (stays m d)) had) ∙ decide_next c

      first_other : ReadsOther c b → ApartBy verdict
      first_other other =
          rw first_decided
          (apart_by (count 0) c
          (count_not first_amid other.has other.old)
          (count_not first_amid other.has other.new))

    module _ (torn : Torn two p c 1 b s t) where
      second_amid : Amid (c + 1) 1 (changed_nibble c) b (data_of two p t)
      second_amid = record { count = small; copy = omega arith; nibble = low; fits = fits; held = λ k l d. go k l d (dec_lt k 8); torn = torn.torn }
        where
          go : (k : ℕ) → k < 16 → (k ≡ 8 * 1 + changed_nibble c → ⊥) → Dec (k < 8) → data_of two p t k ≡ slot_code (c + 1) k
          go k l d (yes h) = torn.before k h
          go k l d (no h) = torn.behind k (omega arith) l d ∙ step_stays c small k (λ q. d (omega arith))

      second_decided : verdict ≡ decide (c + 1) (count 1)
      second_decided =
          weighed torn ∙ decided second_amid
          ∙ ap (λ (x : ℕ). decide x (count 1)) (count_other second_amid)

      second_same : nibble_in two (λ k. reading_of (data_of two p t k)) 1 (changed_nibble c) ≡ new_nibble c → verdict ≡ read_as (c + 1) (pos 0)
      second_same e = second_decided ∙ ap (decide (c + 1)) (count_own second_amid small (λ m d. refl) e) ∙ decide_same (c + 1)

      second_lost : ReadsLost b → verdict ≡ read_as (c + 1) (pos 0)
      second_lost gone = second_same (nibble_lost second_amid gone)

      second_new : ReadsAs (new_nibble c) b → verdict ≡ read_as (c + 1) (pos 0)
      second_new (has, e) = second_same (nibble_had second_amid has ∙ e)

      second_old : ReadsAs (old_nibble c) b → verdict ≡ read_as (c + 1) (pos 1)
      second_old (has, e) =
          let had = nibble_had second_amid has ∙ e in
          second_decided ∙ ap (decide (c + 1)) (count_own second_amid small_before stays had) ∙ decide_next c

      second_other : ReadsOther c b → ApartBy verdict
      second_other other =
          rw second_decided
          (apart_by (c + 1) (count 1)
          (λ e. count_not second_amid other.has other.new (sym e))
          (λ e. count_not second_amid {f = c} other.has other.old (omega arith)))

    -- ## The same, of the answers

    reads_good : {d : ℕ} {lag : ℤ} → verdict ≡ read_as d lag → read_of two p t.cells ≡ answer 0 d lag 0 0 0
    reads_good e = read_good two p t.cells e

    reads_apart : ApartBy verdict → ReadsApart (read_of two p t.cells)
    reads_apart v = record { lag = v.lag; level = v.level; ahead = v.ahead; says = read_refused two p t.cells v.is }

    pub first_reads : Torn two p c 0 b s t → FirstTorn c b (read_of two p t.cells)
    first_reads torn =
        record {
          lost = λ r. reads_good (first_lost torn r);
          old = λ r. reads_good (first_old torn r);
          new = λ r. reads_good (first_new torn r);
          other = λ r. reads_apart (first_other torn r);
        }

    pub second_reads : Torn two p c 1 b s t → SecondTorn c b (read_of two p t.cells)
    second_reads torn =
        record {
          lost = λ r. reads_good (second_lost torn r);
          new = λ r. reads_good (second_new torn r);
          old = λ r. reads_good (second_old torn r);
          other = λ r. reads_apart (second_other torn r);
        }

    -- ## Either count, or refusal 6

    -- what the two tables have in common
    data Told : Type 0 where
      counted : (d : ℕ) (lag : ℤ) → (d ≡ c) ⊎ (d ≡ c + 1) → (ReadsOther c b → ⊥) → verdict ≡ read_as d lag → Told
      apart : ReadsOther c b → ApartBy verdict → Told

    -- a lost byte does not read as another nibble
    lost_not : ReadsLost b → ReadsOther c b → ⊥
    lost_not gone other = true≢false (sym gone ∙ other.has)

    -- a byte reads in one of the four ways
    byte_is : {A : Type 0} → (ReadsLost b → A) → (ReadsAs (old_nibble c) b → A) → (ReadsAs (new_nibble c) b → A) → (ReadsOther c b → A) → A
    byte_is {A} lost old new other = go (is_lost (reading_of b)) refl (ℕ_discrete _ (old_nibble c)) (ℕ_discrete _ (new_nibble c))
      where
        go : (gone : Bool) → is_lost (reading_of b) ≡ gone → Dec (nibble_read (reading_of b) ≡ old_nibble c) → Dec (nibble_read (reading_of b) ≡ new_nibble c) → A
        go true e d f = lost e
        go false e (yes d) f = old (e, d)
        go false e (no d) (yes f) = new (e, f)
        go false e (no d) (no f) = other (record { has = e; old = d; new = f })

    first_told : Torn two p c 0 b s t → Told
    first_told torn =
        byte_is
        (λ r. counted c (pos 0) (inl refl) (lost_not r) (first_lost torn r))
        (λ r. counted c (pos 0) (inl refl) (λ other. other.old r.1) (first_old torn r))
        (λ r. counted (c + 1) (pos 1) (inr refl) (λ other. other.new r.1) (first_new torn r))
        (λ r. apart r (first_other torn r))

    second_told : Torn two p c 1 b s t → Told
    second_told torn =
        byte_is
        (λ r. counted (c + 1) (pos 0) (inr refl) (lost_not r) (second_lost torn r))
        (λ r. counted (c + 1) (pos 1) (inr refl) (λ other. other.old r.1) (second_old torn r))
        (λ r. counted (c + 1) (pos 0) (inr refl) (λ other. other.new r.1) (second_new torn r))
        (λ r. apart r (second_other torn r))

    told : (i : ℕ) → i < 2 → Torn two p c i b s t → Told
    told zero l torn = first_told torn
    told (suc zero) l torn = second_told torn
    told (suc (suc i)) l torn = absurd (omega arith)

    survives : (i : ℕ) → i < 2 → Torn two p c i b s t → Told → Survives p c b t
    survives i l torn (counted d lag either another e) =
        rw_read (reads_good e) either another (torn_reopens clean i b l t torn d either e)
      where
        counts : (d ≡ c) ⊎ (d ≡ c + 1) → ReadsCount c (answer 0 d lag 0 0 0) ⊎ (ReadsCount (c + 1) (answer 0 d lag 0 0 0) ⊎ ReadsApart (answer 0 d lag 0 0 0))
        counts (inl e) = inl (refl, e)
        counts (inr e) = inr (inl (refl, e))

        rw_read :
            read_of two p t.cells ≡ answer 0 d lag 0 0 0 → (d ≡ c) ⊎ (d ≡ c + 1) → (ReadsOther c b → ⊥) → Reopens two p d lag t
            → Survives p c b t
        rw_read e either another opens =
            record {
              reads = rw e (counts either);
              apart = (rw e (λ six. absurd (omega arith)), λ other. absurd (another other));
              opens = rw e (λ code. opens);
            }
    survives i l torn (apart other v) = let six = reads_apart v in record {
      reads = inr (inr six);
      apart = (λ code. other, λ another. rw six.says);
      opens = rw six.says (λ code. absurd (omega arith));
    }

    pub torn_survives : (i : ℕ) → i < 2 → Torn two p c i b s t → Survives p c b t
    torn_survives i l torn = survives i l torn (told i l torn)

  -- ## Of a step that was cut

  module _ (b : ℕ) (fits : b < 256) where
    pub first_torn : FirstTorn c b (read_of two p (trial_step_of two p 0 b s).leaves.cells)
    first_torn = first_reads b fits _ (cut_step clean 0 b (omega arith)).leaves

    pub second_torn : SecondTorn c b (read_of two p (trial_step_of two p 1 b s).leaves.cells)
    second_torn = second_reads b fits _ (cut_step clean 1 b (omega arith)).leaves

    pub cut_survives : (i : ℕ) → i < 2 → Survives p c b (trial_step_of two p i b s).leaves
    cut_survives i l = torn_survives b fits _ i l (cut_step clean i b l).leaves
