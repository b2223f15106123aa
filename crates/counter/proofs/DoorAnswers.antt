-- What a door answers, by how its work ended.
--   code_good                 a call of code 0 is good
--   code_eight                a call of code 8 found no spare for the slot that is its place
--   good_says                 a good call answers its count and lag, with code 0 and the writes and spares it took
--   refused_code              a refused call answers another code than 0
--   spareless_code, spareless_place  8 where it found no spare, and the slot
--   mapless_code              9 where a map byte failed
--   reading_code, read_lit    never 11 where storing was not what was refused
--   open_is, step_is          the outcomes of open and step are those of their work
--   trial_open_is, trial_step_is  those of their trials are that work, cut
--   trial_step_either         a trial of step is the step, or answers 11
--   storing_tried             a call that is its storing answers the spares that it tried
--   read_is, read_good, read_refused  the answer of read is that of its verdict, and what a good one and a refusal say
--   read_uncounted            a read that is refused answers count 0
--   read_unsized, read_unplaced  1 where the length is not good, and else 2 where the settings are not
use Rattle.std.proofs.Common.{◌≡◌, ℕ, ◌≤◌, true, false, ◌⊎◌, List, length, ℤ, sym, refl, ap, ◌∙◌, inl, inr, true≢false, arith, Ok, Err}
use Rattle.cells.specs.Chip.{Chip}
use Rattle.cells.specs.Run.{Run, view}
use Rattle.cells.specs.Cut.{Cut.whole, cut}
use Rattle.cells.proofs.TornLogs.{TornAt, tear_torn}
use Rattle.counter.specs.declared.places.Places.{Places}
use Rattle.counter.specs.declared.verdict.Answer.{Answer}
use Rattle.counter.specs.declared.verdict.Refusal.{Refusal}
use Rattle.counter.specs.declared.verdict.Refusal.TheVariants.{BadLength, BadPlaces, NoMark, UnsoundMap, BadCopy, TwoCodes, LostNibble, Apart, LastCount, NoSpare, MapByte, PowerLost}
use Rattle.counter.specs.Layout.{Layout}
use Rattle.counter.specs.Places.{length_good, places_good}
use Rattle.counter.specs.Verdict.{answer, refusal_of, answer_of, Outcome, outcome_of, ◌ending_in◌, Verdict, Work, read_as}
use Rattle.counter.specs.Reading.{verdict_of}
use Rattle.counter.proofs.Moves.{Ended, Ended.done, Ended.roomless, Ended.unmapped}
use Rattle.counter.proofs.GoodVerdicts.{of_storing, cells_reads}
use Rattle.counter.specs.Doors.{open_run, step_run, open_of, step_of, read_of}
use Rattle.counter.specs.Trials.{cut_outcome, trial_open_of, trial_step_of}

-- ## The numbers of the ways a call can end

-- a refusal has another code than 0
refusal_code : (why : Refusal) (writes tried : ℕ) → 1 ≤ (refusal_of why writes tried).code
refusal_code BadLength w t = omega arith
refusal_code BadPlaces w t = omega arith
refusal_code NoMark w t = omega arith
refusal_code UnsoundMap w t = omega arith
refusal_code BadCopy w t = omega arith
refusal_code (TwoCodes n) w t = omega arith
refusal_code (LostNibble n) w t = omega arith
refusal_code (Apart lag) w t = omega arith
refusal_code LastCount w t = omega arith
refusal_code (NoSpare k) w t = omega arith
refusal_code (MapByte a) w t = omega arith
refusal_code (PowerLost a) w t = omega arith

-- and count 0
refusal_uncounted : (why : Refusal) (writes tried : ℕ) → (refusal_of why writes tried).count ≡ 0
refusal_uncounted BadLength w t = refl
refusal_uncounted BadPlaces w t = refl
refusal_uncounted NoMark w t = refl
refusal_uncounted UnsoundMap w t = refl
refusal_uncounted BadCopy w t = refl
refusal_uncounted (TwoCodes n) w t = refl
refusal_uncounted (LostNibble n) w t = refl
refusal_uncounted (Apart lag) w t = refl
refusal_uncounted LastCount w t = refl
refusal_uncounted (NoSpare k) w t = refl
refusal_uncounted (MapByte a) w t = refl
refusal_uncounted (PowerLost a) w t = refl

pub code_good : (v : Verdict) (writes tried : ℕ) → (answer_of v writes tried).code ≡ 0 → (c : ℕ) × (lag : ℤ) × (v ≡ read_as c lag)
unfolding answer_of
code_good (Ok (c, lag)) w t e = (c, lag, refl)
code_good (Err why) w t e = let h = refusal_code why w t in absurd (omega arith)

refusal_eight : (why : Refusal) (writes tried : ℕ) → (refusal_of why writes tried).code ≡ 8 → why ≡ NoSpare (refusal_of why writes tried).place
refusal_eight BadLength w t e = absurd (omega arith)
refusal_eight BadPlaces w t e = absurd (omega arith)
refusal_eight NoMark w t e = absurd (omega arith)
refusal_eight UnsoundMap w t e = absurd (omega arith)
refusal_eight BadCopy w t e = absurd (omega arith)
refusal_eight (TwoCodes n) w t e = absurd (omega arith)
refusal_eight (LostNibble n) w t e = absurd (omega arith)
refusal_eight (Apart lag) w t e = absurd (omega arith)
refusal_eight LastCount w t e = absurd (omega arith)
refusal_eight (NoSpare k) w t e = refl
refusal_eight (MapByte a) w t e = absurd (omega arith)
refusal_eight (PowerLost a) w t e = absurd (omega arith)

-- what reading is refused for has another number than 11
refusal_lit : (why : Refusal) (writes tried : ℕ) → of_storing why ≡ false → (refusal_of why writes tried).code ≡ 11 → ⊥
refusal_lit BadLength w t reads e = omega arith
refusal_lit BadPlaces w t reads e = omega arith
refusal_lit NoMark w t reads e = omega arith
refusal_lit UnsoundMap w t reads e = omega arith
refusal_lit BadCopy w t reads e = omega arith
refusal_lit (TwoCodes n) w t reads e = omega arith
refusal_lit (LostNibble n) w t reads e = omega arith
refusal_lit (Apart lag) w t reads e = omega arith
refusal_lit LastCount w t reads e = omega arith
refusal_lit (NoSpare k) w t reads e = omega arith
refusal_lit (MapByte a) w t reads e = omega arith
refusal_lit (PowerLost a) w t reads e = true≢false reads

pub code_eight : (v : Verdict) (writes tried : ℕ) → (answer_of v writes tried).code ≡ 8 → v ≡ Err (NoSpare (answer_of v writes tried).place)
unfolding answer_of
code_eight (Ok (c, lag)) w t e = absurd (omega arith)
code_eight (Err why) w t e = ap Err (refusal_eight why w t e)

-- what a call answers whose work ended so
module _ (r : Run Verdict) where
  pub good_says : {c : ℕ} {lag : ℤ} → r.answer ≡ read_as c lag → (outcome_of r).says ≡ answer 0 c lag 0 (length r.log) r.tried
  unfolding answer_of
  good_says e = rw e

  pub refused_code : {why : Refusal} → r.answer ≡ Err why → 1 ≤ (outcome_of r).says.code
  unfolding answer_of
  refused_code {why} e = rw e (refusal_code why (length r.log) r.tried)

  pub spareless_code : {k : ℕ} → r.answer ≡ Err (NoSpare k) → (outcome_of r).says.code ≡ 8
  unfolding answer_of
  spareless_code e = rw e

  pub spareless_place : {k : ℕ} → r.answer ≡ Err (NoSpare k) → (outcome_of r).says.place ≡ k
  unfolding answer_of
  spareless_place e = rw e

  pub mapless_code : {a : ℕ} → r.answer ≡ Err (MapByte a) → (outcome_of r).says.code ≡ 9
  unfolding answer_of
  mapless_code e = rw e

  pub reading_code : (why : Refusal) → of_storing why ≡ false → r.answer ≡ Err why → (outcome_of r).says.code ≡ 11 → ⊥
  unfolding answer_of
  reading_code why reads e = rw e (refusal_lit why (length r.log) r.tried reads)

-- a call that is its storing answers the spares that it tried, however it ended
pub storing_tried : (c : ℕ) (lag : ℤ) (r : Run Work) → Ended r.answer → (outcome_of (r ending_in read_as c lag)).says.tried ≡ r.tried
unfolding answer_of
storing_tried c lag r (done e) = rw e
storing_tried c lag r (roomless k e) = rw e
storing_tried c lag r (unmapped a e) = rw e

-- ## The doors

module _ (layout : Layout) (p : Places) where
  pub read_is : (cells : List ℕ) → read_of layout p cells ≡ answer_of (verdict_of layout p cells) 0 0
  unfolding read_of
  read_is cells = refl

  pub read_good : {c : ℕ} {lag : ℤ} (cells : List ℕ) → verdict_of layout p cells ≡ read_as c lag → read_of layout p cells ≡ answer 0 c lag 0 0 0
  unfolding read_of answer_of
  read_good cells e = rw e

  pub read_refused : {why : Refusal} (cells : List ℕ) → verdict_of layout p cells ≡ Err why → read_of layout p cells ≡ refusal_of why 0 0
  unfolding read_of answer_of
  read_refused cells e = rw e

  -- a read that is refused answers count 0
  pub read_uncounted : (cells : List ℕ) → ((read_of layout p cells).code ≡ 0 → ⊥) → (read_of layout p cells).count ≡ 0
  read_uncounted cells = go (verdict_of layout p cells) refl
    where
      go : (v : Verdict) → verdict_of layout p cells ≡ v → ((read_of layout p cells).code ≡ 0 → ⊥) → (read_of layout p cells).count ≡ 0
      go (Ok (c, lag)) e h = absurd (h (ap (λ (a : Answer). a.code) (read_good cells e)))
      go (Err why) e h = rw (read_refused cells e) (refusal_uncounted why 0 0)

  pub read_unsized : (cells : List ℕ) → length_good layout (length cells) ≡ false → (read_of layout p cells).code ≡ 1
  unfolding read_of answer_of verdict_of
  read_unsized cells unsized = rw unsized

  pub read_unplaced : (cells : List ℕ) → length_good layout (length cells) ≡ true → places_good layout (length cells) p ≡ false
      → (read_of layout p cells).code ≡ 2
  unfolding read_of answer_of verdict_of
  read_unplaced cells sized unplaced = rw (sized, unplaced)

  -- read is never refused 11
  pub read_lit : (cells : List ℕ) → (read_of layout p cells).code ≡ 11 → ⊥
  read_lit cells = go (verdict_of layout p cells) refl
    where
      go : (v : Verdict) → verdict_of layout p cells ≡ v → (read_of layout p cells).code ≡ 11 → ⊥
      go (Ok (c, lag)) e h = let code = ap (λ (a : Answer). a.code) (read_good cells e) in omega arith
      go (Err why) e h = refusal_lit why 0 0 (cells_reads layout p cells e) (rw (read_refused cells e) at h)

  module _ (s : Chip) where
    pub open_is : open_of layout p s ≡ outcome_of (open_run layout p s)
    unfolding open_of
    open_is = refl

    pub trial_open_is : (power torn : ℕ) → trial_open_of layout p power torn s ≡ cut_outcome (cut power torn (open_run layout p s) s)
    unfolding trial_open_of
    trial_open_is power torn = refl

    pub step_is : step_of layout p s ≡ outcome_of (step_run layout p s)
    unfolding step_of
    step_is = refl

    pub trial_step_is : (power torn : ℕ) → trial_step_of layout p power torn s ≡ cut_outcome (cut power torn (step_run layout p s) s)
    unfolding trial_step_of
    trial_step_is power torn = refl

    pub trial_step_either : (power torn : ℕ) → (trial_step_of layout p power torn s ≡ step_of layout p s) ⊎ ((trial_step_of layout p power torn s).says.code ≡ 11)
    trial_step_either power torn = go (tear_torn power torn (step_run layout p s).log (view (step_run layout p s)) s)
      where
        go : (cut power torn (step_run layout p s) s ≡ whole (view (step_run layout p s))) ⊎ TornAt torn (step_run layout p s).log s (cut power torn (step_run layout p s) s)
            → (trial_step_of layout p power torn s ≡ step_of layout p s) ⊎ ((trial_step_of layout p power torn s).says.code ≡ 11)
        go (inl all) = inl (trial_step_is power torn ∙ ap cut_outcome all ∙ sym step_is)
        go (inr some) = inr (ap (λ (o : Outcome). o.says.code) (trial_step_is power torn ∙ ap cut_outcome some.comes))
