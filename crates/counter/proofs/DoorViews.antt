-- The outcomes of the doors, by what their pieces say of themselves.
--   outcome_ending            of storing that ends a call
--   lost_outcome              refusal 11 has no writes and no tries, whatever storing says
--   cut_ending, cut_steady, cut_refused  the same of a call that may be cut
--   outcome_refused           of a refusal that touched nothing
--   chip_verdict_lem, chip_examined  a chip lent with its lives reads as its cells do
--   chip_fitted               and is fit to be opened, if they are unmarked
--   settling, settling_good, settling_refused  what was read stored anew
--   unopened, unopened_ready, ready_unopened  a chip not yet opened is ready; a ready one without a mark is not yet opened
--   marked_opened             one with a mark was opened before
--   open_first, open_again    the work of open, by whether the chip was opened before
--   open_unpaired, open_unfit, open_unmarked, open_marked  the work of open
--   open_on                   the work of open on a chip that reads as a count
--   step_unpaired, step_refused, step_last, step_on  the work of step, by what the chip reads as
--   good_settled              a good verdict finds the chip fitted, and its map sound
use Rattle.std.proofs.Common.{◌≡◌, ℕ, ◌≤◌, Bool, true, false, cond, not, ◌&&◌, length, ℤ, sym, refl, ap, ◌∙◌, true≢false, arith, eq-eqb, ne_eqb, Result, Ok, Err}
use mathlib.Core.Bool.{and-false}
use borrow.Author.Tests.{not-true}
use Rattle.cells.specs.declared.mains.PowerLost.{PowerLost}
use Rattle.cells.specs.Chip.{Chip}
use Rattle.cells.specs.Run.{Run, Seen, view, still}
use Rattle.cells.specs.Cut.{Cut.lost, cut, sight, Says}
use Rattle.cells.proofs.Views.{said_answer}
use Rattle.cells.proofs.Cuts.{starts_same, cut_enough, said_lost, said_view, said_ends}
use Rattle.std.specs.Result.{result_and}
use Rattle.counter.specs.declared.places.Places.{Places}
use Rattle.counter.specs.declared.store.Stored.{Stored}
use Rattle.counter.specs.declared.verdict.Refusal.{Refusal}
use Rattle.counter.specs.declared.verdict.Refusal.TheVariants.{BadLength, BadPlaces, NoMark, LastCount, PowerLost as LostPower}
use Rattle.counter.specs.declared.standing.Standing.TheVariants.{Unfit, Unmarked, Marked}
use Rattle.counter.specs.Layout.{Layout}
use Rattle.counter.specs.Places.{length_good, places_good, lives_good}
use Rattle.counter.specs.Map.{map_in, marked, pointer_of, sound}
use Rattle.counter.specs.Verdict.{outcome, outcome_of, refusal_of, answer_of, ending, on_good, provided, ◌ending_in◌, Verdict, Work, read_as}
use Rattle.counter.specs.Reading.{unless, examine, verdict_of}
use Rattle.counter.specs.Store.{store}
use Rattle.counter.proofs.SoundPointers.{sound_test}
use Rattle.counter.proofs.Standings.{stands_unfit, stands_unmarked, stands_marked, guard_unfit, guard_marked}
use Rattle.counter.proofs.RangeTests.{both_hold, hold_both}
use Rattle.counter.proofs.Ready.{Ready}
use Rattle.counter.proofs.Fitted.{fitted_ready, ready_fitted}
use Rattle.counter.proofs.GoodVerdicts.{verdict_good}
use Rattle.counter.specs.Doors.{last_count, chip_verdict, reopening, beginning, open_run, stepping, step_run}
use Rattle.counter.specs.Trials.{cut_outcome}
use Rattle.counter.specs.Inside.{fitted, standing_of, told, finish}

-- of storing that ends a call
pub outcome_ending : (r : Run Work) {v : Seen Work} → v ≡ view r → (x : Verdict)
    → outcome (answer_of (ending x v.answer) v.writes v.tried) v.after ≡ outcome_of (r ending_in x)
outcome_ending r e x = ap (λ (v : Seen Work). outcome (answer_of (ending x v.answer) v.writes v.tried) v.after) e

-- the first of storing and the rest that is refused
pub ending_and : (v : Verdict) (w : Work) → result_and w v ≡ ending v w
ending_and v (Ok tt) = refl
ending_and v (Err why) = refl

-- of storing that ends a call which may be cut
pub lost_outcome : (x : Verdict) (a w t : ℕ) (u : Chip) → outcome (answer_of (ending x (Err (LostPower a))) w t) u ≡ cut_outcome (lost a u)
unfolding answer_of
lost_outcome x a w t u = refl

pub cut_ending : {n b : ℕ} {r : Run Work} {s t : Chip} (x : Result Stored PowerLost) → Says (sight told x t) n b r s → (v : Verdict)
    → outcome (finish v x) t ≡ cut_outcome (cut n b (r ending_in v) s)
cut_ending {r = r} (Ok done) e v =
    let same = said_answer r (said_view e) refl in
    rw same (ap cut_outcome (said_ends e {x = ending v done.work}).so)
cut_ending {n = n} {b = b} {r = r} {s = s} {t = t} (Err loss) e v =
    let torn : Says (lost loss.at t) n b (r ending_in v) s = said_lost e (starts_same r.log) in
    ap cut_outcome torn.so

-- of a call with power for every write
pub cut_steady : (n b : ℕ) (r : Run Verdict) (s : Chip) → length r.log ≤ n → cut_outcome (cut n b r s) ≡ outcome_of r
cut_steady n b r s few = ap cut_outcome (cut_enough n b r s few)

-- of a refusal that touched nothing, cut or not
pub cut_refused : (n b : ℕ) {r : Run Verdict} {s : Chip} {why : Refusal} → r ≡ still (Err why) s → outcome (refusal_of why 0 0) s ≡ cut_outcome (cut n b r s)
unfolding answer_of
cut_refused n b {r} {s} {why} e = sym (ap (λ (q : Run Verdict). cut_outcome (cut n b q s)) e ∙ cut_steady n b (still (Err why) s) s (omega arith))

-- of a refusal that touched nothing
pub outcome_refused : {r : Run Verdict} {s : Chip} {why : Refusal} → r ≡ still (Err why) s → outcome (refusal_of why 0 0) s ≡ outcome_of r
unfolding answer_of
outcome_refused e = ap outcome_of (sym e)

-- refusals 1 and 2 do not hold, and the mark is not there
unfoldable pub unopened : Layout → Places → Chip → Bool
unopened layout p s = fitted layout p s && not (marked (map_in layout p s.cells))

-- what was read stored anew
abbrev pub settling : Layout → Places → Verdict → Chip → Run Verdict
settling layout p v s = on_good v (λ c lag. store layout p c s ending_in read_as c lag) s

-- opening again is settling what the chip reads as, since the tests before the mark are the same
same_tests :
    (a b c m : Bool) (v : Verdict) (work : ℕ → ℤ → Run Verdict) (first : Run Verdict) (s : Chip) → (a && b && c) && not m ≡ false
    → provided a BadLength s (provided b BadLength s (provided c BadPlaces s (cond m (on_good v work s) first)))
    ≡ on_good (unless a BadLength (unless b BadLength (unless c BadPlaces (unless m NoMark v)))) work s
same_tests true true true true v work first s e = refl
same_tests true true true false v work first s e = absurd (true≢false e)
same_tests true true false m v work first s e = refl
same_tests true false c m v work first s e = refl
same_tests false b c m v work first s e = refl

module _ (layout : Layout) (p : Places) (s : Chip) where
  -- a chip is opened for the first time where it is fit and has no mark
  pub unopened_ready : unopened layout p s ≡ true → Ready layout p s
  unfolding unopened
  unopened_ready e = fitted_ready (both_hold (fitted layout p s) _ e).0

  pub ready_unopened : Ready layout p s → marked (map_in layout p s.cells) ≡ false → unopened layout p s ≡ true
  unfolding unopened
  ready_unopened ready e = hold_both _ _ (ready_fitted ready) (ap not e)

  pub marked_opened : marked (map_in layout p s.cells) ≡ true → unopened layout p s ≡ false
  unfolding unopened
  marked_opened e = rw e (and-false (fitted layout p s))

  pub open_first : unopened layout p s ≡ true → open_run layout p s ≡ beginning layout p s
  unfolding open_run unopened lives_good
  open_first e =
      let ready = unopened_ready e in
      rw (eq-eqb _ _ ready.paired, ready.long, ready.good, not-true (marked (map_in layout p s.cells)) (both_hold (fitted layout p s) _ e).1)

  pub open_again : unopened layout p s ≡ false → open_run layout p s ≡ settling layout p (chip_verdict layout p s) s
  unfolding open_run unopened fitted chip_verdict verdict_of
  open_again e =
      same_tests (lives_good s) (length_good layout (length s.cells)) (places_good layout (length s.cells) p) (marked (map_in layout p s.cells)) _ _ _ s e

  pub settling_refused : (v : Verdict) (why : Refusal) → v ≡ Err why → settling layout p v s ≡ still (Err why) s
  settling_refused v why e = rw e

  pub settling_good : (v : Verdict) (c : ℕ) (lag : ℤ) → v ≡ read_as c lag → settling layout p v s ≡ store layout p c s ending_in read_as c lag
  settling_good v c lag e = rw e

  module _ (paired : length s.lives ≡ length s.cells) where
    lives : lives_good s ≡ true
    unfolding lives_good
    lives = eq-eqb _ _ paired

    -- a chip lent with its lives reads as its cells do
    pub chip_verdict_lem : chip_verdict layout p s ≡ verdict_of layout p s.cells
    unfolding chip_verdict
    chip_verdict_lem = rw lives

    -- behind a mark, as what they are examined to be
    pub chip_examined : standing_of layout p s.cells ≡ Marked → chip_verdict layout p s ≡ examine layout p s.cells
    unfolding verdict_of
    chip_examined e = chip_verdict_lem ∙ guard_marked layout p s.cells _ e

    -- and is opened as they stand
    pub chip_fitted : standing_of layout p s.cells ≡ Unmarked → fitted layout p s ≡ true
    unfolding fitted
    chip_fitted e = let facts = stands_unmarked layout p s.cells e in rw (lives, facts.0, facts.1)

    pub open_unmarked : standing_of layout p s.cells ≡ Unmarked → open_run layout p s ≡ beginning layout p s
    open_unmarked e = open_first (ready_unopened (fitted_ready (chip_fitted e)) (stands_unmarked layout p s.cells e).2)

    pub open_marked : standing_of layout p s.cells ≡ Marked → open_run layout p s ≡ reopening layout p s
    unfolding open_run
    open_marked e = let facts = stands_marked layout p s.cells e in rw (lives, facts.0, facts.1, facts.2)

    pub open_unfit : {why : Refusal} → standing_of layout p s.cells ≡ Unfit why → open_run layout p s ≡ still (Err why) s
    unfolding unopened fitted verdict_of
    open_unfit e =
        open_again (rw (lives, stands_unfit layout p s.cells e))
        ∙ settling_refused _ _ (chip_verdict_lem ∙ guard_unfit layout p s.cells _ e)

  module _ (unpaired : length s.lives ≡ length s.cells → ⊥) where
    lifeless : lives_good s ≡ false
    unfolding lives_good
    lifeless = ne_eqb _ _ unpaired

    chip_unpaired : chip_verdict layout p s ≡ Err BadLength
    unfolding chip_verdict
    chip_unpaired = rw lifeless

    pub open_unpaired : open_run layout p s ≡ still (Err BadLength) s
    unfolding open_run
    open_unpaired = rw lifeless

    pub step_unpaired : step_run layout p s ≡ still (Err BadLength) s
    unfolding step_run
    step_unpaired = rw chip_unpaired

  module _ (why : Refusal) (e : chip_verdict layout p s ≡ Err why) where
    pub step_refused : step_run layout p s ≡ still (Err why) s
    unfolding step_run
    step_refused = rw e

  pub good_settled : {c : ℕ} {lag : ℤ} → chip_verdict layout p s ≡ read_as c lag → (fitted layout p s ≡ true) × (sound layout p (pointer_of (map_in layout p s.cells)) ≡ true)
  good_settled e = let good = (verdict_good layout p s e).1 in (ready_fitted good.ready, sound_test layout p _ good.sound)

  module _ (c : ℕ) (lag : ℤ) (e : chip_verdict layout p s ≡ read_as c lag) where
    pub open_on : open_run layout p s ≡ store layout p c s ending_in read_as c lag
    unfolding unopened
    open_on =
        let ready : fitted layout p s ≡ true = ready_fitted (verdict_good layout p s e).1.ready in
        open_again (rw (ready, (verdict_good layout p s e).1.marks)) ∙ settling_good _ c lag e

    pub step_last : c ≡ last_count → step_run layout p s ≡ still (Err LastCount) s
    unfolding step_run
    step_last h = rw (e, eq-eqb _ _ h)

    pub step_on : (c ≡ last_count → ⊥) → step_run layout p s ≡ stepping layout p c lag s
    unfolding step_run
    step_on h = rw (e, ne_eqb _ _ h)
