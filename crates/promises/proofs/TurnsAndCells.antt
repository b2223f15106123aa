-- From turns to cells and back (condition 2): a good open or step leaves every slot's cell with its code of the count that it
-- answers, in a sound map behind its mark; a read then gives that count, with lag 0 and nothing mended; and a step's count is one
-- more than that of the read before it.
--   run_exact                 a good call leaves its count exactly
--   open_exact, step_exact    so do open and step, of the count that they answer
--   left_by_open, left_by_step  and it has 32 bits
--   StepGood, step_good       what a good step read, answered and left
--   open_reads, step_reads    what is read then
--   step_counts               the count of a good step, and its lag, from the read before it
use Rattle.std.proofs.Common.{Ok, Err}
use Prim.Native.Nat.{ℕ, ◌+◌, ◌^◌, ◌≤◌, ◌<◌}
use mathlib.Core.Path.{◌≡◌, refl, sym, ap, ◌∙◌}
use native.Mathlib.Decide.{ℕ_discrete}
use native.Mathlib.Omega.{arith}
use lib.IntN.{ℤ, pos}
use lib.ListN.{length}
use Rattle.cells.specs.Chip.{Chip}
use Rattle.cells.specs.Run.{Run}
use Rattle.code.specs.Mended.{no_bits}
use Rattle.counter.specs.declared.doors.ReadAnswer.{ReadAnswer}
use Rattle.counter.specs.declared.places.Places.{Places}
use Rattle.counter.specs.declared.layout.Layout.{Layout}
use Rattle.counter.specs.Verdict.{answer, outcome_of, ending, ◌and_then◌, Verdict, Work, read_as}
use Rattle.counter.specs.Reading.{verdict_of}
use Rattle.counter.specs.Store.{store}
use Rattle.counter.specs.Doors.{last_count, chip_verdict, open_run, step_run, open_of, step_of, read_of, read_answer_of}
use Rattle.counter.proofs.DoorAnswers.{code_good, good_says, open_is, step_is, read_good}
use Rattle.counter.proofs.Exact.{Exact, exact_reads}
use Rattle.counter.proofs.MendedBits.{bits_exact}
use Rattle.counter.proofs.GoodVerdicts.{same_count, not_good, VerdictGood, verdict_good}
use Rattle.counter.proofs.DoorViews.{step_refused, step_last, step_on}
use Rattle.promises.proofs.DoorRuns.{Comes, Comes.untouched, Comes.spareless, Comes.mapless, Comes.good, open_laws, step_laws}

-- a good call leaves its count exactly
pub run_exact :
    {layout : Layout} {p : Places} {s : Chip} {c : ℕ} {lag : ℤ} (r : Run Verdict) → Comes layout p s r
    → r.answer ≡ read_as c lag → (c < 2 ^ 32) × Exact layout p c r.after
run_exact r (untouched why reads e) g = not_good (sym (ap (λ (q : Run Verdict). q.answer) e) ∙ g)
run_exact r (spareless k e) g = not_good (sym e ∙ g)
run_exact r (mapless a e) g = not_good (sym e ∙ g)
run_exact {layout} {p} {s} {c} r (good d lag e small exact) g = let q = same_count (sym e ∙ g) in (rw q at small, rw q at exact)

-- what a read answers where nothing was amiss: the count, and no more
abbrev pub reads_clean : ℕ → ReadAnswer
reads_clean c = record { answer = answer 0 c (pos 0) 0 0 0; bits = no_bits }

-- a read of what holds a count exactly
read_exact :
    {layout : Layout} {p : Places} {c : ℕ} {s : Chip} → 1 ≤ layout.copies → c < 2 ^ 32 → Exact layout p c s
    → read_answer_of layout p s.cells ≡ reads_clean c
read_exact {layout} {p} {c} {s} one small exact =
    let says = read_good layout p s.cells (exact_reads exact one small) in
    λ i. record { answer = says i; bits = bits_exact exact one small i }

-- what a call of code 0 leaves is the count that it says
says_exact :
    {layout : Layout} {p : Places} {s : Chip} (r : Run Verdict) → Comes layout p s r → (outcome_of r).says.code ≡ 0
    → ((outcome_of r).says.count < 2 ^ 32) × Exact layout p (outcome_of r).says.count r.after
says_exact r comes e = let g = code_good r.answer (length r.log) r.tried e in rw (good_says r g.2) (run_exact r comes g.2)

module _ (layout : Layout) (p : Places) (s : Chip) where
  pub left_by_open : (open_of layout p s).says.code ≡ 0 → ((open_of layout p s).says.count < 2 ^ 32) × Exact layout p (open_of layout p s).says.count (open_of layout p s).leaves
  left_by_open = rw (open_is layout p s) (says_exact (open_run layout p s) (open_laws layout p s).comes)

  pub left_by_step : (step_of layout p s).says.code ≡ 0 → ((step_of layout p s).says.count < 2 ^ 32) × Exact layout p (step_of layout p s).says.count (step_of layout p s).leaves
  left_by_step = rw (step_is layout p s) (says_exact (step_run layout p s) (step_laws layout p s).comes)

  pub open_exact : (open_of layout p s).says.code ≡ 0 → Exact layout p (open_of layout p s).says.count (open_of layout p s).leaves
  open_exact e = (left_by_open e).1

  pub step_exact : (step_of layout p s).says.code ≡ 0 → Exact layout p (step_of layout p s).says.count (step_of layout p s).leaves
  step_exact e = (left_by_step e).1

  pub open_reads :
      1 ≤ layout.copies → (open_of layout p s).says.code ≡ 0
      → read_answer_of layout p (open_of layout p s).leaves.cells ≡ reads_clean (open_of layout p s).says.count
  open_reads one e = read_exact one (left_by_open e).0 (left_by_open e).1

  pub step_reads :
      1 ≤ layout.copies → (step_of layout p s).says.code ≡ 0
      → read_answer_of layout p (step_of layout p s).leaves.cells ≡ reads_clean (step_of layout p s).says.count
  step_reads one e = read_exact one (left_by_step e).0 (left_by_step e).1

-- what a good step read, answered and left
pub record StepGood (layout : Layout) (p : Places) (s : Chip) : Type 0 where
  pub count : ℕ
  pub lag : ℤ
  pub below : count < last_count
  pub reads : verdict_of layout p s.cells ≡ read_as count lag
  pub answers : (step_run layout p s).answer ≡ read_as (count + 1) lag
  pub exact : Exact layout p (count + 1) (step_run layout p s).after

-- a call that ends well ends in what it was to end in
ending_good : {c : ℕ} {lag : ℤ} (v : Verdict) (w : Work) → ending v w ≡ read_as c lag → ending v w ≡ v
ending_good v (Ok tt) e = refl
ending_good v (Err why) e = not_good e

module _ (layout : Layout) (p : Places) (s : Chip) {d : ℕ} {other : ℤ} (g : (step_run layout p s).answer ≡ read_as d other) where
  good_from : (v : Verdict) → chip_verdict layout p s ≡ v → StepGood layout p s
  good_from (Err why) e = not_good (sym (ap (λ (q : Run Verdict). q.answer) (step_refused layout p s why e)) ∙ g)
  good_from (Ok (c, lag)) e = counted (ℕ_discrete c last_count)
    where
      read : (verdict_of layout p s.cells ≡ read_as c lag) × VerdictGood layout p c s
      read = verdict_good layout p s e

      counted : Dec (c ≡ last_count) → StepGood layout p s
      counted (yes l) = not_good (sym (ap (λ (q : Run Verdict). q.answer) (step_last layout p s c lag e l)) ∙ g)
      counted (no n) =
          let on = ap (λ (q : Run Verdict). q.answer) (step_on layout p s c lag e n) in
          let well = on ∙ ending_good (read_as (c + 1) lag) (store layout p c s and_then store layout p (c + 1)).answer (sym on ∙ g) in
          let small = read.1.small in
          record {
            count = c;
            lag = lag;
            below = omega arith;
            reads = read.0;
            answers = well;
            exact = (run_exact (step_run layout p s) (step_laws layout p s).comes well).1;
          }

  pub step_good : StepGood layout p s
  step_good = good_from (chip_verdict layout p s) refl

module _ (layout : Layout) (p : Places) (s : Chip) (e : (step_of layout p s).says.code ≡ 0) where
  code_step : StepGood layout p s
  code_step = let g = code_good (step_run layout p s).answer (length (step_run layout p s).log) (step_run layout p s).tried (rw (step_is layout p s) at e) in step_good layout p s g.2

  pub step_counts : ((read_of layout p s.cells).code ≡ 0) × ((step_of layout p s).says.count ≡ (read_of layout p s.cells).count + 1) × ((step_of layout p s).says.lag ≡ (read_of layout p s.cells).lag)
  step_counts = rw (step_is layout p s, good_says (step_run layout p s) code_step.answers, read_good layout p s.cells code_step.reads) (refl, refl, refl)
