-- What comes back (document 01, "What comes back"): each way a call can end, with this paper's number and values.
use Rattle.std.specs.Prelude.{ℕ, Bool, true, false, length, ℤ, pos, Result, Ok, Err}
use Rattle.cells.specs.Chip.{Chip}
use Rattle.cells.specs.Run.{Run, still, ◌then◌, ◌giving◌}
use Rattle.counter.specs.declared.verdict.Answer.{Answer}
use Rattle.counter.specs.declared.verdict.Refusal.{Refusal}
use Rattle.counter.specs.declared.verdict.Refusal.TheVariants.{BadLength, BadPlaces, NoMark, UnsoundMap, BadCopy, TwoCodes, LostNibble, Apart, LastCount, NoSpare, MapByte, PowerLost}

infixr 15 ◌and_then◌
infixl 12 ◌ending_in◌
-- how a call ended: with a count and the lag that was read, or refused
abbrev pub Verdict : Type 0
Verdict = Result (ℕ × ℤ) Refusal

abbrev pub read_as : ℕ → ℤ → Verdict
read_as count lag = Ok (count, lag)

-- how a piece of storing ended
abbrev pub Work : Type 0
Work = Result (Unit {0}) Refusal

abbrev pub complete : Work
complete = Ok tt

abbrev pub answer : ℕ → ℕ → ℤ → ℕ → ℕ → ℕ → Answer
answer code count lag place writes tried =
    record { code = code; count = count; lag = lag; place = place; writes = writes; tried = tried }

-- a refusal: count 0, lag 0, nothing written and nothing tried
abbrev pub refused : ℕ → ℕ → Answer
refused code place = answer code 0 (pos 0) place 0 0

-- the answer of a refused call that had asked for so many writes and tried so many spares
abbrev pub refusal_of : Refusal → ℕ → ℕ → Answer
refusal_of BadLength writes tried = refused 1 0
refusal_of BadPlaces writes tried = refused 2 0
refusal_of NoMark writes tried = refused 3 0
refusal_of UnsoundMap writes tried = refused 4 0
refusal_of BadCopy writes tried = refused 16 0
refusal_of (TwoCodes nibble) writes tried = refused 10 nibble
refusal_of (LostNibble nibble) writes tried = refused 5 nibble
refusal_of (Apart lag) writes tried = answer 6 0 lag 0 0 0
refusal_of LastCount writes tried = refused 7 0
refusal_of (NoSpare slot) writes tried = answer 8 0 (pos 0) slot writes tried
refusal_of (MapByte address) writes tried = answer 9 0 (pos 0) address writes tried
refusal_of (PowerLost address) writes tried = refused 11 address

-- the answer of a call that ended so
unfoldable pub answer_of : Verdict → ℕ → ℕ → Answer
answer_of (Ok (count, lag)) writes tried = answer 0 count lag 0 writes tried
answer_of (Err why) writes tried = refusal_of why writes tried

-- what a door gives: its answer, and the chip afterwards
pub record Outcome : Type 0 where
  pub says : Answer
  pub leaves : Chip

abbrev pub outcome : Answer → Chip → Outcome
outcome says leaves = record { says = says; leaves = leaves }

-- the outcome of a call's work; its writes are those asked for, worn cells included
abbrev pub outcome_of : Run Verdict → Outcome
outcome_of r = outcome (answer_of r.answer (length r.log) r.tried) r.after

-- work on the count and the lag that were read; a refusal touches nothing
abbrev pub on_good : Verdict → (ℕ → ℤ → Run Verdict) → Chip → Run Verdict
on_good (Ok (count, lag)) work s = work count lag
on_good (Err why) work s = still (Err why) s

-- the work, if the test holds; else a refusal, which touches nothing
abbrev pub provided : Bool → Refusal → Chip → Run Verdict → Run Verdict
provided true why s work = work
provided false why s work = still (Err why) s

-- how a call ends, given how it ends when its storing is done
abbrev pub ending : Verdict → Work → Verdict
ending v (Ok tt) = v
ending v (Err why) = Err why

-- a call that is its storing
abbrev pub ◌ending_in◌ : Run Work → Verdict → Run Verdict
r ending_in v = r giving ending v r.answer

-- one piece of storing, and, if that was done, what comes next
abbrev pub proceed : Work → Run Work → Run Work → Run Work
proceed (Ok tt) r rest = r then rest
proceed (Err why) r rest = r

abbrev pub ◌and_then◌ : Run Work → (Chip → Run Work) → Run Work
r and_then work = let rest = work r.after in proceed r.answer r rest
