-- One piece of storing behind another.
--   stopped_not               a piece that was not stopped is done
--   said_stopped, said_done, behind_done  a piece that was stopped ends the work, and behind one that was not comes the next
--   starts_and                two pieces start with the writes of the first
--   works_lost, works_stopped, works_done  the same on mains that can be lost
--   works_ok, works_steady                where there is power for every write, what is said is said of the plain work
use Rattle.std.proofs.Common.{◌≡◌, ℕ, ◌≤◌, true, false, length, sym, refl, ap, ◌∙◌, true≢false, Result, Ok, Err, IsOk, rules}
use mathlib.Core.Bool.{false≢true}
use Rattle.cells.specs.declared.mains.PowerLost.{PowerLost}
use Rattle.cells.specs.Chip.{Chip}
use Rattle.cells.specs.Run.{Run, Seen, view, plus}
use Rattle.cells.specs.Log.{write_all}
use Rattle.cells.specs.Cut.{Cut.whole, Cut.lost, sight, Says}
use Rattle.cells.proofs.Views.{said_then, said_answer}
use Rattle.cells.proofs.Cuts.{Starts, starts_same, starts_append, Left, said_lost, said_view, said_left, said_plain}
use Rattle.counter.specs.declared.store.Stored.{Stored}
use Rattle.counter.specs.Verdict.{◌and_then◌, Work, complete}
use Rattle.counter.specs.Inside.{told}
use Rattle.std.specs.Result.{is_err}
use Rattle.counter.proofs.Stores.{done_then, stopped_then}

pub stopped_not : (w : Work) → is_err w ≡ false → w ≡ complete
stopped_not (Ok tt) h = refl
stopped_not (Err why) h = absurd (true≢false h)

module _ (r : Run Work) (work : Chip → Run Work) {v : Seen Work} (e : v ≡ view r) where
  pub said_done : is_err v.answer ≡ false → view (r and_then work) ≡ plus v.writes v.tried (view (work v.after))
  said_done h = rw (done_then r work (said_answer r e (stopped_not v.answer h))) (said_then r e work)

  pub behind_done : is_err v.answer ≡ false → {u : Seen Work} → u ≡ view (work v.after) → plus v.writes v.tried u ≡ view (r and_then work)
  behind_done h f = ap (plus v.writes v.tried) f ∙ sym (said_done h)

  pub said_stopped : is_err v.answer ≡ true → view (r and_then work) ≡ v
  said_stopped h = go v.answer refl h
    where
      go : (w : Work) → v.answer ≡ w → is_err w ≡ true → view (r and_then work) ≡ v
      go (Ok tt) same h = absurd (false≢true h)
      go (Err why) same h = ap view (stopped_then r work why (said_answer r e same)) ∙ sym e

-- ## On mains that can be lost

-- two pieces start with the writes of the first
pub starts_and : (r : Run Work) (work : Chip → Run Work) → Starts r.log (r and_then work).log
starts_and r work = go r.answer refl
  where
    go : (w : Work) → r.answer ≡ w → Starts r.log (r and_then work).log
    go (Ok tt) h = rw (done_then r work h) (starts_append r.log (work r.after).log)
    go (Err why) h = rw (stopped_then r work why h) (starts_same r.log)

-- storing that lost its power, whatever comes behind it
pub works_lost : {n b : ℕ} {r : Run Work} {s t : Chip} {a : ℕ} → Says (lost a t) n b r s → (work : Chip → Run Work) → Says (lost a t) n b (r and_then work) s
works_lost {r = r} e work = said_lost e (starts_and r work)

module _ {n b : ℕ} {r : Run Work} {s : Chip} {v : Seen Work} (e : Says (whole v) n b r s) where
  pub works_stopped : (work : Chip → Run Work) → is_err v.answer ≡ true → Says (whole v) n b (r and_then work) s
  works_stopped work h = rw (ends r.answer refl (ap is_err (said_answer r (said_view e) refl) ∙ h)) e
    where
      ends : (w : Work) → r.answer ≡ w → is_err w ≡ true → r and_then work ≡ r
      ends (Ok tt) same halt = absurd (false≢true halt)
      ends (Err why) same halt = stopped_then r work why same

  pub works_done : (work : Chip → Run Work) → is_err v.answer ≡ false → r.after ≡ write_all r.log s
      → Left v.writes v.tried n b (r and_then work) s (work v.after) v.after
  works_done work h logged = rw (done_then r work (said_answer r (said_view e) (stopped_not v.answer h))) (said_left e work logged)

-- where there is power for every write
module _ {n b : ℕ} {r : Run Work} {s : Chip} (t : Chip) where
  pub works_ok : (x : Result Stored PowerLost) → Says (sight told x t) n b r s → length r.log ≤ n → IsOk x
  works_ok (Ok done) e h = search rules
  works_ok (Err loss) e h = let all = said_plain e h in absurd (true≢false cc)

  pub works_steady : {x : Result Stored PowerLost} {done : Stored} → x ≡ Ok done → Says (sight told x t) n b r s → length r.log ≤ n → told done t ≡ view r
  works_steady same e h = let all = said_plain (rw same at e) h in cc
