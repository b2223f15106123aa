-- A first opening asks few writes: fewer than a call has power for that is not cut.
--   take_few                  taking addresses asks at most one write for each cell of the gap
--   opening_few               all of it
use Rattle.std.proofs.Common.{◌≡◌, ℕ, zero, suc, ◌+◌, ◌*◌, ◌≤◌, List, [], ◌∷◌, length, refl, arith, length-append, Ok, Err}
use Rattle.code.specs.Codes.{code_of}
use Rattle.cells.specs.Chip.{Chip, Paired}
use Rattle.cells.specs.Run.{Run}
use Rattle.cells.proofs.Writes.{kept_paired}
use Rattle.cells.proofs.Rows.{row_cost}
use Rattle.counter.specs.declared.places.Places.{Places}
use Rattle.counter.specs.declared.spares.Gap.{Gap}
use Rattle.counter.specs.Layout.{Layout, slots}
use Rattle.counter.specs.Slots.{kind_of}
use Rattle.counter.specs.Map.{mark_bytes}
use Rattle.counter.specs.Spares.{whole_area, narrow}
use Rattle.counter.specs.Verdict.{◌and_then◌, Work}
use Rattle.counter.specs.Store.{try_spares, put_pointer}
use Rattle.counter.specs.Opening.{take_from, put_pointers, put_mark, first_opening}
use Rattle.counter.proofs.Ready.{Ready, ready_placed}
use Rattle.counter.proofs.Fitted.{ready_short}
use Rattle.counter.proofs.Tries.{room, Landing, Trying, Trying.missing, Trying.landing, try_laws}
use Rattle.counter.proofs.Stores.{done_then, stopped_then}
use Rattle.counter.proofs.StoreCosts.{pointer_few}
use Rattle.counter.proofs.Takes.{take_laws}
use Rattle.counter.proofs.WorkSteps.{opening_on, opening_ends}

pub take_few : (n k : ℕ) (g : Gap) (s : Chip) → Paired s → length (take_from n k g s).log ≤ room g
unfolding take_from
take_few zero k g s paired = omega arith
take_few (suc n) k g s paired = go (try_laws k g (code_of 0) s paired).trying (λ m. take_few n (k + 1) (narrow (kind_of k) m.place g) (try_spares k g (code_of 0) s).after (kept_paired m.kept paired))
  where
    go : (t : Trying k g (code_of 0) s)
        → ((m : Landing k g (code_of 0) s) → length (take_from n (k + 1) (narrow (kind_of k) m.place g) (try_spares k g (code_of 0) s).after).log ≤ room (narrow (kind_of k) m.place g))
        → length (take_from (suc n) k g s).log ≤ room g
    go (missing m) later = unfold take_from in (let h = m.cost in rw (m.nowhere, length-append) (omega arith))
    go (landing m) later = unfold take_from in (let h = m.cost in let h' = later m in rw (m.here, length-append) (omega arith))

-- one piece of storing and then another
then_few : {m n : ℕ} (r : Run Work) (work : Chip → Run Work) → length r.log ≤ m → length (work r.after).log ≤ n → length (r and_then work).log ≤ m + n
then_few {m} {n} r work one rest = go r.answer refl
  where
    go : (w : Work) → r.answer ≡ w → length (r and_then work).log ≤ m + n
    go (Ok tt) h = rw (done_then r work h, length-append) (omega arith)
    go (Err why) h = rw (stopped_then r work why h) (omega arith)

pointers_few : (layout : Layout) (addresses : List ℕ) (k : ℕ) (p : Places) (s : Chip) → length (put_pointers addresses k layout p s).log ≤ 2 * length addresses
unfolding put_pointers
pointers_few layout [] k p s = omega arith
pointers_few layout (a ∷ rest) k p s =
    let sum : 2 * suc (length rest) ≡ 2 + 2 * length rest = omega arith in
    rw sum (then_few (put_pointer layout p k a s) (put_pointers rest (k + 1) layout p) (pointer_few layout p k a s refl).0 (pointers_few layout rest (k + 1) p (put_pointer layout p k a s).after))

mark_few : (layout : Layout) (p : Places) (s : Chip) → length (put_mark layout p s).log ≤ 2
unfolding put_mark
mark_few layout p s = row_cost mark_bytes p.map s

pub opening_few : {layout : Layout} {p : Places} {s : Chip} → Ready layout p s → length (first_opening layout p s).log ≤ 4096 + (2 * slots layout + 2)
unfolding whole_area
opening_few {layout} {p} {s} ready = go (take_from (slots layout) 0 (whole_area p) s).answer.work refl
  where
    few : length (take_from (slots layout) 0 (whole_area p) s).log ≤ 4096
    few =
        let all = take_few (slots layout) 0 (whole_area p) s ready.paired in
        let fits = (ready_placed ready).end_fits in
        let short = ready_short ready in
        omega arith

    go : (w : Work) → (take_from (slots layout) 0 (whole_area p) s).answer.work ≡ w → length (first_opening layout p s).log ≤ 4096 + (2 * slots layout + 2)
    go (Ok tt) h =
        let addresses = (take_from (slots layout) 0 (whole_area p) s).answer.addresses in
        let many : length addresses ≡ slots layout = ((take_laws (slots layout) 0 (whole_area p) s ready.paired).all h).many in
        let t = (take_from (slots layout) 0 (whole_area p) s).after in
        let map = then_few (put_pointers addresses 0 layout p t) (put_mark layout p) (pointers_few layout addresses 0 p t) (mark_few layout p (put_pointers addresses 0 layout p t).after) in
        rw (opening_on layout p s h, length-append) (omega (arith, few, map, many))
    go (Err why) h = rw (opening_ends layout p s h) (omega (arith, few))
