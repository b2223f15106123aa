-- Storing and a first opening, one step of each, and the step behind it.
--   store_all                 storing a count is storing all slots from the first on
--   store_none, store_next    no slot is left, or one is stored and, if that was done, those behind it
--   changes_none, changes_next  and so with the slots that change
--   whole_gap                 before any address is taken, the gap is the area
--   take_none                 no address is left to be taken; one more is `take_landing` or `take_missing`
--   opening_on, opening_ends  all addresses were taken and the map is put, or one was not and that is all
use Rattle.std.proofs.Common.{◌≡◌, ℕ, suc, ◌+◌, [], refl, Err}
use Rattle.cells.specs.Chip.{Chip}
use Rattle.cells.specs.Run.{Run, still, ◌then◌, ◌giving◌}
use Rattle.counter.specs.declared.places.Places.{Places}
use Rattle.counter.specs.declared.spares.Gap.{Gap}
use Rattle.counter.specs.declared.verdict.Refusal.{Refusal}
use Rattle.counter.specs.Layout.{Layout, slots}
use Rattle.counter.specs.Spares.{gap, whole_area}
use Rattle.counter.specs.Verdict.{◌and_then◌, Work, complete}
use Rattle.counter.specs.Store.{slot_code, store_slot, store_from, store}
use Rattle.counter.specs.Opening.{Taken, taken, take_from, put_pointers, put_mark, untried, first_opening}
use Rattle.counter.proofs.Moves.{change}
use Rattle.counter.proofs.Stores.{done_then, stopped_then, changes}

-- ## Storing

module _ (layout : Layout) (p : Places) (c : ℕ) where
  pub store_all : (s : Chip) → store layout p c s ≡ store_from (slots layout) 0 layout p c s
  unfolding store
  store_all s = refl

  pub store_none : (k : ℕ) (s : Chip) → store_from 0 k layout p c s ≡ still complete s
  unfolding store_from
  store_none k s = refl

  pub store_next : (n k : ℕ) (s : Chip) → store_from (suc n) k layout p c s ≡ store_slot layout p k (slot_code c k) s and_then store_from n (k + 1) layout p c
  unfolding store_from
  store_next n k s = refl

module _ (byte code : ℕ → ℕ) where
  pub changes_none : (k : ℕ) → changes 0 k byte code ≡ 0
  unfolding changes
  changes_none k = refl

  pub changes_next : (n k : ℕ) → changes (suc n) k byte code ≡ change (byte k) (code k) + changes n (k + 1) byte code
  unfolding changes
  changes_next n k = refl

-- ## A first opening

pub whole_gap : (p : Places) → whole_area p ≡ gap p.start (p.end + 1)
unfolding whole_area
whole_gap p = refl

pub take_none : (k : ℕ) (g : Gap) (s : Chip) → take_from 0 k g s ≡ still (taken complete []) s
unfolding take_from
take_none k g s = refl

module _ (layout : Layout) (p : Places) (s : Chip) where
  abbrev taking : Run Taken
  taking = take_from (slots layout) 0 (whole_area p) s

  -- the map put behind it
  abbrev mapping : Chip → Run Work
  mapping t = put_pointers taking.answer.addresses 0 layout p t and_then put_mark layout p

  -- the taking as a piece of the opening, which counts no spare as tried
  abbrev took : Run Work
  took = untried taking giving taking.answer.work

  pub opening_on : taking.answer.work ≡ complete → first_opening layout p s ≡ took then mapping taking.after
  unfolding first_opening
  opening_on e = done_then took mapping e

  pub opening_ends : {why : Refusal} → taking.answer.work ≡ Err why → first_opening layout p s ≡ took
  unfolding first_opening
  opening_ends {why} e = stopped_then took mapping why e
