-- A first opening (document 01, "Storing, opening, stepping"): addresses are taken as spares are tried, only
-- those taken so far counting as pointers; then come the pointers, in order, and the mark.
use Rattle.std.specs.Prelude.{ℕ, zero, suc, ◌+◌, List, [], ◌∷◌, Option, Some, None, Err}
use Rattle.code.specs.Codes.{code_of}
use Rattle.cells.specs.Chip.{Chip}
use Rattle.cells.specs.Run.{Run, run, still, ◌then◌, ◌giving◌}
use Rattle.cells.specs.Row.{put_row}
use Rattle.counter.specs.declared.places.Places.{Places}
use Rattle.counter.specs.declared.spares.Gap.{Gap}
use Rattle.counter.specs.declared.verdict.Refusal.TheVariants.{NoSpare}
use Rattle.counter.specs.Layout.{Layout, slots}
use Rattle.counter.specs.Slots.{kind_of}
use Rattle.counter.specs.Map.{mark_bytes}
use Rattle.counter.specs.Spares.{whole_area, narrow}
use Rattle.counter.specs.Verdict.{◌and_then◌, Work, complete}
use Rattle.counter.specs.Store.{try_spares, put_pointer, mapped}

-- how the taking ended, and the addresses taken, lowest slot first
pub record Taken : Type 0 where
  pub work : Work
  pub addresses : List ℕ

abbrev pub taken : Work → List ℕ → Taken
taken work addresses = record { work = work; addresses = addresses }

-- the address a, if one was found, and then the rest, which depends on it; else slot k has none
abbrev pub on_taken : Option ℕ → ℕ → (ℕ → Run Taken) → Chip → Run Taken
on_taken (Some a) k rest s = let r = rest a in r giving taken r.answer.work (a ∷ r.answer.addresses)
on_taken None k rest s = still (taken (Err (NoSpare k)) []) s

-- 80, the code of 0, put for the n slots from k on at addresses that a gap leaves
unfoldable pub take_from : ℕ → ℕ → Gap → Chip → Run Taken
take_from zero k g s = still (taken complete []) s
take_from (suc n) k g s =
    let r = try_spares k g (code_of 0) s in
    r then on_taken r.answer k (λ a. take_from n (k + 1) (narrow (kind_of k) a g) r.after) r.after

-- addresses put as the pointers of the slots from k on
unfoldable pub put_pointers : List ℕ → ℕ → Layout → Places → Chip → Run Work
put_pointers [] k layout p s = still complete s
put_pointers (a ∷ rest) k layout p s = put_pointer layout p k a s and_then put_pointers rest (k + 1) layout p

-- the mark, A5 and then 5A
unfoldable pub put_mark : Layout → Places → Chip → Run Work
put_mark layout p s = let r = put_row mark_bytes p.map s in r giving mapped r.answer

-- the same work, its addresses counting as none tried
abbrev pub untried : {A : Type 0} → Run A → Run A
untried r = run r.answer r.log 0 r.after

-- all addresses taken, then all pointers put, then the mark
unfoldable pub first_opening : Layout → Places → Chip → Run Work
first_opening layout p s =
    let r = untried (take_from (slots layout) 0 (whole_area p) s) in
    r giving r.answer.work and_then λ t. put_pointers r.answer.addresses 0 layout p t and_then put_mark layout p
