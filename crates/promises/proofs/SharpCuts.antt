-- The theorem of a first opening that is cut is not about nothing, and its number cannot be lower.
--   twice_fresh               setting A with two good writes in each cell is fresh for one step, as the theorem asks
--   twice_cut                 so an opening that is cut is made good there
--   once_cut                  on the smallest chip a blank opening writes each cell of map and area once; if that cell has one good write
--                             and each other two, and the mains are lost in that write, which leaves FF, the next open is refused: 8
--                             for a cell of the area, 9 for one of the map
use Prim.Native.Nat.{ℕ}
use mathlib.Core.Path.{◌≡◌, refl}
use mathlib.Core.List.{List, [], ◌∷◌, ◌++◌}
use native.Mathlib.Omega.{arith}
use lib.ListN.{replicate, set, get_or-replicate}
use Rattle.code.specs.Codes.{codes, code_of}
use Rattle.code.specs.Tabulate.{tabulate}
use Rattle.cells.specs.Chip.{Chip, chip, write_at}
use Rattle.cells.specs.Put.{put_at}
use Rattle.cells.specs.Row.{next, try_at, walk, put_row}
use Rattle.cells.specs.Cut.{tear}
use Rattle.counter.specs.Layout.{two}
use Rattle.counter.specs.Slots.{kind_of}
use Rattle.counter.specs.Places.{setting_a, length_good, places_good, lives_good}
use Rattle.counter.specs.Map.{marked, offset_in, offset_of, pointer_bytes}
use Rattle.counter.specs.Spares.{whole_area, narrow, way_of, next_of, spares_of}
use Rattle.counter.specs.Verdict.{Outcome, answer_of}
use Rattle.counter.specs.Store.{mapped, put_pointer, try_spares}
use Rattle.counter.specs.Opening.{take_from, put_pointers, put_mark, first_opening}
use Rattle.counter.specs.Doors.{open_run, open_of}
use Rattle.counter.specs.Trials.{trial_open_of}
use Rattle.promises.specs.Runs.{Fresh}
use Rattle.promises.proofs.Sharp.{tight}
use Rattle.promises.proofs.CutOpenings.{OpensAtZero, cut_blank}

-- every cell at FF, with two good writes in each
unfoldable pub twice : Chip
twice = chip (replicate 129 0xFF) (replicate 129 2)

pub twice_fresh : Fresh 1 two setting_a twice
unfolding twice lives_good length_good places_good
twice_fresh =
    record {
      lives = refl;
      long = refl;
      places = refl;
      blank = λ a l. get_or-replicate 129 a 0xFF 0 l;
      lasting = λ a l. let e = get_or-replicate {A = ℕ} 129 a 2 0 l in omega arith;
    }

pub twice_cut : (power torn : ℕ) → OpensAtZero two setting_a (trial_open_of two setting_a power torn twice).leaves
twice_cut power torn = cut_blank setting_a twice power torn twice_fresh

-- the smallest chip, every cell at FF, with these good writes
abbrev smallest : List ℕ → Chip
smallest lives = chip (replicate 41 0xFF) lives

-- a first opening of it is cut behind so many writes, and the torn one leaves FF
abbrev cut_at : List ℕ → ℕ → Outcome
cut_at lives power = trial_open_of two tight power 0xFF (smallest lives)

-- the address of the torn write, where each cell has two good writes
abbrev torn_at : ℕ → ℕ
torn_at power = (cut_at (replicate 41 2) power).says.place

-- the code of the next open, where that cell has one good write and each other two
abbrev code_after : ℕ → ℕ
code_after power = (open_of two tight (cut_at (set (replicate 41 2) (torn_at power) 1) power).leaves).says.code

-- the cells from a on, so many
abbrev cells_from : ℕ → ℕ → List ℕ
cells_from a n = tabulate (λ (c : ℕ). c) a n

-- the cells of area and map, in the order in which a first opening writes them: data, pointers, mark
abbrev written : List ℕ
written = (40 ∷ 39 ∷ 38 ∷ []) ++ cells_from 25 5 ++ (37 ∷ 36 ∷ 35 ∷ []) ++ cells_from 30 5 ++ cells_from 3 22 ++ cells_from 1 2

pub once_cut : (tabulate torn_at 0 40 ≡ written) × (tabulate code_after 0 40 ≡ replicate 16 8 ++ replicate 24 9)
unfolding codes code_of write_at put_at next try_at walk put_row tear kind_of length_good places_good lives_good marked offset_in offset_of pointer_bytes whole_area narrow way_of next_of spares_of answer_of mapped put_pointer try_spares take_from put_pointers put_mark first_opening open_run open_of trial_open_of
once_cut = (refl, refl)
