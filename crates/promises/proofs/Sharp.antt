-- The theorems of condition 3 are not about nothing, and their numbers cannot be lower.
--   blank_fresh, blank_lasts  setting A with 1000 good writes in each cell is fresh for 20 steps, and lasts for them
--   tight                     the settings of the smallest chip
--   sharp                     two runs on the smallest chip. The first meets the bound on data writes. In the other n good
--                             writes in each cell, n being 1, are not enough for n steps; and its refused step has written,
--                             so that the bound with n counting good steps alone would be false
--   sharp_cut                 one good write, in place of two, in a cell that a clean step writes is not enough: what a cut leaves
--                             there still reads as the count, but open refuses it
use Prim.Native.Nat.{ℕ, ◌+◌}
use mathlib.Core.Path.{◌≡◌, refl}
use mathlib.Core.List.{List, [], ◌∷◌, ◌++◌, map}
use native.Mathlib.Omega.{arith}
use lib.Count.{ones, count_trailing_zeros}
use lib.IntN.{pos}
use lib.ListN.{replicate, get_or-replicate}
use Rattle.code.specs.Codes.{codes, code_of, distance}
use Rattle.code.specs.Readings.{near_from, near, reading_of, twofold, is_lost, nibble_read}
use Rattle.code.specs.Gray.{bits, gray_of, halves_of, count_of, changed_bit}
use Rattle.code.specs.Nibbles.{nibble_of, word_of}
use Rattle.cells.specs.Chip.{Chip, chip, life_at, write_at}
use Rattle.cells.specs.Log.{asked_in}
use Rattle.cells.specs.Cut.{tear}
use Rattle.cells.specs.Put.{put_at}
use Rattle.cells.specs.Row.{next, try_at, walk, put_row}
use Rattle.counter.specs.declared.places.Places.{Places}
use Rattle.counter.specs.declared.verdict.Answer.{Answer}
use Rattle.counter.specs.Layout.{two}
use Rattle.counter.specs.Slots.{kind_of, every, some, lowest}
use Rattle.counter.specs.Places.{setting_a, places, length_good, places_good, lives_good}
use Rattle.counter.specs.Inside.{fitted}
use Rattle.counter.specs.Map.{marked, offset_in, offset_of, pointer_at, pointer_of, pointer_bytes, reachable, in_order, sound}
use Rattle.counter.specs.Spares.{whole_area, narrow, gap_to, gap_of, way_of, next_of, spares_of}
use Rattle.counter.specs.Verdict.{answer, answer_of, Outcome}
use Rattle.counter.specs.Reading.{first_read, nibble_in, count_in, close, decide, weigh, examine, verdict_of}
use Rattle.counter.specs.Store.{slot_code, mapped, put_pointer, try_spares, move_to, move_slot, store_slot, store_from, store}
use Rattle.counter.specs.Opening.{take_from, put_pointers, put_mark, first_opening}
use Rattle.counter.specs.Doors.{chip_verdict, open_run, step_run, open_of, read_of}
use Rattle.counter.specs.Trials.{trial_step_of}
use Rattle.promises.specs.Runs.{steps_up_to, steps_after, Fresh, Lasts, data_writes, data_bound}
use Rattle.counter.proofs.Ready.{pointers}
use Rattle.promises.proofs.CutSteps.{changed_slot}
use Rattle.promises.proofs.SettingA.{blank}
use Rattle.promises.proofs.ConditionThree.{wear}

pub blank_fresh : Fresh 20 two setting_a blank
unfolding blank lives_good length_good places_good
blank_fresh =
    record {
      lives = refl;
      long = refl;
      places = refl;
      blank = λ a l. get_or-replicate 129 a 0xFF 0 l;
      lasting = λ a l. let e = get_or-replicate {A = ℕ} 129 a 1000 0 l in omega arith;
    }

pub blank_lasts : Lasts 20 two setting_a blank
blank_lasts = wear 20 setting_a blank (omega arith) blank_fresh

-- the smallest chip: cell 0, the map, and an area of a cell for each slot, whose last cell, 40, is the first taken
abbrev pub tight : Places
tight = places 1 25 40

-- every cell at FF, with so many good writes in cell 40 and so many in each other
abbrev smallest : ℕ → ℕ → Chip
smallest last other = chip (replicate 41 0xFF) (replicate 40 other ++ (last ∷ []))

-- at most two steps on it, opened: the codes that they answered, and their data writes
abbrev measure : Chip → (List ℕ) × ℕ
measure s = (map (λ (a : Answer). a.code) (steps_after 2 two tight s).answer, data_writes tight (steps_after 2 two tight s).log)

pub sharp : (measure (smallest 9 9) ≡ (0 ∷ 0 ∷ [], data_bound two 2 tight)) × (measure (smallest 1 9) ≡ (8 ∷ [], data_bound two 0 tight + 1))
unfolding codes code_of distance ones near_from near reading_of twofold is_lost nibble_read bits gray_of halves_of count_of nibble_of word_of write_at asked_in put_at next try_at walk put_row kind_of every some lowest length_good places_good marked offset_in offset_of pointer_at pointer_of pointer_bytes reachable in_order sound whole_area narrow gap_to gap_of way_of next_of spares_of answer_of first_read nibble_in count_in close decide weigh examine verdict_of slot_code mapped put_pointer try_spares move_to move_slot store_slot store_from store take_from put_pointers put_mark first_opening lives_good chip_verdict open_run step_run steps_up_to data_bound fitted
sharp = (refl, refl)

-- the smallest chip, whose opening leaves one good write in the cell of slot 0
abbrev worn : Outcome
worn = open_of two tight (smallest 2 9)

-- and a step on it cut in its first write, which leaves 00 there
abbrev torn : Chip
torn = (trial_step_of two tight 0 0x00 worn.leaves).leaves

pub sharp_cut :
    (worn.says.code ≡ 0)
    × (life_at worn.leaves (pointers two tight worn.leaves (changed_slot 0 0)) ≡ 1)
    × (read_of two tight torn.cells ≡ answer 0 0 (pos 0) 0 0 0)
    × ((open_of two tight torn).says.code ≡ 8)
unfolding codes code_of distance ones near_from near reading_of twofold is_lost nibble_read bits gray_of halves_of count_of nibble_of word_of write_at asked_in put_at next try_at walk put_row kind_of every some lowest length_good places_good marked offset_in offset_of pointer_at pointer_of pointer_bytes reachable in_order sound whole_area narrow gap_to gap_of way_of next_of spares_of answer_of first_read nibble_in count_in close decide weigh examine verdict_of slot_code mapped put_pointer try_spares move_to move_slot store_slot store_from store take_from put_pointers put_mark first_opening lives_good chip_verdict open_run step_run steps_up_to data_bound fitted tear open_of trial_step_of read_of changed_bit count_trailing_zeros
sharp_cut = (refl, refl, refl, refl)
