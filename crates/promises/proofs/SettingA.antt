-- The theorems are not about nothing: a blank image of setting A (document 01, "Measured on the bench") is ready to be
-- opened, is opened, and holds count 0 exactly then; a step on it is clean, and a byte torn there may read in each of the four ways.
use Rattle.counter.specs.Verdict.{complete}
use Rattle.std.proofs.Common.{Ok}
use Prim.Native.Nat.{ℕ, zero, suc, ◌≤◌, ◌<◌}
use mathlib.Core.Path.{◌≡◌, refl}
use native.Mathlib.Omega.{arith}
use lib.Count.{ones, count_trailing_zeros}
use lib.ListN.{replicate}
use Rattle.code.specs.Codes.{codes, code_of, distance}
use Rattle.code.specs.Readings.{near_from, near, reading_of, is_lost, nibble_read}
use Rattle.code.specs.Gray.{bits, gray_of, changed_bit}
use Rattle.code.specs.Nibbles.{nibble_of}
use Rattle.cells.specs.Chip.{Chip, chip, life_at, write_at}
use Rattle.cells.specs.Put.{put_at}
use Rattle.cells.specs.Row.{next, try_at, walk, put_row}
use Rattle.counter.specs.Layout.{two}
use Rattle.counter.specs.Slots.{kind_of}
use Rattle.counter.specs.Places.{setting_a, length_good, places_good}
use Rattle.counter.specs.Map.{offset_in, offset_of, pointer_at, pointer_of, pointer_bytes}
use Rattle.counter.specs.Spares.{whole_area, narrow, way_of, next_of, spares_of}
use Rattle.counter.specs.Store.{mapped, put_pointer, try_spares}
use Rattle.counter.specs.Opening.{take_from, put_pointers, put_mark, first_opening}
use Rattle.counter.proofs.Ready.{pointers, Ready}
use Rattle.counter.proofs.Exact.{Exact, exact_opened}
use Rattle.promises.proofs.CutSteps.{changed_slot, Clean}
use Rattle.promises.proofs.TornReads.{old_nibble, new_nibble, ReadsLost, ReadsAs, ReadsOther}

-- every cell at FF, with 1000 good writes in each
unfoldable pub blank : Chip
blank = chip (replicate 129 0xFF) (replicate 129 1000)

pub blank_ready : Ready two setting_a blank
unfolding blank length_good places_good
blank_ready = record { paired = refl; long = refl; good = refl }

pub blank_opens : (first_opening two setting_a blank).answer ≡ complete
unfolding blank codes code_of write_at put_at next try_at walk put_row kind_of offset_in offset_of pointer_bytes whole_area narrow way_of next_of spares_of mapped put_pointer try_spares take_from put_pointers put_mark first_opening
blank_opens = refl

-- as its first opening leaves it
abbrev pub opened_blank : Chip
opened_blank = (first_opening two setting_a blank).after

pub opened_exact : Exact two setting_a 0 opened_blank
opened_exact = exact_opened blank_ready blank_opens

-- a step on it is clean
lives_left : (life_at opened_blank (pointers two setting_a opened_blank (changed_slot 0 0)) ≡ 999) × (life_at opened_blank (pointers two setting_a opened_blank (changed_slot 0 1)) ≡ 999)
unfolding blank codes code_of write_at put_at next try_at walk put_row kind_of offset_in offset_of pointer_at pointer_of pointer_bytes whole_area narrow way_of next_of spares_of mapped put_pointer try_spares take_from put_pointers put_mark first_opening bits changed_bit count_trailing_zeros
lives_left = (refl, refl)

pub opened_clean : Clean two setting_a 0 opened_blank
opened_clean = record { exact = opened_exact; below = omega arith; life = life }
  where
    life : (copy : ℕ) → copy < 2 → 2 ≤ life_at opened_blank (pointers two setting_a opened_blank (changed_slot 0 copy))
    life zero l = rw lives_left.0 (omega arith)
    life (suc zero) l = rw lives_left.1 (omega arith)
    life (suc (suc copy)) l = absurd (omega arith)

-- 00, and the codes of 0, 1 and 2, in place of a 0 that was to become a 1
pub ways_met : ReadsLost 0x00 × ReadsAs (old_nibble 0) (code_of 0) × ReadsAs (new_nibble 0) (code_of 1) × ReadsOther 0 (code_of 2)
unfolding codes code_of distance ones near_from near reading_of is_lost nibble_read bits gray_of nibble_of changed_bit count_trailing_zeros
ways_met = (refl, (refl, refl), (refl, refl), record { has = refl; old = λ e. omega arith; new = λ e. omega arith })
