-- What damage a count outlives (document 02, P3). A chip holds c exactly, and cells of its area change: each data cell may have one
-- bit flipped or be erased, if of each nibble some copy shows neither 00 nor FF. A read then still answers c, with lag 0.
--   shown, Damaged   such a change
--   damaged_reads    what is read then; of the counts of mended bits it says nothing
--   erased_reads     the whole answer, where any one data cell was erased: nothing was mended
--   open_outlives, step_outlives   damaged_reads, of what a good open or step left
use Rattle.std.proofs.Common.{Ok}
use Prim.Native.Nat.{ℕ, ◌+◌, ◌*◌, ◌%◌, ◌^◌, ◌≤◌, ◌<◌}
use mathlib.Core.Path.{◌≡◌, ap, ◌∙◌}
use mathlib.Core.Bool.{true, false}
use mathlib.Core.List.{List}
use native.Mathlib.Decide.{ℕ_discrete}
use native.Mathlib.Omega.{arith}
use lib.IntN.{pos}
use Rattle.code.specs.Codes.{code_of}
use Rattle.code.specs.Readings.{erased, reading_of, is_lost, nibble_read}
use Rattle.code.specs.Gray.{gray_of}
use Rattle.code.specs.Nibbles.{nibble_of}
use Rattle.code.specs.Mended.{mended_in, no_bits}
use Rattle.code.proofs.NibbleLaws.{nibble_small}
use Rattle.code.proofs.ReadingLaws.{nibble_unmended}
use Rattle.code.proofs.MendedLaws.{counts_none}
use Rattle.code.proofs.DamageLaws.{Shows, Shows.code, Shows.erasure, code_whole, kept_whole, erased_unmended, shows_byte, shows_reads}
use Rattle.cells.specs.Chip.{Chip, cell_at, Kept}
use Rattle.cells.proofs.Writes.{kept_wider}
use Rattle.counter.specs.declared.places.Places.{Places}
use Rattle.counter.specs.declared.layout.Layout.{Layout}
use Rattle.counter.specs.Layout.{slots}
use Rattle.counter.specs.Map.{map_in, pointer_of}
use Rattle.counter.specs.Reading.{weigh, verdict_of}
use Rattle.counter.specs.Mended.{bits_of}
use Rattle.counter.specs.Verdict.{answer, read_as}
use Rattle.counter.specs.Doors.{open_of, step_of, read_of, read_answer_of}
use Rattle.counter.proofs.SoundPointers.{Inside}
use Rattle.counter.proofs.Ready.{pointers, ready_kept, map_kept}
use Rattle.counter.proofs.ReadBack.{slot_code_lem, Spared, Legible, weigh_legible}
use Rattle.counter.proofs.Exact.{Exact, read_weighed}
use Rattle.counter.proofs.MendedBits.{bits_good}
use Rattle.counter.proofs.DoorAnswers.{read_good}
use Rattle.promises.proofs.TurnsAndCells.{left_by_open, left_by_step, reads_clean}

-- what the cell of slot k in s shows in t
abbrev pub shown : Layout → Places → Chip → Chip → ℕ → ℕ
shown layout p s t k = cell_at t (pointers layout p s k)

-- from s, which holds c, to t
pub record Damaged (layout : Layout) (p : Places) (c : ℕ) (s t : Chip) : Type 0 where
  pub kept : Kept (Inside p) s t
  pub shows : (k : ℕ) → k < slots layout → Shows (nibble_of (gray_of c) (k % 8)) (shown layout p s t k)
  pub spared : (n : ℕ) → n < 8 → Spared layout (λ k. erased (shown layout p s t k)) n

module _ {layout : Layout} {p : Places} {c : ℕ} {s t : Chip} (exact : Exact layout p c s) (small : c < 2 ^ 32) where
  module _ (damaged : Damaged layout p c s t) where
    map_same : map_in layout p t.cells ≡ map_in layout p s.cells
    map_same = map_kept exact.ready damaged.kept

    slot_reads : (k : ℕ) → k < slots layout → erased (shown layout p s t k) ≡ false
        → (is_lost (reading_of (shown layout p s t k)) ≡ false) × (nibble_read (reading_of (shown layout p s t k)) ≡ nibble_of (gray_of c) (k % 8))
    slot_reads k l = shows_reads _ _ (nibble_small (gray_of c) (k % 8)) (damaged.shows k l)

    legible : Legible layout c (shown layout p s t)
    legible =
        record {
          bytes = λ k l. shows_byte _ _ (damaged.shows k l);
          told = λ k l has. (slot_reads k l (kept_whole _ has)).1;
          spared = λ n m. let (copy, l, whole) = damaged.spared n m in (copy, l, (slot_reads (8 * copy + n) (omega arith) whole).0);
        }

    damaged_verdict : verdict_of layout p t.cells ≡ read_as c (pos 0)
    damaged_verdict =
        read_weighed (ready_kept exact.ready damaged.kept) (rw map_same exact.marks) (rw map_same exact.sound)
        ∙ ap (λ (map : List ℕ). weigh layout (λ k. cell_at t (pointer_of map k))) map_same ∙ weigh_legible layout small legible

    pub damaged_reads : read_of layout p t.cells ≡ answer 0 c (pos 0) 0 0 0
    damaged_reads = read_good layout p t.cells damaged_verdict

  -- of two copies or more, with the cell of slot k erased and no other changed
  module _ (copies : 2 ≤ layout.copies) (k : ℕ) (inside : k < slots layout)
      (kept : Kept (λ a. a ≡ pointers layout p s k) s t) (gone : erased (shown layout p s t k) ≡ true) where
    others : (j : ℕ) → j < slots layout → (j ≡ k → ⊥) → shown layout p s t j ≡ code_of (nibble_of (gray_of c) (j % 8))
    others j l other = kept.cell _ (exact.sound.apart j k l inside other) ∙ exact.held j l ∙ slot_code_lem c j

    others_whole : (j : ℕ) → j < slots layout → (j ≡ k → ⊥) → erased (shown layout p s t j) ≡ false
    others_whole j l other = ap erased (others j l other) ∙ code_whole _ (nibble_small (gray_of c) (j % 8))

    shows : (j : ℕ) → j < slots layout → Dec (j ≡ k) → Shows (nibble_of (gray_of c) (j % 8)) (shown layout p s t j)
    shows j l (yes e) = erasure (rw e gone)
    shows j l (no other) = code (others j l other)

    spared : (n : ℕ) → n < 8 → Dec (8 * 0 + n ≡ k) → Spared layout (λ j. erased (shown layout p s t j)) n
    spared n m (yes e) = (1, omega arith, others_whole (8 * 1 + n) (omega arith) (λ q. omega arith))
    spared n m (no other) = (0, omega arith, others_whole (8 * 0 + n) (omega arith) other)

    damaged : Damaged layout p c s t
    damaged =
        record {
          kept = kept_wider (λ a e. rw e (exact.sound.inside k inside)) kept;
          shows = λ j l. shows j l (ℕ_discrete j k);
          spared = λ n m. spared n m (ℕ_discrete (8 * 0 + n) k);
        }

    unmended : (j i : ℕ) → j < slots layout → Dec (j ≡ k) → mended_in i (reading_of (shown layout p s t j)) ≡ false
    unmended j i l (yes e) = erased_unmended _ i (rw e gone)
    unmended j i l (no other) = ap (λ (b : ℕ). mended_in i (reading_of b)) (others j l other) ∙ nibble_unmended (gray_of c) (j % 8) i

    no_counts : bits_of layout p t.cells ≡ no_bits
    no_counts =
        bits_good layout p t.cells (damaged_verdict damaged)
        ∙ counts_none (slots layout) _ (λ j i l. ap (λ (map : List ℕ). mended_in i (reading_of (cell_at t (pointer_of map j)))) (map_same damaged) ∙ unmended j i l (ℕ_discrete j k))

    pub erased_reads : read_answer_of layout p t.cells ≡ reads_clean c
    erased_reads = λ i. record { answer = damaged_reads damaged i; bits = no_counts i }

module _ (layout : Layout) (p : Places) (s t : Chip) where
  pub open_outlives :
      (open_of layout p s).says.code ≡ 0 → Damaged layout p (open_of layout p s).says.count (open_of layout p s).leaves t
      → read_of layout p t.cells ≡ answer 0 (open_of layout p s).says.count (pos 0) 0 0 0
  open_outlives good = let (small, exact) = left_by_open layout p s good in damaged_reads exact small

  pub step_outlives :
      (step_of layout p s).says.code ≡ 0 → Damaged layout p (step_of layout p s).says.count (step_of layout p s).leaves t
      → read_of layout p t.cells ≡ answer 0 (step_of layout p s).says.count (pos 0) 0 0 0
  step_outlives good = let (small, exact) = left_by_step layout p s good in damaged_reads exact small
