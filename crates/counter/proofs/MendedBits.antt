-- The counts of mended bits (document 02, P1).
--   bits_good                 where a count is answered they are those of the data cells
--   bits_refused              a refusal has eight zeros
--   bits_held, bits_exact     where all slots hold the count's codes nothing was mended
use Rattle.counter.specs.Verdict.{read_as}
use Rattle.std.proofs.Common.{◌≡◌, ℕ, ◌%◌, ◌^◌, ◌<◌, ◌≤◌, false, List, ℤ, ap, ◌∙◌, Err}
use Rattle.cells.specs.Chip.{Chip}
use Rattle.code.specs.Readings.{reading_of}
use Rattle.code.specs.Gray.{gray_of}
use Rattle.code.specs.Mended.{mended_in, bit_counts, no_bits}
use Rattle.code.proofs.ReadingLaws.{nibble_unmended}
use Rattle.code.proofs.MendedLaws.{counts_none}
use Rattle.counter.specs.declared.places.Places.{Places}
use Rattle.counter.specs.declared.verdict.Refusal.{Refusal}
use Rattle.counter.specs.Layout.{Layout, slots}
use Rattle.counter.specs.Map.{map_in}
use Rattle.counter.specs.Reading.{data_at, verdict_of}
use Rattle.counter.specs.Mended.{bits_of}
use Rattle.counter.specs.Store.{slot_code}
use Rattle.counter.specs.Inside.{Holds}
use Rattle.counter.proofs.Exact.{Exact, exact_reads}

slot_unmended : (c k i : ℕ) → mended_in i (reading_of (slot_code c k)) ≡ false
unfolding slot_code
slot_unmended c k i = nibble_unmended (gray_of c) (k % 8) i

module _ (layout : Layout) (p : Places) (cells : List ℕ) where
  pub bits_good : {c : ℕ} {lag : ℤ} → verdict_of layout p cells ≡ read_as c lag
      → bits_of layout p cells ≡ bit_counts (slots layout) (λ k. reading_of (data_at cells (map_in layout p cells) k))
  unfolding bits_of
  bits_good e = rw e

  pub bits_refused : {why : Refusal} → verdict_of layout p cells ≡ Err why → bits_of layout p cells ≡ no_bits
  unfolding bits_of
  bits_refused e = rw e

  pub bits_held : {c : ℕ} {lag : ℤ} → verdict_of layout p cells ≡ read_as c lag → Holds layout p c cells → bits_of layout p cells ≡ no_bits
  bits_held {c} e held =
      bits_good e ∙ counts_none (slots layout) _ (λ k i l. ap (λ (b : ℕ). mended_in i (reading_of b)) (held k l) ∙ slot_unmended c k i)

pub bits_exact :
    {layout : Layout} {p : Places} {c : ℕ} {s : Chip} → Exact layout p c s → 1 ≤ layout.copies → c < 2 ^ 32
    → bits_of layout p s.cells ≡ no_bits
bits_exact {layout} {p} {c} {s} exact one small =
    bits_held layout p s.cells (exact_reads exact one small) exact.held
