-- Which bits were mended (document 02, P1): what a read answers beside its count.
use Rattle.counter.specs.Verdict.{Verdict}
use Rattle.std.specs.Prelude.{ℕ, List, Ok, Err}
use Rattle.code.specs.Readings.{reading_of}
use Rattle.code.specs.Mended.{bit_counts, no_bits}
use Rattle.counter.specs.declared.places.Places.{Places}
use Rattle.counter.specs.Layout.{Layout, slots}
use Rattle.counter.specs.Map.{map_in}
use Rattle.counter.specs.Reading.{data_at, verdict_of}

-- the counts where a count is answered; a refusal returns eight zeros
abbrev pub if_good : Verdict → List ℕ → List ℕ
if_good (Ok (count, lag)) counts = counts
if_good (Err why) counts = no_bits

-- how many of the data cells read mended in each of the bits 0 to 7
unfoldable pub bits_of : Layout → Places → List ℕ → List ℕ
bits_of layout p cells =
    let byte : ℕ → ℕ = data_at cells (map_in layout p cells) in
    if_good (verdict_of layout p cells) (bit_counts (slots layout) (λ k. reading_of (byte k)))
