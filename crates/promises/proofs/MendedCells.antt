-- Which bits were mended (document 02, P1), in the answer of a read.
--   refused_bits              a refusal returns eight zeros
--   mended_cells, bits_add    else the eight counts add up to the number of data cells that were mended
--   bits_most                 so they add up to no more than there are data cells
use Rattle.counter.specs.Verdict.{Verdict}
use Rattle.std.proofs.Common.{Ok, Err}
use Prim.Native.Nat.{ℕ, ◌≤◌, ◌<◌}
use mathlib.Core.Path.{◌≡◌, refl, ap, ◌∙◌}
use mathlib.Core.List.{List, sum}
use native.Mathlib.Omega.{arith}
use lib.ListN.{get_or}
use Rattle.code.specs.Readings.{reading_of}
use Rattle.code.specs.Mended.{how_many, no_bits}
use Rattle.code.proofs.ReadingLaws.{mended_flips}
use Rattle.code.proofs.MendedLaws.{total, is_mended, many_most, counts_add}
use Rattle.counter.specs.declared.places.Places.{Places}
use Rattle.counter.specs.declared.layout.Layout.{Layout}
use Rattle.counter.specs.Layout.{slots}
use Rattle.counter.specs.Map.{map_in, pointer_of}
use Rattle.counter.specs.Reading.{data_at, verdict_of}
use Rattle.counter.specs.Mended.{bits_of}
use Rattle.counter.specs.Doors.{read_of}
use Rattle.counter.proofs.DoorAnswers.{code_good, read_is, read_good}
use Rattle.counter.proofs.MendedBits.{bits_good, bits_refused}

-- how many of the data cells of an image read mended
abbrev pub mended_cells : Layout → Places → List ℕ → ℕ
mended_cells layout p cells = how_many (slots layout) (λ k. is_mended (reading_of (data_at cells (map_in layout p cells) k)))

module _ (layout : Layout) (p : Places) (cells : List ℕ) where
  pub refused_bits : ((read_of layout p cells).code ≡ 0 → ⊥) → bits_of layout p cells ≡ no_bits
  refused_bits refused = go (verdict_of layout p cells) refl
    where
      go : (v : Verdict) → verdict_of layout p cells ≡ v → bits_of layout p cells ≡ no_bits
      go (Ok (c, lag)) e = absurd (refused (rw (read_good layout p cells e) refl))
      go (Err why) e = bits_refused layout p cells e

  -- of an image of bytes
  module _ (bytes : (a : ℕ) → get_or cells a 0 < 256) where
    pub bits_add : (read_of layout p cells).code ≡ 0 → total (bits_of layout p cells) ≡ mended_cells layout p cells
    bits_add good =
        let (c, lag, e) = code_good (verdict_of layout p cells) 0 0 (rw (read_is layout p cells) at good) in
        ap total (bits_good layout p cells e)
        ∙ counts_add (slots layout) _ (λ k d bit l same. (mended_flips _ (bytes (pointer_of (map_in layout p cells) k)) d bit same).1)

    pub bits_most : total (bits_of layout p cells) ≤ slots layout
    unfolding sum
    bits_most = go (verdict_of layout p cells) refl
      where
        go : (v : Verdict) → verdict_of layout p cells ≡ v → total (bits_of layout p cells) ≤ slots layout
        go (Ok (c, lag)) e = rw (bits_add (rw (read_good layout p cells e) refl)) (many_most (slots layout) _)
        go (Err why) e = rw (bits_refused layout p cells e) (omega arith)
