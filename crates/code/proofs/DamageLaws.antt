-- What a cell reads as that held a code and was damaged (document 02, P3).
--   code_whole        no code is 00 or FF, which an erased cell shows
--   kept_whole        what is not lost is neither
--   erased_unmended   neither was mended in some bit
--   flipped_mended    a code with one bit flipped reads mended, to its nibble and in that bit, unless it has become 00 or FF
--   Shows             what a cell may show that held the code of d: the code, the code with one bit flipped, or 00 or FF
--   shows_byte        that is a byte
--   shows_reads       where it is neither 00 nor FF it is not lost, and reads as d
use mathlib.Core.Path.{◌≡◌, refl, ap, ◌∙◌}
use mathlib.Core.Bool.{Bool, true, false, cond, ◌||◌, true≢false}
use Prim.Native.Nat.{ℕ, ◌^◌, ◌<◌}
use native.Mathlib.Omega.{arith}
use borrow.Author.Tests.{eqb-true}
use lib.Bits.{xor_lt}
use lib.Count.{ones_in, count_trailing_zeros}
use lib.Dec.{eqb}
use lib.Pow.{pow-lt}
use Rattle.code.specs.declared.reading.Reading.{Reading}
use Rattle.code.specs.declared.reading.Reading.TheVariants.{Mended, Lost}
use Rattle.code.specs.Codes.{codes, code_of}
use Rattle.code.specs.Readings.{erased, reading_of, is_lost, nibble_read}
use Rattle.code.specs.Mended.{mended_in}
use Rattle.code.specs.Tabulate.{tabulate}
use Rattle.code.proofs.TabulateLaws.{agree}
use Rattle.code.proofs.CodeLaws.{code_small}
use Rattle.code.proofs.QuickLaws.{quick_reading, reading_quick}
use Rattle.code.proofs.ReadingLaws.{flipped, code_clean}

-- no code is what an erased cell shows
pub code_whole : (d : ℕ) → d < 16 → erased (code_of d) ≡ false
unfolding codes code_of
code_whole = agree (λ d. erased (code_of d)) (λ d. false) 16 refl

-- what is not lost is not what an erased cell shows
pub kept_whole : (b : ℕ) → is_lost (reading_of b) ≡ false → erased b ≡ false
unfolding reading_of is_lost
kept_whole b kept = go (erased b) refl
  where
    go : (gone : Bool) → erased b ≡ gone → erased b ≡ false
    go true e = absurd (true≢false (rw e at kept))
    go false e = e

-- what an erased cell shows was mended in no bit
pub erased_unmended : (b i : ℕ) → erased b ≡ true → mended_in i (reading_of b) ≡ false
unfolding reading_of mended_in
erased_unmended b i gone = rw gone

-- ---- one bit flipped

flipped_small : (d bit : ℕ) → bit < 8 → flipped d bit < 256
flipped_small d bit inside = xor_lt 8 (code_of d) (2 ^ bit) (code_small d) (pow-lt inside)

-- what a code with one bit flipped is to read as
abbrev due : ℕ → ℕ → Reading
due d bit = cond (erased (flipped d bit)) Lost (Mended d bit)

-- the test over the eight flips of each code
flips_right : (d : ℕ) → d < 16 → tabulate (λ bit. quick_reading (flipped d bit)) 0 8 ≡ tabulate (due d) 0 8
unfolding codes code_of ones_in count_trailing_zeros
flips_right = agree (λ d. tabulate (λ bit. quick_reading (flipped d bit)) 0 8) (λ d. tabulate (due d) 0 8) 16 refl

-- a code with one bit flipped reads mended, to its nibble and in that bit, unless it has become 00 or FF
pub flipped_mended : (d bit : ℕ) → d < 16 → bit < 8 → erased (flipped d bit) ≡ false → reading_of (flipped d bit) ≡ Mended d bit
flipped_mended d bit small inside whole =
    reading_quick (flipped d bit) (flipped_small d bit inside)
    ∙ agree (λ bit. quick_reading (flipped d bit)) (due d) 8 (flips_right d small) bit inside
    ∙ ap (λ (gone : Bool). cond gone Lost (Mended d bit)) whole

-- ---- any damage

-- what a cell may show that held the code of d
pub data Shows (d b : ℕ) : Type 0 where
  code : b ≡ code_of d → Shows d b
  flip : (bit : ℕ) → bit < 8 → b ≡ flipped d bit → Shows d b
  erasure : erased b ≡ true → Shows d b

-- that is a byte
pub shows_byte : (d b : ℕ) → Shows d b → b < 256
shows_byte d b (code e) = rw e (code_small d)
shows_byte d b (flip bit inside e) = rw e (flipped_small d bit inside)
shows_byte d b (erasure gone) = go (eqb b 0x00) (eqb b 0xFF) refl refl gone
  where
    go : (none all : Bool) → eqb b 0x00 ≡ none → eqb b 0xFF ≡ all → none || all ≡ true → b < 256
    go true all e f either = omega (arith, eqb-true b 0x00 e)
    go false true e f either = omega (arith, eqb-true b 0xFF f)
    go false false e f either = absurd (true≢false cc)

-- where it is neither 00 nor FF it is not lost, and reads as d
pub shows_reads : (d b : ℕ) → d < 16 → Shows d b → erased b ≡ false → (is_lost (reading_of b) ≡ false) × (nibble_read (reading_of b) ≡ d)
unfolding is_lost nibble_read
shows_reads d b small (code e) whole = rw (e, code_clean d small) (refl, refl)
shows_reads d b small (flip bit inside e) whole = rw (e, flipped_mended d bit small inside (rw e at whole)) (refl, refl)
shows_reads d b small (erasure gone) whole = absurd (true≢false cc)
