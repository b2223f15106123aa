-- `mended::mended_bits` meets its contract: the bytes passed are counted.
use mathlib.Core.Path.{◌≡◌, refl, ap, ◌∙◌}
use native.Mathlib.Omega.{arith}
use native.Mathlib.Numerals.{add-one}
use lib.ListN.{get_or}
use Rattle.code.specs.Readings.{reading_of}
use Rattle.code.specs.Entries.{reading_at}
use Rattle.code.specs.Mended.{mended_in, how_many, bit_counts}
use Rattle.code.proofs.TabulateLaws.{at, filled}
use Rattle.code.proofs.ReadingLaws.{entry_reading}
use Rattle.code.proofs.MendedLaws.{many_most}
use Rattle.code.proofs.mended.mended_bits.Goals as goal

pub loop-byte-init : goal.loop-byte-init
unfolding how_many
loop-byte-init c = record { size = refl; each = at (λ i. 0) 0 8 }

pub add_entry-requires : goal.add_entry-requires
add_entry-requires c = (
  c.loop-byte.invariant.size,
  λ i l. omega (arith, c.loop-byte.invariant.each i l, many_most c.loop-byte.byte-index (λ k. mended_in i (reading_of (get_or c.args.bytes.now k 0)))),
)

pub loop-byte-preserved : goal.loop-byte-preserved
unfolding how_many
loop-byte-preserved c =
    let reads = ap reading_at c.entry_of.ensures ∙ entry_reading _ (c.fits-bytes c.loop-byte.byte-index) in
    record {
      size = c.add_entry.ensures.0;
      each = λ i l. c.add_entry.ensures.1 i l ∙ rw (c.loop-byte.invariant.each i l, reads, add-one c.loop-byte.byte-index);
    }

pub returns : goal.returns
unfolding bit_counts
returns c =
    let all : c.loop-byte.byte-index ≡ 16 = omega arith in
    filled _ 0 c.loop-byte.counts 8 c.loop-byte.invariant.size (rw all at c.loop-byte.invariant.each)
