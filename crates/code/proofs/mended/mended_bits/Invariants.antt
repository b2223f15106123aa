-- What the loop of `mended::mended_bits` keeps: the counts are those of the bytes so far.
use Prim.Native.Nat.{ℕ, ◌<◌}
use mathlib.Core.Path.{◌≡◌}
use lib.ListN.{length, get_or}
use Rattle.code.specs.Readings.{reading_of}
use Rattle.code.specs.Mended.{mended_in, how_many}
use Rattle.code.proofs.mended.mended_bits.Given as goal

abbrev pub invariant-loop-byte : goal.invariant-loop-byte
invariant-loop-byte l =
    record {
      size : length l.counts ≡ 8;
      each : (i : ℕ) → i < 8 → get_or l.counts i 0 ≡ how_many l.byte-index (λ k. mended_in i (reading_of (get_or l.bytes k 0)));
    }
