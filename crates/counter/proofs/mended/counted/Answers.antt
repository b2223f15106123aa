-- `mended::counted` meets its contract: the bytes are those at the pointers.
use Rattle.std.proofs.Common.{ap, ◌∙◌}
use Rattle.code.specs.Readings.{reading_of}
use Rattle.code.proofs.MendedLaws.{counts_same}
use Rattle.counter.proofs.mended.counted.Goals as goal

pub returns : goal.returns
returns c = c.mended_bits.ensures ∙ counts_same 16 _ _ (λ k l. ap reading_of (c.data_of.ensures k l))
