-- `map::offset_of` meets its contract.
use Rattle.std.proofs.Common.{sym, ◌∙◌}
use Rattle.counter.proofs.Offsets.{low_slot, high_slot, offset_low, offset_high}
use Rattle.counter.proofs.map.offset_of.Goals as goal

pub returns-in-Low : goal.returns-in-Low
returns-in-Low c = sym (offset_low _ (low_slot _ (sym c.of.ensures ∙ c.in-Low.is)))

pub returns-in-High : goal.returns-in-High
returns-in-High c = sym (offset_high _ (high_slot _ (sym c.of.ensures ∙ c.in-High.is)))
