-- `reading::nibble_at` meets its contract.
use Rattle.std.proofs.Common.{sym, ◌∙◌}
use Rattle.counter.specs.Inside.{nibble_by}
use Rattle.counter.proofs.Weighed.{nibble_two}
use Rattle.counter.proofs.reading.nibble_at.Goals as goal

pub returns : goal.returns
unfolding nibble_by
returns c = c.nibble_of_two.ensures ∙ sym (nibble_two _ _ _ c.requires.0)
