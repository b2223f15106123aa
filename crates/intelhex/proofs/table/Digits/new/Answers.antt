-- `new` makes a table that is right: its entries, tested one by one.
use Rattle.std.proofs.Common.{refl}
use Rattle.intelhex.specs.Signs.{value_of}
use Rattle.intelhex.proofs.Values.{all_below, tested}
use Rattle.intelhex.proofs.table.Digits.new.Goals as goal

pub invariant_of-result : goal.invariant_of-result
unfolding all_below value_of
invariant_of-result c = rw (c.copy_from_slice.ensures.after, c.copy_from_slice-2.ensures.after, c.copy_from_slice-3.ensures.after) (record { laid = tested _ refl })
