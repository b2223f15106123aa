-- `table::lent` meets its contract: the rule fills a list of 256 entries, which is the table itself.
use Prim.Native.Nat.{ℕ}
use mathlib.Core.Path.{◌≡◌, refl, sym, ◌∙◌}
use mathlib.Core.List.{List}
use lib.Count.{ones_in, count_trailing_zeros}
use Rattle.code.specs.Codes.{codes, code_of}
use Rattle.code.specs.Tabulate.{tabulate}
use Rattle.code.proofs.QuickLaws.{quick_entry, entries_quick}
use Rattle.code.proofs.table.lent.Goals as goal

pub returns : goal.returns
unfolding codes code_of ones_in count_trailing_zeros
returns c = let quick : ◌≡◌ {A = List ℕ} _ (tabulate quick_entry 0 256) = refl in quick ∙ sym entries_quick
