-- What the loop of `read_decimal` keeps: `value` stands before `behind`, and is above 0. What stands behind them falls.
use lib.ListN.{length}
use Rattle.text.proofs.ReadDecimals.{Read}
use Rattle.text.proofs.reading.read_decimal.Given as goal

abbrev pub invariant-loop-digit : goal.invariant-loop-digit
invariant-loop-digit l = Read l.text l.value l.behind

abbrev pub decreases-loop-digit : goal.decreases-loop-digit
decreases-loop-digit l = length l.behind
