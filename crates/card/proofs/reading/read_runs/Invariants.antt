-- What the loop of `read_runs` keeps: the first `at` runs were read.
use Rattle.card.proofs.RowLaws.{Passed}
use Rattle.card.proofs.reading.read_runs.Given as goal

abbrev pub invariant-loop-at : goal.invariant-loop-at
invariant-loop-at l = Passed l.text l.runs l.at l.rest l.speeds l.turns
