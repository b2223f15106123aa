-- `kept::may_have_moved` meets its contract.
use native.Mathlib.Omega.{arith}
use Rattle.std.proofs.lemmas.Bool.Decides.{nat_tests}
use Rattle.room.specs.Kept.{may_have_moved}
use Rattle.room.proofs.kept.may_have_moved.Goals as goal

pub returns-then-answer-eq-MAP_BYTE_FAILED : goal.returns-then-answer-eq-MAP_BYTE_FAILED
unfolding may_have_moved
returns-then-answer-eq-MAP_BYTE_FAILED c = grind (arith, nat_tests)

pub returns-else-answer-eq-MAP_BYTE_FAILED : goal.returns-else-answer-eq-MAP_BYTE_FAILED
unfolding may_have_moved
returns-else-answer-eq-MAP_BYTE_FAILED c = grind (arith, nat_tests)
