-- `sign_of` meets its contract, by the cases of the definition.
use Rattle.std.proofs.Common.{le-ltb, lt-ltb}
use Rattle.intelhex.specs.Signs.{digit}
use Rattle.intelhex.proofs.records.sign_of.Goals as goal

pub returns-then-d-lt10 : goal.returns-then-d-lt10
unfolding digit
returns-then-d-lt10 c = rw (lt-ltb _ 10 c.if-d-lt10.true)

pub returns : goal.returns
unfolding digit
returns c = rw (le-ltb _ 10 c.if-d-lt10.false)
