-- `write_byte` meets its contract: one store is one byte written.
use Rattle.std.proofs.Common.{rules}
use Rattle.text.proofs.Writing.{wrote_one}
use Rattle.text.proofs.write_byte.Goals as goal

pub returns : goal.returns
returns c = wrote_one _ _ _ (search rules)
