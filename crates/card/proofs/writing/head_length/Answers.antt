-- `head_length` meets its contract.
use native.Mathlib.Omega.{arith}
use Rattle.card.proofs.WriteLaws.{length_head}
use Rattle.card.proofs.writing.head_length.Goals as goal

pub returns : goal.returns
returns c =
    let lines = length_head c.args.fitted c.args.allowed c.args.runs in
    (omega (arith, lines), omega arith)
