-- `runs_length` meets its contract.
use Rattle.std.proofs.Common.{◌≡◌, rules, arith}
use Rattle.std.proofs.iter.runs.Made.{chains}
use Rattle.card.specs.Inside.{runs_length}
use Rattle.card.proofs.WriteLaws.{lengths_most}
use Rattle.card.proofs.writing.runs_length.Goals as goal

pub returns : goal.returns
returns c =
    let is : c.sum.result ≡ runs_length c.args.turns.now = search (rules, chains) in
    (is, omega (arith, is, c.requires, lengths_most c.args.turns.now (λ k. (c.type_inv.turns k).fits)))
