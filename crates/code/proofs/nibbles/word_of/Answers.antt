-- `nibbles::word_of` meets its contract: the fold goes over the nibbles from the highest on.
use mathlib.Core.Path.{◌≡◌, ◌∙◌}
use mathlib.Core.List.{reverse}
use borrow.Author.Rules.{rules}
use native.Mathlib.Omega.{arith}
use Rattle.std.specs.List.{fold}
use Rattle.code.proofs.NibbleLaws.{with_nibble, word_folds}
use Rattle.code.proofs.nibbles.word_of.Goals as goal

pub returns : goal.returns
returns c =
    let folds : c.fold.result ≡ fold with_nibble 0 (reverse c.args.nibbles) = search rules in
    folds ∙ word_folds c.args.nibbles (omega arith)
