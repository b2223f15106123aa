-- `read_head` meets its contract: its three lines, one behind another.
use Rattle.text.specs.Reading.{Small}
use Rattle.text.proofs.Forms.{found_then, nowhere_first, nowhere_then}
use Rattle.card.specs.Cards.{fitted_line, allowed_line, runs_line}
use Rattle.card.specs.Inside.{pair_form, SmallPair}
use Rattle.card.proofs.ReadLaws.{fitted_ends, pair_ends}
use Rattle.card.proofs.reading.read_head.Goals as goal

pub returns-in_err-allowed : goal.returns-in_err-allowed
returns-in_err-allowed c =
    let pair = nowhere_then fitted_line Small (λ _. allowed_line) (λ _. Small) c.in_ok-fitted.ensures fitted_ends c.in_err-allowed.ensures in
    rw c.from_residual-in_err-allowed.ensures (nowhere_first pair_form SmallPair (λ _. runs_line) (λ _. Small) pair)

pub returns-in_err-runs : goal.returns-in_err-runs
returns-in_err-runs c =
    let pair = found_then fitted_line Small (λ _. allowed_line) (λ _. Small) c.in_ok-fitted.ensures c.in_ok-allowed.ensures in
    rw c.from_residual-in_err-runs.ensures (nowhere_then pair_form SmallPair (λ _. runs_line) (λ _. Small) pair pair_ends c.in_err-runs.ensures)
