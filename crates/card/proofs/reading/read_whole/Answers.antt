-- `read_whole` meets its contract: the lines before the runs, and those of the runs, up to the text's end.
use mathlib.Core.Path.{refl, sym, ap, ◌∙◌}
use mathlib.Core.Bool.{true≢false}
use borrow.Author.Tests.{eqb-true, eq-eqb}
use Rattle.card.specs.declared.Card as held
use Rattle.card.specs.Doors.{not_shown}
use Rattle.card.proofs.ShowLaws.{headless, runless, not_all, all_read}
use Rattle.card.proofs.reading.read_whole.Goals as goal

pub returns-in_err-head : goal.returns-in_err-head
returns-in_err-head c = rw c.from_residual.ensures (not_shown (headless c.in_err-head.ensures) refl)

pub read_runs-requires : goal.read_runs-requires
read_runs-requires c = (ap (λ (h : held.Card). h.speeds) c.requires, ap (λ (h : held.Card). h.turns) c.requires)

pub returns-in_err-rest : goal.returns-in_err-rest
returns-in_err-rest c = rw c.from_residual-in_err-rest.ensures (not_shown (runless c.in_ok-head.ensures c.in_err-rest.ensures) refl)

pub returns-then-not-is_empty : goal.returns-then-not-is_empty
returns-then-not-is_empty c =
    not_shown (not_all c.in_ok-head.ensures c.in_ok-rest.ensures
    (λ none. true≢false (sym (eq-eqb _ _ none) ∙ sym c.is_empty.ensures ∙ c.if-not-is_empty.true))) refl

pub returns : goal.returns
returns c = all_read c.in_ok-head.ensures c.in_ok-rest.ensures (eqb-true _ _ (sym c.is_empty.ensures ∙ c.if-not-is_empty.false))
