-- `check` meets its contract: the tests in their order.
use mathlib.Core.Path.{sym, ◌∙◌}
use borrow.Author.Tests.{eq-eqb, ne_eqb}
use Rattle.card.specs.Answers.{fault_of}
use Rattle.card.proofs.held.Held.check.Goals as goal

pub returns-then-self : goal.returns-then-self
unfolding fault_of
returns-then-self c = rw (ne_eqb _ _ c.if-self.true)

pub returns-then-not-are_speeds : goal.returns-then-not-are_speeds
unfolding fault_of
returns-then-not-are_speeds c = rw (eq-eqb _ _ c.if-self.false, sym c.are_speeds.ensures ∙ c.if-not-are_speeds.true)

pub returns : goal.returns
unfolding fault_of
returns c = rw (eq-eqb _ _ c.if-self.false, sym c.are_speeds.ensures ∙ c.if-not-are_speeds.false) c.within_limits.ensures
