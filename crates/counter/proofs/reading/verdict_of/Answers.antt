-- `reading::verdict_of` meets its contract.
use Rattle.std.proofs.Common.{sym, ◌∙◌}
use Rattle.counter.proofs.Standings.{stands_marked, guard_unfit, guard_unmarked, guard_marked}
use Rattle.counter.specs.Reading.{verdict_of}
use Rattle.counter.specs.Layout.{two}
use Rattle.counter.proofs.reading.verdict_of.Goals as goal

pub examined-requires : goal.examined-requires
examined-requires c =
    let facts = stands_marked two _ _ (sym c.standing_of.ensures ∙ c.in-Marked.is) in
    (facts.0, facts.1)

pub returns-in-Unfit : goal.returns-in-Unfit
unfolding verdict_of
returns-in-Unfit c = (sym (guard_unfit two _ _ _ (sym c.standing_of.ensures ∙ c.in-Unfit.is)), tt)

pub returns-in-Unmarked : goal.returns-in-Unmarked
unfolding verdict_of
returns-in-Unmarked c = (sym (guard_unmarked two _ _ _ (sym c.standing_of.ensures ∙ c.in-Unmarked.is)), tt)

pub returns-in-Marked : goal.returns-in-Marked
unfolding verdict_of
returns-in-Marked c =
    (c.examined.ensures.0 ∙ sym (guard_marked two _ _ _ (sym c.standing_of.ensures ∙ c.in-Marked.is)), c.examined.ensures.1)
