-- `ends::is_usable` meets its contract.
use Rattle.std.proofs.Common.{sym, ◌∙◌, ⊎_elim}
use Rattle.counter.specs.Layout.{two}
use Rattle.counter.specs.Ends.{usable}
use Rattle.counter.proofs.Standings.{stands_marked, stands_unmarked, stands_unfit}
use Rattle.counter.proofs.ends.is_usable.Goals as goal

pub returns-in-Marked : goal.returns-in-Marked
unfolding usable
returns-in-Marked c =
    let facts = stands_marked two _ _ (sym c.standing_of.ensures ∙ c.in-Marked.is) in
    rw (facts.0, facts.1, facts.2) c.map_sound.ensures

pub returns-in-Unfit : goal.returns-in-Unfit
unfolding usable
returns-in-Unfit c =
    ⊎_elim (λ x. rw (stands_unfit two _ _ (sym c.standing_of.ensures ∙ x.1)))
    (λ e. let facts = stands_unmarked two _ _ (sym c.standing_of.ensures ∙ e) in rw (facts.0, facts.1, facts.2)) c.in-Unfit.is
