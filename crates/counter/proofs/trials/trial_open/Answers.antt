-- `trials::trial_open` keeps its promise.
use Rattle.std.proofs.Common.{sym, ap, ◌∙◌}
use Rattle.cells.specs.Chip.{chip}
use Rattle.cells.specs.Run.{Run}
use Rattle.cells.specs.Cut.{cut}
use Rattle.counter.specs.declared.verdict.Answer.{Answer}
use Rattle.counter.specs.Verdict.{outcome, Verdict}
use Rattle.counter.specs.Trials.{cut_outcome, trial_open_of}
use Rattle.counter.proofs.DoorViews.{cut_refused, chip_fitted, open_unpaired, open_unfit, open_unmarked, open_marked}
use Rattle.counter.specs.Layout.{two}
use Rattle.counter.proofs.trials.trial_open.Goals as goal

pub returns-then-lives-image : goal.returns-then-lives-image
unfolding trial_open_of
returns-then-lives-image c =
    let s = c.args in
    ap (λ (a : Answer). outcome a (chip s.image.now s.lives.now)) c.refusal_of.ensures
    ∙ cut_refused _ _ (open_unpaired two _ _ c.if-lives-image.true)

pub begin-requires : goal.begin-requires
begin-requires c =
    chip_fitted two _ _ c.if-lives-image.false (sym c.standing_of.ensures ∙ c.in-Unmarked.is)

pub returns-in-Unmarked : goal.returns-in-Unmarked
unfolding trial_open_of
returns-in-Unmarked c =
    let s = c.args in
    c.begin.ensures
    ∙ ap (λ (r : Run Verdict). cut_outcome (cut s.mains.power s.mains.torn r (chip s.image.now s.lives.now))) (sym (open_unmarked two _ _ c.if-lives-image.false (sym c.standing_of.ensures ∙ c.in-Unmarked.is)))

pub returns-in-Unfit : goal.returns-in-Unfit
unfolding trial_open_of
returns-in-Unfit c =
    let s = c.args in
    ap (λ (a : Answer). outcome a (chip s.image.now s.lives.now)) c.refusal_of-in-Unfit.ensures
    ∙ cut_refused _ _ (open_unfit two _ _ c.if-lives-image.false (sym c.standing_of.ensures ∙ c.in-Unfit.is))

pub returns-in-Marked : goal.returns-in-Marked
unfolding trial_open_of
returns-in-Marked c =
    let s = c.args in
    c.reopen_on.ensures
    ∙ ap (λ (r : Run Verdict). cut_outcome (cut s.mains.power s.mains.torn r (chip s.image.now s.lives.now))) (sym (open_marked two _ _ c.if-lives-image.false (sym c.standing_of.ensures ∙ c.in-Marked.is)))
