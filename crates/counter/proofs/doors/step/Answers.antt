-- `doors::step` keeps its promise.
use Rattle.std.proofs.Common.{sym, ap, ◌∙◌}
use Rattle.cells.specs.Chip.{chip}
use Rattle.counter.specs.declared.verdict.Answer.{Answer}
use Rattle.counter.specs.Verdict.{outcome, outcome_of}
use Rattle.counter.specs.Doors.{step_of}
use Rattle.counter.proofs.GoodVerdicts.{verdict_good, below_last}
use Rattle.counter.proofs.DoorViews.{outcome_refused, chip_verdict_lem, good_settled, step_unpaired, step_refused, step_last, step_on}
use Rattle.counter.specs.Layout.{two}
use Rattle.counter.proofs.doors.step.Goals as goal

pub returns-then-lives-image : goal.returns-then-lives-image
unfolding step_of
returns-then-lives-image c =
    let s = c.args in
    ap (λ (a : Answer). outcome a (chip s.image.now s.lives.now)) c.refusal_of.ensures
    ∙ outcome_refused (step_unpaired two _ _ c.if-lives-image.true)

-- ## Behind a read

pub returns-then-read : goal.returns-then-read
unfolding step_of
returns-then-read c =
    let s = c.args in
    let good = chip_verdict_lem two _ _ c.if-lives-image.false ∙ sym c.in-Ok.ensures.0 in
    ap (λ (a : Answer). outcome a (chip s.image.now s.lives.now)) c.refusal_of-then-read.ensures
    ∙ outcome_refused (step_last two _ _ _ _ good c.if-read.true)

pub advance-requires : goal.advance-requires
advance-requires c =
    let good = chip_verdict_lem two _ _ c.if-lives-image.false ∙ sym c.in-Ok.ensures.0 in
    let fit = good_settled two _ _ good in
    (fit.0, fit.1, below_last (verdict_good two _ _ good).1.small c.if-read.false, c.in-Ok.ensures.1)

pub returns-else-read : goal.returns-else-read
unfolding step_of
returns-else-read c =
    let s = c.args in
    let good = chip_verdict_lem two _ _ c.if-lives-image.false ∙ sym c.in-Ok.ensures.0 in
    c.advance.ensures ∙ ap outcome_of (sym (step_on two _ _ _ _ good c.if-read.false))

pub returns-in-Err : goal.returns-in-Err
unfolding step_of
returns-in-Err c =
    let s = c.args in
    ap (λ (a : Answer). outcome a (chip s.image.now s.lives.now)) c.refusal_of-in-Err.ensures
    ∙ outcome_refused (step_refused two _ _ _ (chip_verdict_lem two _ _ c.if-lives-image.false ∙ sym c.in-Err.ensures.0))
