-- `trials::trial_step` keeps its promise.
use Rattle.std.proofs.Common.{ℤ, sym, ap, ◌∙◌, to_z-of_z, w64, rules}
use Rattle.cells.specs.Chip.{chip}
use Rattle.cells.specs.Run.{Run}
use Rattle.cells.specs.Cut.{cut}
use Rattle.counter.specs.declared.verdict.Answer.{Answer}
use Rattle.counter.specs.Verdict.{outcome, Verdict}
use Rattle.counter.specs.Doors.{stepping}
use Rattle.counter.specs.Trials.{cut_outcome, trial_step_of}
use Rattle.counter.proofs.GoodVerdicts.{verdict_good, below_last}
use Rattle.counter.proofs.DoorViews.{cut_ending, cut_refused, chip_verdict_lem, good_settled, step_unpaired, step_refused, step_last, step_on}
use Rattle.counter.specs.Layout.{two}
use Rattle.counter.proofs.trials.trial_step.Goals as goal

pub returns-then-lives-image : goal.returns-then-lives-image
unfolding trial_step_of
returns-then-lives-image c =
    let s = c.args in
    ap (λ (a : Answer). outcome a (chip s.image.now s.lives.now)) c.refusal_of.ensures
    ∙ cut_refused _ _ (step_unpaired two _ _ c.if-lives-image.true)

-- ## Behind a read

pub returns-then-read : goal.returns-then-read
unfolding trial_step_of
returns-then-read c =
    let s = c.args in
    let good = chip_verdict_lem two _ _ c.if-lives-image.false ∙ sym c.in-Ok.ensures.0 in
    ap (λ (a : Answer). outcome a (chip s.image.now s.lives.now)) c.refusal_of-then-read.ensures
    ∙ cut_refused _ _ (step_last two _ _ _ _ good c.if-read.true)

pub store_twice-stored-requires : goal.store_twice-stored-requires
store_twice-stored-requires c =
    let good = chip_verdict_lem two _ _ c.if-lives-image.false ∙ sym c.in-Ok.ensures.0 in
    let fit = good_settled two _ _ good in
    (fit.0, fit.1, below_last (verdict_good two _ _ good).1.small c.if-read.false)

pub returns-else-read : goal.returns-else-read
unfolding trial_step_of
returns-else-read c =
    let s = c.args in
    let lent = chip s.image.now s.lives.now in
    let count = c.in-Ok.read.count in
    let good = chip_verdict_lem two _ _ c.if-lives-image.false ∙ sym c.in-Ok.ensures.0 in
    let exact = to_z-of_z {w = w64} {z = c.in-Ok.read.lag} (search rules) in
    ap (λ (a : Answer). outcome a (chip c.store_twice-stored.new.image c.store_twice-stored.new.lives)) c.finished_on.ensures
    ∙ cut_ending _ c.store_twice-stored.ensures _
    ∙ ap (λ (z : ℤ). cut_outcome (cut s.mains.power s.mains.torn (stepping two s.p count z lent) lent)) exact
    ∙ ap (λ (r : Run Verdict). cut_outcome (cut s.mains.power s.mains.torn r lent)) (sym (step_on two _ _ count _ good c.if-read.false))

pub returns-in-Err : goal.returns-in-Err
unfolding trial_step_of
returns-in-Err c =
    let s = c.args in
    ap (λ (a : Answer). outcome a (chip s.image.now s.lives.now)) c.refusal_of-in-Err.ensures
    ∙ cut_refused _ _ (step_refused two _ _ _ (chip_verdict_lem two _ _ c.if-lives-image.false ∙ sym c.in-Err.ensures.0))
