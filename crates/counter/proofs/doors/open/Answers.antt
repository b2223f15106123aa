-- `doors::open` keeps its promise.
use Rattle.std.proofs.Common.{sym, ap, ◌∙◌, arith}
use Rattle.cells.specs.Chip.{chip}
use Rattle.counter.specs.declared.verdict.Answer.{Answer}
use Rattle.counter.specs.Verdict.{outcome, outcome_of}
use Rattle.counter.specs.Doors.{beginning, open_of}
use Rattle.counter.proofs.DoorViews.{outcome_refused, cut_steady, chip_fitted, open_unpaired, open_unfit, open_unmarked, open_marked}
use Rattle.counter.proofs.Fitted.{fitted_ready}
use Rattle.counter.proofs.OpeningCosts.{opening_few}
use Rattle.counter.specs.Layout.{two}
use Rattle.counter.proofs.doors.open.Goals as goal

pub returns-then-lives-image : goal.returns-then-lives-image
unfolding open_of
returns-then-lives-image c =
    let s = c.args in
    ap (λ (a : Answer). outcome a (chip s.image.now s.lives.now)) c.refusal_of.ensures
    ∙ outcome_refused (open_unpaired two _ _ c.if-lives-image.true)

pub begin-requires : goal.begin-requires
begin-requires c =
    chip_fitted two _ _ c.if-lives-image.false (sym c.standing_of.ensures ∙ c.in-Unmarked.is)

pub returns-in-Unmarked : goal.returns-in-Unmarked
unfolding open_of
returns-in-Unmarked c =
    let unmarked = sym c.standing_of.ensures ∙ c.in-Unmarked.is in
    let paired = c.if-lives-image.false in
    let s = c.args in
    let p = s.p in
    let lent = chip s.image.now s.lives.now in
    let few = opening_few {layout = two} {p = p} {s = lent} (fitted_ready (chip_fitted two p lent paired unmarked)) in
    c.begin.ensures
    ∙ cut_steady _ _ (beginning two p lent) lent (omega (arith, few, c.steady.ensures.0))
    ∙ ap outcome_of (sym (open_unmarked two _ _ paired unmarked))

pub returns-in-Unfit : goal.returns-in-Unfit
unfolding open_of
returns-in-Unfit c =
    let s = c.args in
    ap (λ (a : Answer). outcome a (chip s.image.now s.lives.now)) c.refusal_of-in-Unfit.ensures
    ∙ outcome_refused (open_unfit two _ _ c.if-lives-image.false (sym c.standing_of.ensures ∙ c.in-Unfit.is))

pub returns-in-Marked : goal.returns-in-Marked
unfolding open_of
returns-in-Marked c =
    c.reopen.ensures
    ∙ ap outcome_of (sym (open_marked two _ _ c.if-lives-image.false (sym c.standing_of.ensures ∙ c.in-Marked.is)))
