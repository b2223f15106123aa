-- `doors::reopen` meets its contract.
use Rattle.std.proofs.Common.{ℤ, sym, ap, ◌∙◌, to_z-of_z, w64, rules}
use Rattle.cells.specs.Chip.{chip}
use Rattle.counter.specs.declared.verdict.Answer.{Answer}
use Rattle.counter.specs.Verdict.{outcome, outcome_of, ◌ending_in◌, read_as}
use Rattle.counter.specs.Store.{store}
use Rattle.counter.proofs.DoorViews.{outcome_ending, outcome_refused, chip_examined, good_settled, settling_good, settling_refused}
use Rattle.counter.proofs.Standings.{stands_marked}
use Rattle.counter.specs.Layout.{two}
use Rattle.counter.proofs.doors.reopen.Goals as goal

pub examined-requires : goal.examined-requires
examined-requires c = let facts = stands_marked two _ _ c.requires.1 in (facts.0, facts.1)

pub settle-stored-requires : goal.settle-stored-requires
settle-stored-requires c =
    let fit = good_settled two _ _ (chip_examined two _ _ c.requires.0 c.requires.1 ∙ sym c.in-Ok.ensures.0) in
    (fit.0, fit.1, c.in-Ok.ensures.1)

pub returns-in-Ok : goal.returns-in-Ok
returns-in-Ok c =
    let p = c.args.p in
    let lent = chip c.args.image.now c.args.lives.now in
    let count = c.in-Ok.read.count in
    let exact = to_z-of_z {w = w64} {z = c.in-Ok.read.lag} (search rules) in
    ap (λ (a : Answer). outcome a (chip c.settle-stored.new.image c.settle-stored.new.lives)) c.finished.ensures
    ∙ outcome_ending (store two p count lent) c.settle-stored.ensures _
    ∙ ap (λ (z : ℤ). outcome_of (store two p count lent ending_in read_as count z)) exact
    ∙ ap outcome_of (sym (settling_good two _ _ _ count _ (sym c.in-Ok.ensures.0)))

pub returns-in-Err : goal.returns-in-Err
returns-in-Err c =
    let s = c.args in
    ap (λ (a : Answer). outcome a (chip s.image.now s.lives.now)) c.refusal_of.ensures
    ∙ outcome_refused (settling_refused two _ _ _ _ (sym c.in-Err.ensures.0))
