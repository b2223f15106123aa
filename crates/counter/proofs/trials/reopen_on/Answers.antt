-- `trials::reopen_on` meets its contract.
use Rattle.std.proofs.Common.{ℤ, sym, ap, ◌∙◌, to_z-of_z, w64, rules}
use Rattle.cells.specs.Chip.{chip}
use Rattle.cells.specs.Run.{Run}
use Rattle.cells.specs.Cut.{cut}
use Rattle.counter.specs.declared.verdict.Answer.{Answer}
use Rattle.counter.specs.Verdict.{outcome, ◌ending_in◌, Verdict, read_as}
use Rattle.counter.specs.Store.{store}
use Rattle.counter.specs.Trials.{cut_outcome}
use Rattle.counter.proofs.DoorViews.{cut_ending, cut_refused, chip_examined, good_settled, settling_good, settling_refused}
use Rattle.counter.proofs.Standings.{stands_marked}
use Rattle.counter.specs.Layout.{two}
use Rattle.counter.proofs.trials.reopen_on.Goals as goal

pub examined-requires : goal.examined-requires
examined-requires c = let facts = stands_marked two _ _ c.requires.1 in (facts.0, facts.1)

pub store_count-stored-requires : goal.store_count-stored-requires
store_count-stored-requires c = good_settled two _ _ (chip_examined two _ _ c.requires.0 c.requires.1 ∙ sym c.in-Ok.ensures.0)

pub returns-in-Ok : goal.returns-in-Ok
returns-in-Ok c =
    let s = c.args in
    let lent = chip s.image.now s.lives.now in
    let count = c.in-Ok.read.count in
    let exact = to_z-of_z {w = w64} {z = c.in-Ok.read.lag} (search rules) in
    ap (λ (a : Answer). outcome a (chip c.store_count-stored.new.image c.store_count-stored.new.lives)) c.finished_on.ensures
    ∙ cut_ending _ c.store_count-stored.ensures _
    ∙ ap (λ (z : ℤ). cut_outcome (cut s.mains.power s.mains.torn (store two s.p count lent ending_in read_as count z) lent)) exact
    ∙ ap (λ (r : Run Verdict). cut_outcome (cut s.mains.power s.mains.torn r lent)) (sym (settling_good two _ _ _ count _ (sym c.in-Ok.ensures.0)))

pub returns-in-Err : goal.returns-in-Err
returns-in-Err c =
    let s = c.args in
    ap (λ (a : Answer). outcome a (chip s.image.now s.lives.now)) c.refusal_of.ensures
    ∙ cut_refused _ _ (settling_refused two _ _ _ _ (sym c.in-Err.ensures.0))
