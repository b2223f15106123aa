-- `doors::part_of` meets its contract.
use Rattle.counter.specs.Verdict.{read_as}
use Rattle.std.proofs.Common.{◌≡◌, sym, ap, ◌∙◌, arith}
use Rattle.counter.specs.declared.verdict.Answer.{Answer}
use Rattle.counter.specs.Doors.{part, part_verdict}
use Rattle.counter.proofs.Parts.{Parted, parted, part_good, part_refused}
use Rattle.counter.specs.Layout.{two}
use Rattle.counter.proofs.doors.part_of.Goals as goal

pub overflow_sub-result : goal.overflow_sub-result
overflow_sub-result c =
    let found : let s = c.args in
    part_verdict two s.p s.image.now s.copy ≡ read_as c.in-Ok.field-0.0 c.in-Ok.field-0.1 =
    sym c.part_found.ensures ∙ c.in-Ok.is in
    let good : let s = c.args in Parted s.p s.image.now s.copy =
    parted _ _ _ found in good.first

pub overflow_add-result-in-Ok : goal.overflow_add-result-in-Ok
overflow_add-result-in-Ok c =
    let found : let s = c.args in
    part_verdict two s.p s.image.now s.copy ≡ read_as c.in-Ok.field-0.0 c.in-Ok.field-0.1 =
    sym c.part_found.ensures ∙ c.in-Ok.is in
    let good : let s = c.args in Parted s.p s.image.now s.copy =
    parted _ _ _ found in
    let inside = good.inside in
    let size = c.well_formed.0.0 in
    omega arith

pub returns-in-Ok : goal.returns-in-Ok
returns-in-Ok c =
    let found : let s = c.args in
    part_verdict two s.p s.image.now s.copy ≡ read_as c.in-Ok.field-0.0 c.in-Ok.field-0.1 =
    sym c.part_found.ensures ∙ c.in-Ok.is in sym (part_good _ _ _ found)

pub returns-in-Err : goal.returns-in-Err
returns-in-Err c =
    ap (λ (a : Answer). part a.code 0 0) c.refusal_of.ensures
    ∙ sym (part_refused _ _ _ (sym c.part_found.ensures ∙ c.in-Err.is))
