-- `verdict::answer_of` meets its contract.
use Rattle.std.proofs.Common.{ℤ, sym, ap, ◌∙◌, to_z-of_z, w64, rules}
use Rattle.counter.specs.Verdict.{answer, answer_of, Verdict}
use Rattle.counter.proofs.verdict.answer_of.Goals as goal

pub returns-in-Ok : goal.returns-in-Ok
unfolding answer_of
returns-in-Ok c =
    let s = c.args in
    ap (λ (z : ℤ). answer 0 c.in-Ok.count z 0 s.writes s.tried)
    (to_z-of_z {w = w64} {z = c.in-Ok.lag} (search rules))
    ∙ ap (λ (v : Verdict). answer_of v s.writes s.tried) (sym c.in-Ok.is)

pub returns-in-Err : goal.returns-in-Err
unfolding answer_of
returns-in-Err c =
    let s = c.args in
    c.refusal_of.ensures ∙ ap (λ (v : Verdict). answer_of v s.writes s.tried) (sym c.in-Err.is)
