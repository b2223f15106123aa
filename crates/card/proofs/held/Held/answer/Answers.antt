-- `answer` meets its contract: the tests in their order, and the difference of two numbers of 32 bits.
use Prim.Native.Nat.{◌-◌}
use mathlib.Core.Path.{sym, ap, ◌∙◌}
use native.Mathlib.Nat.{lt_of_le_of_lt, sub-le}
use native.Mathlib.Omega.{arith}
use Rattle.counter.proofs.Lags.{lag_bits}
use Rattle.card.specs.Answers.{answer, refused}
use Rattle.card.specs.Inside.{rows_of}
use Rattle.card.proofs.RunLaws.{in_form_lem, fault_none}
use Rattle.card.proofs.AnswerLaws.{answer_refused, answer_below, answer_apart, answer_good}
use Rattle.std.proofs.lemmas.Result.{err_from_is_err_and}
use Rattle.card.proofs.Refused.{some_number}
use Rattle.card.proofs.held.Held.answer.Goals as goal

pub returns-in_err-check : goal.returns-in_err-check
returns-in_err-check c =
    let fault = c.in_err-check.ensures in
    let p = err_from_is_err_and c.from_residual.result c.from_residual.ensures.1 in
    rw (p.1, p.2) (ap refused fault ∙ sym (answer_refused _ _ _ (λ none. some_number _ (fault ∙ none))))

pub returns-then-count-self : goal.returns-then-count-self
returns-then-count-self c = sym (answer_below _ _ _ (sym c.in_ok-check.ensures) c.if-count-self.true)

pub cut_in-cut-requires : goal.cut_in-cut-requires
cut_in-cut-requires c =
    let (formed, least, most, few) = fault_none _ _ (sym c.in_ok-check.ensures) in
    ((in_form_lem (rows_of c.args.self.now) formed).0, omega (arith, few, c.args.self.now.within))

pub returns-then-cut-used : goal.returns-then-cut-used
returns-then-cut-used c =
    sym (answer_apart _ _ _ (sym c.in_ok-check.ensures) c.if-count-self.false (λ even. c.if-cut-used.true (c.cut_in-cut.ensures.0 ∙ even)))

pub returns : goal.returns
returns c =
    let (turned, timed) = c.cut_in-cut.ensures in
    let left = lag_bits _ _ (omega arith) (lt_of_le_of_lt (sub-le _ _) c.ranges.count.fits) in
    (λ i. answer 0 (c.args.count - c.args.self.now.fitted) (left i) (timed i))
    ∙ sym (answer_good _ _ _ (sym c.in_ok-check.ensures) c.if-count-self.false (sym turned ∙ c.if-cut-used.false))
