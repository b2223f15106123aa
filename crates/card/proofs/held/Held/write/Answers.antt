-- `write` meets its contract: the text is written where there is room for it.
use mathlib.Core.Path.{refl, sym, ◌∙◌}
use native.Mathlib.Omega.{arith}
use Rattle.card.specs.Cards.{text_of}
use Rattle.card.specs.Inside.{rows_of}
use Rattle.card.proofs.RunLaws.{fault_none}
use Rattle.card.proofs.WriteLaws.{copied_short, copied_whole, write_refused, write_copied}
use Rattle.std.proofs.lemmas.Result.{err_from_is_err_and}
use Rattle.card.proofs.Refused.{some_number}
use Rattle.card.proofs.held.Held.write.Goals as goal

pub returns-in_err-check : goal.returns-in_err-check
returns-in_err-check c =
    let p = err_from_is_err_and c.from_residual.result c.from_residual.ensures.1 in
    rw (p.1, p.2) (write_refused _ _ _ c.in_err-check.ensures (some_number _))

pub length-requires-clause-form : goal.length-requires-clause-form
length-requires-clause-form c = (fault_none _ _ (sym c.in_ok-check.ensures)).0

pub length-requires-clause-few : goal.length-requires-clause-few
length-requires-clause-few c = omega (arith, c.args.self.now.within, (fault_none _ _ (sym c.in_ok-check.ensures)).3)

pub returns-then-text-length : goal.returns-then-text-length
returns-then-text-length c =
    copied_short (text_of (rows_of c.args.self.now)) _ (omega (arith, c.if-text-length.true, c.length.ensures)) ∙ write_copied _ _ _ c.in_ok-check.ensures refl

pub write_text-requires-clause-form : goal.write_text-requires-clause-form
write_text-requires-clause-form c = (fault_none _ _ (sym c.in_ok-check.ensures)).0

pub returns : goal.returns
returns c =
    copied_whole (text_of (rows_of c.args.self.now)) _ (omega (arith, c.if-text-length.false, c.length.ensures)) c.write_text.ensures
    ∙ write_copied _ _ _ c.in_ok-check.ensures refl
