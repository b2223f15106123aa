-- `read_decimal` meets its contract: a lone 0, or digits that come to a number of 32 bits, and the line feed behind them.
use mathlib.Core.List.{[], ◌∷◌}
use native.Mathlib.Omega.{arith}
use Rattle.std.specs.Prelude.{Some, None}
use Rattle.std.proofs.lemmas.Slice.Eq.{strip_prefix_is}
use Rattle.std.proofs.lemmas.Bool.Decides.{Decides-eqb}
use Rattle.text.specs.Text.{line_feed}
use Rattle.text.proofs.ReadDecimals.{first_read, read_more, too_large, no_digit, decimal_nowhere, zero_found, zero_nowhere}
use Rattle.text.proofs.reading.read_decimal.Goals as goal

pub returns-in_err-value : goal.returns-in_err-value
returns-in_err-value c = rw c.from_residual.ensures (no_digit c.in_err-value.ensures)

pub returns-in_err-strip_prefix : goal.returns-in_err-strip_prefix
returns-in_err-strip_prefix c =
    rw c.from_residual-in_err-strip_prefix.ensures
    (zero_nowhere c.in_ok-value.ensures c.if-value-eq0.true (strip_prefix_is Decides-eqb _ (line_feed ∷ []) None c.in_err-strip_prefix.ensures.cases))

pub returns-then-value-eq0 : goal.returns-then-value-eq0
returns-then-value-eq0 c =
    zero_found c.in_ok-value.ensures c.if-value-eq0.true
    (strip_prefix_is Decides-eqb _ (line_feed ∷ []) (Some c.in_ok-strip_prefix.field-0) c.in_ok-strip_prefix.ensures.cases)

pub loop-digit-init : goal.loop-digit-init
loop-digit-init c = first_read c.in_ok-value.ensures (omega (arith, c.if-value-eq0.false))

pub returns-in_err-tens : goal.returns-in_err-tens
returns-in_err-tens c = rw c.from_residual-in_err-tens.ensures (too_large c.loop-digit.invariant c.in-Some.ensures (omega (arith, c.in_err-tens.ensures)))

pub returns-in_err-value-2 : goal.returns-in_err-value-2
returns-in_err-value-2 c =
    rw c.from_residual-in_err-value-2.ensures (too_large c.loop-digit.invariant c.in-Some.ensures (omega (arith, c.in_ok-tens.ensures, c.in_err-value-2.ensures)))

pub loop-digit-preserved : goal.loop-digit-preserved
loop-digit-preserved c =
    read_more c.loop-digit.invariant c.in-Some.ensures (omega (arith, c.in_ok-tens.ensures, c.in_ok-value-2.ensures)) (omega (arith, c.in_ok-value-2.ensures))

pub returns-in_err-strip_prefix-2 : goal.returns-in_err-strip_prefix-2
returns-in_err-strip_prefix-2 c =
    rw c.from_residual-in_err-strip_prefix-2.ensures
    (decimal_nowhere c.loop-digit.invariant c.in_default.ensures
    (strip_prefix_is Decides-eqb _ (line_feed ∷ []) None c.in_err-strip_prefix-2.ensures.cases))
