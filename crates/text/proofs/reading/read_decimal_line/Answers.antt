-- `read_decimal_line` meets its contract: the key, the equals sign and the decimal, one behind another.
use mathlib.Core.List.{[], ◌∷◌}
use Rattle.std.specs.Prelude.{Some, None}
use Rattle.std.proofs.lemmas.Slice.Eq.{strip_prefix_is}
use Rattle.std.proofs.lemmas.Bool.Decides.{Decides-eqb}
use Rattle.text.specs.Text.{equals}
use Rattle.text.proofs.Forms.{no_key, no_equals, line_finds}
use Rattle.text.proofs.reading.read_decimal_line.Goals as goal

pub returns-in_err-equals : goal.returns-in_err-equals
returns-in_err-equals c = rw c.from_residual.ensures (no_key _ (strip_prefix_is Decides-eqb _ _ None c.in_err-equals.ensures.cases))

pub returns-in_err-value : goal.returns-in_err-value
returns-in_err-value c =
    let keyed = strip_prefix_is Decides-eqb _ _ (Some c.in_ok-equals.equals) c.in_ok-equals.ensures.cases in
    rw c.from_residual-in_err-value.ensures (no_equals _ keyed (strip_prefix_is Decides-eqb _ (equals ∷ []) None c.in_err-value.ensures.cases))

pub returns : goal.returns
returns c =
    let keyed = strip_prefix_is Decides-eqb _ _ (Some c.in_ok-equals.equals) c.in_ok-equals.ensures.cases in
    let equalled = strip_prefix_is Decides-eqb _ (equals ∷ []) (Some c.in_ok-value.value) c.in_ok-value.ensures.cases in
    line_finds _ keyed equalled _ c.read_decimal.ensures
