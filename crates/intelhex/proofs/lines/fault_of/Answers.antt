-- `fault_of` meets its contract: a data record, one of a type that is not taken, or an end record.
use Rattle.std.proofs.Common.{◌≡◌, arith, lt-ltb, eq-eqb, ne_eqb}
use Rattle.intelhex.specs.Faults.{lawful}
use Rattle.intelhex.specs.Inside.{verdict}
use Rattle.intelhex.proofs.Judging.{end_verdict}
use Rattle.intelhex.proofs.lines.fault_of.Goals as goal

pub returns-then-kind-gt-END : goal.returns-then-kind-gt-END
unfolding verdict lawful
returns-then-kind-gt-END c =
    let kind = c.args.kind in
    rw (ne_eqb kind 0 c.if-kind-eq-DATA.false, ne_eqb kind 1 (λ one. absurd (omega (arith, c.if-kind-gt-END.true, one))), lt-ltb 1 kind (omega (arith, c.if-kind-gt-END.true)))
    c.other_fault.ensures

pub returns-then-count-ne0 : goal.returns-then-count-ne0
unfolding verdict lawful
returns-then-count-ne0 c =
    let one : c.args.kind ≡ 1 = omega arith in
    rw (one, ne_eqb _ 0 c.if-count-ne0.true)

pub returns-then-address-ne0 : goal.returns-then-address-ne0
unfolding verdict lawful
returns-then-address-ne0 c =
    let one : c.args.kind ≡ 1 = omega arith in
    rw (one, c.if-count-ne0.false, ne_eqb _ 0 c.if-address-ne0.true)

pub returns-then-sum-ne0 : goal.returns-then-sum-ne0
returns-then-sum-ne0 c =
    let one : c.args.kind ≡ 1 = omega arith in
    rw (one, c.if-count-ne0.false, c.if-address-ne0.false, end_verdict, ne_eqb _ 0 c.if-sum-ne0.true)

pub returns-then-twice : goal.returns-then-twice
returns-then-twice c =
    let one : c.args.kind ≡ 1 = omega arith in
    rw (one, c.if-count-ne0.false, c.if-address-ne0.false, end_verdict, eq-eqb _ 0 c.if-sum-ne0.false, c.if-twice.true)

pub returns : goal.returns
returns c =
    let one : c.args.kind ≡ 1 = omega arith in
    rw (one, c.if-count-ne0.false, c.if-address-ne0.false, end_verdict, eq-eqb _ 0 c.if-sum-ne0.false, c.if-twice.false)
