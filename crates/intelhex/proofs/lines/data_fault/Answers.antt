-- `data_fault` meets its contract: the verdict of a data record, case by case.
use Rattle.std.proofs.Common.{le-ltb, lt-ltb, eq-eqb, ne_eqb}
use Rattle.intelhex.specs.Faults.{lawful}
use Rattle.intelhex.specs.Inside.{verdict}
use Rattle.intelhex.proofs.Judging.{above}
use Rattle.intelhex.proofs.lines.data_fault.Goals as goal

pub returns-then-count-eq0 : goal.returns-then-count-eq0
unfolding verdict lawful
returns-then-count-eq0 c = rw c.if-count-eq0.true

pub returns-then-sum-ne0 : goal.returns-then-sum-ne0
unfolding verdict lawful
returns-then-sum-ne0 c = rw (lt-ltb 0 _ (above c.if-count-eq0.false), ne_eqb _ 0 c.if-sum-ne0.true)

pub returns-then-address-count : goal.returns-then-address-count
unfolding verdict lawful
returns-then-address-count c = rw (lt-ltb 0 _ (above c.if-count-eq0.false), eq-eqb _ 0 c.if-sum-ne0.false, lt-ltb _ _ c.if-address-count.true)

pub returns-then-twice : goal.returns-then-twice
unfolding verdict lawful
returns-then-twice c =
    rw (lt-ltb 0 _ (above c.if-count-eq0.false), eq-eqb _ 0 c.if-sum-ne0.false, le-ltb _ _ c.if-address-count.false, c.if-twice.true)

pub returns : goal.returns
unfolding verdict lawful
returns c =
    rw (lt-ltb 0 _ (above c.if-count-eq0.false), eq-eqb _ 0 c.if-sum-ne0.false, le-ltb _ _ c.if-address-count.false, c.if-twice.false)
