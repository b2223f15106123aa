-- `reading::lowest_amiss` meets its contract: the search goes on from the nibble that has been reached.
use Rattle.std.proofs.Common.{◌≡◌, ◌+◌, ◌-◌, sym, ◌∙◌, arith}
use Rattle.counter.specs.Slots.{lowest}
use Rattle.counter.proofs.RangeTests.{lowest_here, lowest_on}
use Rattle.counter.proofs.reading.lowest_amiss.Goals as goal

pub returns-then-is_amiss : goal.returns-then-is_amiss
returns-then-is_amiss g c test told =
    let n = c.loop-n.n in
    let says = told _ _ _ (c.fits-entries n) (c.fits-entries (8 + n)) c.is_amiss.ensures in
    sym (c.loop-n.invariant test told ∙ lowest_here 8 _ _ (omega arith) (sym says ∙ c.if-is_amiss.true))

pub loop-n-preserved : goal.loop-n-preserved
loop-n-preserved g c test told =
    let n = c.loop-n.n in
    let says = told _ _ _ (c.fits-entries n) (c.fits-entries (8 + n)) c.is_amiss.ensures in
    c.loop-n.invariant test told ∙ lowest_on 8 _ _ (omega arith) (sym says ∙ c.if-is_amiss.false)

pub returns : goal.returns
unfolding lowest
returns g c test told =
    let loop = c.loop-n in
    let none : 8 - loop.n ≡ 0 = omega arith in
    sym (loop.invariant test told ∙ rw none)
