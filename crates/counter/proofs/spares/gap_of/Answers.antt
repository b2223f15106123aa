-- `spares::gap_of` meets its contract: the gap is the one that the slots passed leave.
use Rattle.std.proofs.Common.{◌≡◌, ◌*◌, ap, ◌∙◌, arith}
use Rattle.counter.specs.Map.{pointer_of}
use Rattle.counter.specs.Spares.{gap_to, gap_of}
use Rattle.counter.proofs.Gaps.{gap_more}
use Rattle.counter.proofs.spares.gap_of.Goals as goal

pub loop-slot-init : goal.loop-slot-init
unfolding gap_to
loop-slot-init c = c.whole-gap.ensures

pub loop-slot-preserved : goal.loop-slot-preserved
loop-slot-preserved c =
    c.narrowed-gap.ensures ∙ rw (c.of.ensures, c.pointer_of.ensures.0, c.loop-slot.invariant) (gap_more _ _ _)

pub returns : goal.returns
unfolding gap_of
returns c =
    let loop = c.loop-slot in
    let start = c.args in
    let end : loop.slot ≡ 8 * start.layout.copies = omega arith in
    loop.invariant ∙ ap (λ n. gap_to n start.p (pointer_of start.map.now)) end
