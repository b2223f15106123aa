-- `doors::map_part` keeps its promise: the part is one of the lent image.
use Rattle.std.proofs.Common.{◌+◌, ◌≤◌, length, arith}
use Rattle.counter.proofs.Parts.{part_inside}
use Rattle.counter.proofs.doors.map_part.Goals as goal

pub overflow_add-end : goal.overflow_add-end
overflow_add-end c =
    let inside : c.part_of-part.result.start + c.part_of-part.result.size ≤ length c.args.image.now =
    let s = c.args in
    rw c.part_of-part.ensures (part_inside s.p s.image.now s.copy) in omega (arith, inside, c.well_formed.0.0)

pub slice_bounds-result-end : goal.slice_bounds-result-end
slice_bounds-result-end c =
    let inside : c.part_of-part.result.start + c.part_of-part.result.size ≤ length c.args.image.now =
    let s = c.args in
    rw c.part_of-part.ensures (part_inside s.p s.image.now s.copy) in inside
