-- `read_data` meets its contract: the next byte is added, and stored where all are bytes.
use Rattle.std.proofs.Common.{refl, arith, length-set}
use Rattle.intelhex.specs.Signs.{bytes_at, total}
use Rattle.intelhex.specs.Faults.{some_taken}
use Rattle.intelhex.proofs.Bytes.{all_next, total_next_byte, looked_next, stored_next}
use Rattle.intelhex.proofs.lines.read_data.Goals as goal

pub loop-done-init : goal.loop-done-init
unfolding bytes_at total some_taken
loop-done-init c = record { sums = refl; small = omega arith; looked = λ all. refl; stored = λ all. refl; same = refl }

pub loop-done-preserved : goal.loop-done-preserved
loop-done-preserved c =
    let loop = c.loop-done in
    let inv = loop.invariant in
    let text = c.args.text.now in
    let at = c.args.at in
    let cells = c.args.cells.now in
    let read = c.byte_at-byte.ensures.0 in
    record {
      sums = omega (arith, read, inv.sums, total_next_byte text at loop.done);
      small = omega (arith, c.byte_at-byte.ensures.1, inv.small);
      looked = λ all.
          let before = (all_next text at loop.done all).0 in
          looked_next cells text at c.args.address loop.done (inv.stored before) (inv.looked before) (omega (arith, c.loop-done-test.true, c.requires));
      stored = λ all.
          let (before, small) = all_next text at loop.done all in
          stored_next cells text at c.args.address loop.done (inv.stored before) _ read (omega (arith, read, small));
      same = rw length-set inv.same;
    }
