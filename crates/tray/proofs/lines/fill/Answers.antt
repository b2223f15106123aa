-- `fill` meets its contract: no line at first, one more at each turn, and at the end those of all images.
use mathlib.Core.List.{[]}
use Prim.Native.Nat.{zero-le}
use lib.Seq.{take_all}
use Rattle.std.proofs.Common.{ℕ, ◌+◌, ◌*◌, ◌≤◌, List, get_or, arith}
use Rattle.code.specs.Tabulate.{tabulate}
use Rattle.code.proofs.TabulateLaws.{at, long}
use Rattle.text.proofs.Writing.{wrote_no_line, wrote_line}
use Rattle.tray.specs.Prints.{line_at, line_longest}
use Rattle.tray.proofs.lines.fill.Goals as goal

-- the line of an image, by two rows
abbrev line : List ℕ → List ℕ → ℕ → List ℕ
line codes counts = line_at (λ i. get_or codes i 0) (λ i. get_or counts i 0)

pub loop-done-init : goal.loop-done-init
loop-done-init c = record { ends = zero-le; wrote = wrote_no_line _ _ zero-le }

pub loop-done-preserved : goal.loop-done-preserved
loop-done-preserved c =
    let images = c.args.images in
    let line = line c.args.codes.now c.args.counts.now in
    let this = at line [] images c.loop-done.done c.loop-done-test.true in
    let ends : c.write_line-next.result ≤ (c.loop-done.done + 1) * line_longest = omega (arith, c.write_line-next.ensures.1) in
    record {
      ends = ends;
      wrote =
          wrote_line (tabulate line 0 images) c.loop-done.done (omega (arith, long line 0 images)) (omega (arith, ends))
          c.loop-done.invariant.wrote (rw this c.write_line-next.ensures.0);
    }

pub returns : goal.returns
returns c =
    let images = c.args.images in
    let line = line c.args.codes.now c.args.counts.now in
    rw (take_all c.loop-done.done (tabulate line 0 images) (omega (arith, long line 0 images))) at c.loop-done.invariant.wrote
