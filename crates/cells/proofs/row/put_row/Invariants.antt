-- What the loop of `row::put_row` keeps.
use Prim.Native.Nat.{◌≤◌}
use mathlib.Core.Path.{◌≡◌}
use lib.ListN.{length}
use Rattle.cells.specs.Chip.{chip}
use Rattle.cells.specs.Row.{put_row}
use Rattle.cells.proofs.Cuts.{Left}
use Rattle.cells.proofs.Rows.{row_left}
use Rattle.cells.proofs.row.put_row.Given as goal

abbrev pub invariant-loop-i : goal.invariant-loop-i
invariant-loop-i l =
    record {
      few : l.writes ≤ l.i;
      cells_kept : length l.image ≡ length l.initial.image;
      lives_kept : length l.lives ≡ length l.initial.lives;
      rest : Left l.writes 0 l.mains.power l.mains.torn (put_row l.bytes l.at (chip l.initial.image l.initial.lives)) (chip l.initial.image l.initial.lives) (row_left l.bytes l.at l.i (chip l.image l.lives)) (chip l.image l.lives);
    }
