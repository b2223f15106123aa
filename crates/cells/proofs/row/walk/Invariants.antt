-- What the loop of `row::walk` keeps.
use mathlib.Core.Path.{◌≡◌}
use lib.ListN.{length}
use Rattle.cells.specs.Chip.{chip}
use Rattle.cells.specs.Row.{walk}
use Rattle.cells.proofs.Cuts.{Left}
use Rattle.cells.proofs.Walks.{walk_left}
use Rattle.cells.proofs.row.walk.Given as goal

abbrev pub invariant-loop-j : goal.invariant-loop-j
invariant-loop-j l =
    record {
      cells_kept : length l.image ≡ length l.initial.image;
      lives_kept : length l.lives ≡ length l.initial.lives;
      rest : Left l.j l.j l.mains.power l.mains.torn (walk l.cells l.way l.from l.byte (chip l.initial.image l.initial.lives)) (chip l.initial.image l.initial.lives) (walk_left l.cells l.way l.from l.byte l.j (chip l.image l.lives)) (chip l.image l.lives);
    }
