-- What the loop of `store::store_count` keeps.
use Rattle.std.proofs.Common.{◌≡◌, ◌*◌, ◌≤◌, true, length}
use Rattle.cells.specs.Chip.{chip}
use Rattle.cells.proofs.Cuts.{Left}
use Rattle.counter.specs.Map.{sound}
use Rattle.counter.specs.Verdict.{complete}
use Rattle.counter.specs.Store.{store}
use Rattle.counter.specs.Inside.{fitted}
use Rattle.counter.proofs.Ready.{pointers}
use Rattle.counter.proofs.StoreViews.{store_left}
use Rattle.counter.proofs.store.store_count.Given as goal

abbrev pub invariant-loop-slot : goal.invariant-loop-slot
invariant-loop-slot l =
    record {
      work : l.done.work ≡ complete;
      tries : l.done.tried ≤ 4096 * l.slot;
      cells_kept : length l.image ≡ length l.initial.image;
      lives_kept : length l.lives ≡ length l.initial.lives;
      good : fitted l.layout l.p (chip l.image l.lives) ≡ true;
      well : sound l.layout l.p (pointers l.layout l.p (chip l.image l.lives)) ≡ true;
      rest : Left l.done.writes l.done.tried l.mains.power l.mains.torn (store l.layout l.p l.count (chip l.initial.image l.initial.lives)) (chip l.initial.image l.initial.lives) (store_left l.layout l.p l.count l.slot (chip l.image l.lives)) (chip l.image l.lives);
    }
