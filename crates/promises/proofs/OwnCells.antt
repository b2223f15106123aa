-- A call touches only cells of the map and of the area: every other cell and life, and how many there are, stay.
--   open_keeps, step_keeps
use Rattle.cells.specs.Chip.{Chip, Kept}
use Rattle.cells.proofs.Logs.{within_kept}
use Rattle.counter.specs.declared.places.Places.{Places}
use Rattle.counter.specs.declared.layout.Layout.{Layout}
use Rattle.counter.specs.Doors.{open_of, step_of}
use Rattle.counter.proofs.Ready.{Own}
use Rattle.counter.proofs.DoorAnswers.{open_is, step_is}
use Rattle.promises.proofs.DoorRuns.{open_laws, step_laws}

module _ (layout : Layout) (p : Places) (s : Chip) where
  pub open_keeps : Kept (Own layout p) s (open_of layout p s).leaves
  open_keeps = rw (open_is layout p s) (within_kept (open_laws layout p s).within)

  pub step_keeps : Kept (Own layout p) s (step_of layout p s).leaves
  step_keeps = rw (step_is layout p s) (within_kept (step_laws layout p s).within)
