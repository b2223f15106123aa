-- What the loop of `fill` keeps: the first `done` entries of both rows are there.
use mathlib.Core.Path.{◌≡◌}
use Rattle.counter.specs.Layout.{two}
use Rattle.counter.specs.Doors.{read_of}
use Rattle.dumps.specs.Tray.{outcome, each_read}
use Rattle.dumps.proofs.tray.fill.Given as goal

abbrev pub invariant-loop-done : goal.invariant-loop-done
invariant-loop-done l =
    outcome 0 l.counts l.codes ≡ each_read (read_of two l.p) l.each l.done l.tray l.initial.counts l.initial.codes
