-- `doors::advance` meets its contract.
use Rattle.std.proofs.Common.{◌≡◌, ◌+◌, ℤ, sym, ap, ◌∙◌, arith, to_z-of_z, w64, rules}
use Rattle.cells.specs.Chip.{chip}
use Rattle.cells.specs.Run.{Run, seen, view}
use Rattle.counter.specs.declared.verdict.Answer.{Answer}
use Rattle.counter.specs.Verdict.{outcome, outcome_of, ◌and_then◌, Work}
use Rattle.counter.specs.Store.{store}
use Rattle.counter.specs.Doors.{stepping}
use Rattle.counter.proofs.Behind.{works_ok, works_steady}
use Rattle.counter.proofs.StoreCosts.{twice_few}
use Rattle.counter.proofs.NextStores.{held_next}
use Rattle.counter.proofs.DoorViews.{outcome_ending}
use Rattle.counter.specs.Layout.{two}
use Rattle.counter.proofs.doors.advance.Goals as goal
use Rattle.counter.proofs.doors.advance.Goals.{then-read, else-read}

pub unwrap-stored-requires : goal.unwrap-stored-requires
unwrap-stored-requires c =
    let read = c.args.read in
    let few = twice_few two c.args.p read.count (read.count + 1) _ c.requires.0 c.requires.1 in
    works_ok _ _ c.store_twice.ensures (omega (arith, few, c.steady.ensures.0))

pub returns : goal.returns
returns c =
    let p = c.args.p in
    let read = c.args.read in
    let lent = chip c.args.image.now c.args.lives.now in
    let few = twice_few two p read.count (read.count + 1) lent c.requires.0 c.requires.1 in
    let said : let joined = c.if-read in
    seen joined.stored.work joined.stored.writes joined.stored.tried (chip joined.image joined.lives) ≡ view (store two p read.count lent and_then store two p (read.count + 1)) =
    elim c.if-read.branch [
      | then-read w ↦
          rw (w.image-is, w.lives-is, w.stored-is)
          (w.store_next-stored.ensures ∙ ap (λ (r : Run Work). view r) (sym (held_next two p read.count lent (store two p (read.count + 1)) (c.requires.3 w.if-read.true))))
      | else-read w ↦
          rw (w.image-is, w.lives-is, w.stored-is) (works_steady _ w.unwrap-stored.ensures w.store_twice.ensures (omega (arith, few, w.steady.ensures.0)))
    ] in
    ap (λ (a : Answer). outcome a (chip c.if-read.image c.if-read.lives)) c.finished.ensures
    ∙ outcome_ending (store two p read.count lent and_then store two p (read.count + 1)) said _
    ∙ ap (λ (z : ℤ). outcome_of (stepping two p read.count z lent)) (to_z-of_z {w = w64} {z = read.lag} (search rules))
