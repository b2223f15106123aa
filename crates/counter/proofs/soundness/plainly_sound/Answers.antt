-- `soundness::plainly_sound` meets its contract.
use Rattle.std.proofs.Common.{◌≡◌, true, sym, ◌∙◌, true≢false}
use Rattle.counter.specs.Layout.{two}
use Rattle.counter.specs.Slots.{every}
use Rattle.counter.specs.Map.{pointer_of}
use Rattle.counter.proofs.RangeTests.{never}
use Rattle.counter.proofs.SoundByTries.{follows, sound_tries, sound_differ, spread_sound}
use Rattle.counter.proofs.soundness.plainly_sound.Goals as goal
use Rattle.counter.proofs.soundness.plainly_sound.Goals.{then-ordered, else-ordered}

pub returns-then-spread : goal.returns-then-spread
returns-then-spread c =
    let tries : every 16 (follows two c.args.p (pointer_of c.args.map.now)) ≡ true =
    elim c.if-ordered.branch [
      | then-ordered w ↦ c.requires.1 w.if-ordered.true
      | else-ordered w ↦ sym w.in_order-tries.ensures ∙ sym w.tries-is ∙ c.if-tries.true
    ] in let apart = c.spread.ensures c.if-spread.true in c.if-spread.true ∙ sym (spread_sound _ _ tries apart.0 apart.1)

pub returns-else-spread : goal.returns-else-spread
returns-else-spread c =
    let tries : every 16 (follows two c.args.p (pointer_of c.args.map.now)) ≡ true =
    elim c.if-ordered.branch [
      | then-ordered w ↦ c.requires.1 w.if-ordered.true
      | else-ordered w ↦ sym w.in_order-tries.ensures ∙ sym w.tries-is ∙ c.if-tries.true
    ] in c.all_differ.ensures ∙ sound_differ two _ _ tries

pub returns-else-tries : goal.returns-else-tries
returns-else-tries c =
    c.if-tries.false
    ∙ sym
    (never _
    (λ s.
    let tries = sound_tries two _ _ s in
    elim c.if-ordered.branch [
      | then-ordered w ↦ true≢false (cc)
      | else-ordered w ↦ true≢false (cc (tries, w.in_order-tries.ensures, w.tries-is, c.if-tries.false))
    ]))
