-- `soundness::is_sound` meets its contract.
use Rattle.std.proofs.Common.{sym}
use Rattle.counter.proofs.SoundByTries.{border_tries, spread_sound}
use Rattle.counter.proofs.soundness.is_sound.Goals as goal

pub plainly_sound-requires : goal.plainly_sound-requires
plainly_sound-requires c = (c.requires, λ e. border_tries _ _ _ c.low_border-border.ensures (c.highs_below-ordered.ensures e))

pub returns-then-spread : goal.returns-then-spread
returns-then-spread c =
    let tries = border_tries _ _ _ c.low_border-border.ensures (c.highs_below-ordered.ensures c.if-ordered.true) in
    let apart = c.spread.ensures c.if-spread.true in
    sym (spread_sound _ _ tries apart.0 apart.1)
