-- `reading::decided` meets its contract: the difference fits 64 bits, so the bits that are tested are the lag's.
use Rattle.counter.specs.Verdict.{read_as}
use Rattle.std.proofs.Common.{◌≡◌, ℤ, pos, ◌-ℤ◌, sym, ap, ◌∙◌, w64, to_z, of_z, Err}
use Rattle.counter.specs.declared.verdict.Refusal.TheVariants.{Apart}
use Rattle.counter.proofs.Lags.{wide_exact, wide_bits, decide_level, decide_ahead, decide_apart}
use Rattle.counter.proofs.reading.decided.Goals as goal
use Rattle.counter.proofs.reading.decided.Goals.{then-lag-eq0-via-then-lag-eq0, then-lag-eq0-via-else-lag-eq0+then-lag-eq1}

pub returns-then-lag-eq0 : goal.returns-then-lag-eq0
returns-then-lag-eq0 c =
    let back : to_z w64 (of_z w64 (to_z w64 (of_z w64 c.from.result) -ℤ to_z w64 (of_z w64 c.from-2.result))) ≡ pos c.args.first -ℤ pos c.args.second =
    rw (c.from.ensures, c.from-2.ensures) (wide_bits _ _ c.ranges.first.fits c.ranges.second.fits) in
    ap (read_as c.args.first) back
    ∙ elim c.then-lag-eq0.branch [
      | then-lag-eq0-via-then-lag-eq0 w ↦ sym (decide_level _ _ (sym back ∙ ap (to_z w64) w.if-lag-eq0.true))
      | then-lag-eq0-via-else-lag-eq0+then-lag-eq1 w ↦ sym (decide_ahead _ _ (sym back ∙ ap (to_z w64) w.if-lag-eq1.true))
    ]

pub returns : goal.returns
returns c =
    let exact : to_z w64 (of_z w64 c.from.result) -ℤ to_z w64 (of_z w64 c.from-2.result) ≡ pos c.args.first -ℤ pos c.args.second =
    rw (c.from.ensures, c.from-2.ensures) (wide_exact _ _ c.ranges.first.fits c.ranges.second.fits) in
    let back : to_z w64 (of_z w64 (to_z w64 (of_z w64 c.from.result) -ℤ to_z w64 (of_z w64 c.from-2.result))) ≡ pos c.args.first -ℤ pos c.args.second =
    rw (c.from.ensures, c.from-2.ensures) (wide_bits _ _ c.ranges.first.fits c.ranges.second.fits) in
    ap (λ (z : ℤ). Err (Apart z)) back
    ∙ sym (decide_apart _ _ (λ e. c.if-lag-eq0.false (ap (of_z w64) (exact ∙ e))) (λ e. c.if-lag-eq1.false (ap (of_z w64) (exact ∙ e))))
