-- The test of a chip lent with its lives, turned into facts and back.
--   fitted_ready, ready_fitted  refusals 1 and 2 do not hold
--   tests_ready               the three tests, one by one
--   ready_short               an image has at most 4096 cells
use Rattle.std.proofs.Common.{◌≡◌, ◌+◌, ◌≤◌, true, leb, length, eq-eqb, eqb-true, leb-true}
use Rattle.cells.specs.Chip.{Chip}
use Rattle.counter.specs.declared.places.Places.{Places}
use Rattle.counter.specs.Layout.{Layout, slots, map_cells}
use Rattle.counter.specs.Places.{length_good, places_good, lives_good}
use Rattle.counter.specs.Inside.{fitted}
use Rattle.counter.proofs.RangeTests.{both_hold, hold_both}
use Rattle.counter.proofs.Ready.{Ready}

module _ {layout : Layout} {p : Places} {s : Chip} where
  pub tests_ready : lives_good s ≡ true → length_good layout (length s.cells) ≡ true → places_good layout (length s.cells) p ≡ true → Ready layout p s
  unfolding lives_good
  tests_ready lives long good = record { paired = eqb-true _ _ lives; long = long; good = good }

  pub fitted_ready : fitted layout p s ≡ true → Ready layout p s
  unfolding fitted
  fitted_ready h =
      let h₁ = both_hold _ (places_good layout (length s.cells) p) h in
      let h₂ = both_hold (lives_good s) _ h₁.0 in
      tests_ready h₂.0 h₂.1 h₁.1

  pub ready_fitted : Ready layout p s → fitted layout p s ≡ true
  unfolding fitted lives_good
  ready_fitted r = hold_both _ _ (hold_both _ _ (eq-eqb _ _ r.paired) r.long) r.good

  pub ready_short : Ready layout p s → length s.cells ≤ 4096
  unfolding length_good
  ready_short r = leb-true _ _ (both_hold (leb (1 + map_cells layout + slots layout) (length s.cells)) _ r.long).1
