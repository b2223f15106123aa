-- The ends of a map.
--   usable_facts              what a map that can be used is
--   ends_used, ends_unused    the ends of one that can be used, and of one that cannot
--   ends_same                 they are known from the image's length and its map
--   EndsAre, ends_are         the ends in their own words: the highest High pointer and the lowest Low one
use Rattle.std.proofs.Common.{◌≡◌, ℕ, ◌+◌, ◌-◌, ◌<◌, ◌≤◌, true, false, List, length, refl, arith}
use Rattle.counter.specs.declared.ends.Ends.{Ends}
use Rattle.counter.specs.declared.map.Kind.TheVariants.{High, Low}
use Rattle.counter.specs.declared.places.Places.{Places}
use Rattle.counter.specs.Layout.{Layout, slots}
use Rattle.counter.specs.Slots.{kind_of}
use Rattle.counter.specs.Places.{length_good, places_good}
use Rattle.counter.specs.Map.{map_in, marked, pointer_of}
use Rattle.counter.specs.Spares.{gap_of}
use Rattle.counter.specs.Ends.{ends, none, usable, ends_of}
use Rattle.counter.proofs.RangeTests.{both_hold}
use Rattle.counter.proofs.Settings.{good_placed}
use Rattle.counter.proofs.SoundPointers.{Sound, test_sound}
use Rattle.counter.proofs.Gaps.{between_map}

-- a map that can be used
pub record Usable (layout : Layout) (p : Places) (cells : List ℕ) : Type 0 where
  pub long : length_good layout (length cells) ≡ true
  pub good : places_good layout (length cells) p ≡ true
  pub marks : marked (map_in layout p cells) ≡ true
  pub sound : Sound (slots layout) p (pointer_of (map_in layout p cells))

-- of the slots below n, no High pointer is above the highest and no number below it is such; no Low one below the lowest and no number above it
pub record EndsAre (n : ℕ) (pointer : ℕ → ℕ) (e : Ends) : Type 0 where
  pub highest : (k : ℕ) → k < n → kind_of k ≡ High → pointer k ≤ e.highest
  pub least : (a : ℕ) → ((k : ℕ) → k < n → kind_of k ≡ High → pointer k ≤ a) → e.highest ≤ a
  pub lowest : (k : ℕ) → k < n → kind_of k ≡ Low → e.lowest ≤ pointer k
  pub greatest : (a : ℕ) → ((k : ℕ) → k < n → kind_of k ≡ Low → a ≤ pointer k) → a ≤ e.lowest

module _ (layout : Layout) (p : Places) (cells : List ℕ) where
  abbrev pointer : ℕ → ℕ
  pointer = pointer_of (map_in layout p cells)

  pub usable_facts : usable layout p cells ≡ true → Usable layout p cells
  unfolding usable
  usable_facts e =
      let all = both_hold _ _ e in
      let three = both_hold _ _ all.0 in
      let two = both_hold _ _ three.0 in
      record { long = two.0; good = two.1; marks = three.1; sound = test_sound layout p pointer all.1 }

  pub ends_used : usable layout p cells ≡ true → ends_of layout p cells ≡ ends ((gap_of layout p pointer).high - 1) (gap_of layout p pointer).low
  unfolding ends_of
  ends_used e = rw e

  pub ends_unused : usable layout p cells ≡ false → ends_of layout p cells ≡ none
  unfolding ends_of
  ends_unused e = rw e

  pub ends_same : (other : List ℕ) → length other ≡ length cells → map_in layout p other ≡ map_in layout p cells → ends_of layout p other ≡ ends_of layout p cells
  unfolding ends_of usable
  ends_same other long same = rw (long, same)

  pub ends_are : 1 ≤ layout.copies → usable layout p cells ≡ true → EndsAre (slots layout) pointer (ends_of layout p cells)
  unfolding kind_of
  ends_are some e =
      let facts = usable_facts e in
      let placed = good_placed layout _ p facts.good in
      let first = placed.start_low in
      let between = between_map layout p pointer in
      let start = between.start in
      let low = facts.sound.inside 0 (omega arith) in
      let high = facts.sound.inside 3 (omega arith) in
      rw (ends_used e)
      (record {
        highest = λ k l kind. let h = between.above k l kind in omega arith;
        least = λ a bound. let h = bound 3 (omega arith) refl in let from = high.from in let least = between.least (a + 1) (omega arith) (λ k l kind. let h = bound k l kind in omega arith) in omega arith;
        lowest = between.below;
        greatest = λ a bound. let h = bound 0 (omega arith) refl in let to = low.to in between.greatest a (omega arith) bound;
      })
