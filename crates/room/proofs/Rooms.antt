-- The room that is left.
--   left_used, room_none      the room in an image whose map can be used, and in any other
--   room_tried                it is how many spares of each kind a store finds to try
--   left_counted              the ends of a map leave the room that is counted from the whole of it
use Prim.Native.Nat.{ℕ, ◌-◌, min, ◌≤◌}
use mathlib.Core.Path.{◌≡◌, refl, sym, ◌∙◌}
use mathlib.Core.Bool.{Bool, true, false}
use mathlib.Core.List.{List}
use native.Mathlib.Omega.{arith}
use lib.ListN.{length}
use Rattle.counter.specs.declared.layout.Layout.{Layout}
use Rattle.counter.specs.declared.map.Kind.TheVariants.{High, Low}
use Rattle.counter.specs.declared.places.Places.{Places}
use Rattle.counter.specs.declared.spares.Gap.{Gap}
use Rattle.counter.specs.Layout.{slots}
use Rattle.counter.specs.Map.{map_in, pointer_of}
use Rattle.counter.specs.Spares.{gap_of, spares_of}
use Rattle.counter.specs.Ends.{ends, usable, ends_of}
use Rattle.room.specs.Room.{room, is_spare, count, room_of, left_of}
use Rattle.counter.proofs.Settings.{good_placed}
use Rattle.counter.proofs.Gaps.{Between, between_map, high_spares, low_spares}
use Rattle.counter.proofs.EndLaws.{usable_facts, ends_used, ends_unused}
use Rattle.room.proofs.Counted.{high_counted, low_counted}

module _ (layout : Layout) (p : Places) (cells : List ℕ) where
  abbrev pointer : ℕ → ℕ
  pointer = pointer_of (map_in layout p cells)

  abbrev gap : Gap
  gap = gap_of layout p pointer

  between : Between (slots layout) p pointer gap
  between = between_map layout p pointer

  pub room_none : usable layout p cells ≡ false → room_of layout p cells ≡ room 0 0
  unfolding room_of
  room_none e = rw e

  counted : usable layout p cells ≡ true
      → room_of layout p cells ≡ room (count (length cells) (is_spare layout p pointer High)) (count (length cells) (is_spare layout p pointer Low))
  unfolding room_of
  counted e = rw e

  pub room_tried : usable layout p cells ≡ true → room_of layout p cells ≡ room (spares_of High gap) (spares_of Low gap)
  room_tried e =
      let placed = good_placed layout _ p (usable_facts layout p cells e).good in
      let inside = placed.end_fits in
      let end = between.end in
      let high : count (length cells) (is_spare layout p pointer High) ≡ spares_of High gap = high_counted layout p pointer between (length cells) ∙ rw (high_spares gap) (omega arith) in
      let low : count (length cells) (is_spare layout p pointer Low) ≡ spares_of Low gap = low_counted layout p pointer between (length cells) ∙ rw (low_spares gap) (omega arith) in
      counted e ∙ (λ i. room (high i) (low i))

  -- what lies between two cells, the first of them one below a number
  above : (from to : ℕ) → 1 ≤ from → to - (from - 1) - 1 ≡ to - from
  above from to first = omega arith

  left_used : 1 ≤ gap.high → left_of (ends (gap.high - 1) gap.low) ≡ room (spares_of High gap) (spares_of Low gap)
  unfolding left_of
  left_used first =
      let high = above gap.high (min 256 gap.low) first ∙ sym (high_spares gap) in
      let low = above gap.high gap.low first ∙ sym (low_spares gap) in
      λ i. room (high i) (low i)

  pub left_counted : left_of (ends_of layout p cells) ≡ room_of layout p cells
  unfolding left_of
  left_counted = go (usable layout p cells) refl
    where
      go : (t : Bool) → usable layout p cells ≡ t → left_of (ends_of layout p cells) ≡ room_of layout p cells
      go true e =
          let placed = good_placed layout _ p (usable_facts layout p cells e).good in
          let first = placed.start_low in
          let start = between.start in
          rw (ends_used layout p cells e) (left_used (omega arith) ∙ sym (room_tried e))
      go false e = rw (ends_unused layout p cells e, room_none e)
