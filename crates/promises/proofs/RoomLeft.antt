-- The room that sound pointers leave: the area's cells less one for each slot, at most.
--   sound_room                over the pointers as a function
--   exact_room                of a chip that holds a count exactly
use Prim.Native.Nat.{ℕ, ◌+◌, ◌-◌, ◌≤◌, ◌<◌}
use mathlib.Core.Path.{◌≡◌, refl}
use native.Mathlib.Omega.{arith}
use Rattle.cells.specs.Chip.{Chip}
use Rattle.counter.specs.declared.map.Kind.{Kind}
use Rattle.counter.specs.declared.map.Kind.TheVariants.{High, Low}
use Rattle.counter.specs.declared.places.Places.{Places}
use Rattle.counter.specs.declared.spares.Gap.{Gap}
use Rattle.counter.specs.declared.layout.Layout.{Layout}
use Rattle.counter.specs.Layout.{slots}
use Rattle.counter.specs.Slots.{kind_of}
use Rattle.promises.specs.Runs.{area_cells}
use Rattle.counter.proofs.SoundPointers.{Sound}
use Rattle.counter.proofs.Gaps.{Between, between_map, between_ordered}
use Rattle.counter.proofs.Ready.{pointers, start_fits}
use Rattle.counter.proofs.Tries.{room}
use Rattle.counter.proofs.Moves.{room_of}
use Rattle.counter.proofs.Exact.{Exact}
use Rattle.promises.proofs.Numbers.{lies, lies_in, total_least, lies_most}

module _ {n : ℕ} {p : Places} {pointer : ℕ → ℕ} {g : Gap} (fits : p.start ≤ p.end + 1) (sound : Sound n p pointer) (between : Between n p pointer g) where
  -- one where an address is below the gap, and one where it is above it
  abbrev below : ℕ → ℕ
  below k = lies p.start (g.high - p.start) (pointer k)

  abbrev above : ℕ → ℕ
  above k = lies g.low (p.end + 1 - g.low) (pointer k)

  -- a pointer is in the area and not in the gap
  outside : (k : ℕ) → k < n → 1 ≤ below k + above k
  outside k l = go (kind_of k) refl
    where
      go : (kind : Kind) → kind_of k ≡ kind → 1 ≤ below k + above k
      go High e =
          let from = (sound.inside k l).from in
          let to = between.above k l e in
          let one = lies_in p.start (g.high - p.start) (pointer k) from (omega arith) in
          omega arith
      go Low e =
          let from = between.below k l e in
          let to = (sound.inside k l).to in
          let one = lies_in g.low (p.end + 1 - g.low) (pointer k) from (omega arith) in
          omega arith

  pub sound_room : room g + n ≤ area_cells p
  sound_room =
      let all = total_least n below above outside in
      let low = lies_most n pointer sound.apart p.start (g.high - p.start) in
      let high = lies_most n pointer sound.apart g.low (p.end + 1 - g.low) in
      let ordered = between_ordered fits sound between in
      let start = between.start in
      let end = between.end in
      omega arith

pub exact_room : {layout : Layout} {p : Places} {c : ℕ} {s : Chip} → Exact layout p c s → room_of layout p s + slots layout ≤ area_cells p
exact_room {layout} {p} {c} {s} exact = sound_room (start_fits exact.ready) exact.sound (between_map layout p (pointers layout p s))
