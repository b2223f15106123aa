-- The next spare of a kind, tried alone, and what is left when it is taken or passed over.
--   next_free, next_room      it may be taken, and leaves less room
--   next_low, next_high, low_next, high_next  it is the lowest Low pointer's neighbour, or the next High address
--   met_none, far_none        where there is none
--   narrow_behind             an address taken behind another
--   spares_fit                the spares of a gap are a row of cells of the image
--   spares_none, spares_held, spares_passed  spares tried: none, the next one holds, or the next one fails
--   spares_alive              the next one has life: it is put there, and no other is tried
use Rattle.std.proofs.Common.{◌≡◌, ℕ, suc, ◌+◌, ◌-◌, ◌%◌, ◌<◌, ◌≤◌, min, max, Bool, true, false, refl, ap, ◌∙◌, true≢false, arith, Some, None}
use Rattle.cells.specs.Chip.{Chip, life_at, Paired}
use Rattle.cells.specs.Run.{Run, run, still, ◌then◌, ◌giving◌}
use Rattle.cells.specs.Put.{put_at}
use Rattle.cells.specs.declared.row.Way.TheVariants.{Up, Down}
use Rattle.cells.specs.Row.{next, RowFits, try_at}
use Rattle.cells.proofs.Walks.{next_nth, walk_none, walk_hit, walk_miss, walk_laws, try_put}
use Rattle.counter.specs.declared.map.Kind.{Kind}
use Rattle.counter.specs.declared.map.Kind.TheVariants.{High, Low}
use Rattle.counter.specs.declared.spares.Gap.{Gap}
use Rattle.counter.specs.Slots.{kind_of}
use Rattle.counter.specs.Spares.{gap, narrow, way_of, next_of, spares_of}
use Rattle.counter.specs.Store.{try_spares}
use Rattle.counter.proofs.Offsets.{kind_low, kind_high}
use Rattle.counter.proofs.Gaps.{Free}
use Rattle.counter.proofs.Tries.{room}
use Rattle.counter.specs.Inside.{Next}
use Rattle.counter.proofs.StoreViews.{GapFits}

-- ## Where it lies

pub next_free : (kind : Kind) (g : Gap) → 0 < spares_of kind g → Free kind g (next_of kind g)
unfolding spares_of next_of
next_free High g some = record { from = omega arith; to = omega arith; reach = λ e. omega arith }
next_free Low g some = record { from = omega arith; to = omega arith; reach = λ e. absurd (true≢false cc) }

pub next_room : (kind : Kind) (g : Gap) → 0 < spares_of kind g → room (narrow kind (next_of kind g) g) < room g
unfolding spares_of next_of narrow
next_room High g some = omega arith
next_room Low g some = omega arith

module _ (g : Gap) where
  pub next_low : g.high < g.low → Next Low g (g.low - 1) (gap g.high (g.low - 1))
  unfolding spares_of next_of narrow
  next_low l =
      let least : min g.low (g.low - 1) ≡ g.low - 1 = omega arith in
      record { some = omega arith; here = refl; leaves = rw least }

  pub next_high : g.high < g.low → g.high < 256 → Next High g g.high (gap (g.high + 1) g.low)
  unfolding spares_of next_of narrow
  next_high l m =
      let most : max g.high (g.high + 1) ≡ g.high + 1 = omega arith in
      record { some = omega arith; here = refl; leaves = rw most }

  pub met_none : (kind : Kind) → g.high ≡ g.low → spares_of kind g ≡ 0
  unfolding spares_of
  met_none High e = omega arith
  met_none Low e = omega arith

  pub far_none : g.high ≡ 256 → spares_of High g ≡ 0
  unfolding spares_of
  far_none e = omega arith

  -- the same of a slot's kind
  pub low_next : (k : ℕ) → k % 8 < 3 → g.high < g.low → Next (kind_of k) g (g.low - 1) (gap g.high (g.low - 1))
  low_next k h l = rw (kind_low k h) (next_low l)

  pub high_next : (k : ℕ) → 3 ≤ k % 8 → g.high < g.low → g.high < 256 → Next (kind_of k) g g.high (gap (g.high + 1) g.low)
  high_next k h l m = rw (kind_high k h) (next_high l m)

-- one spare less is left
spares_fewer : (kind : Kind) (g : Gap) → 0 < spares_of kind g → spares_of kind g ≡ suc (spares_of kind (narrow kind (next_of kind g) g))
unfolding spares_of next_of narrow
spares_fewer High g some = omega arith
spares_fewer Low g some = omega arith

-- its neighbour comes next
next_on : (kind : Kind) (g : Gap) → 0 < spares_of kind g → next (way_of kind) (next_of kind g) ≡ next_of kind (narrow kind (next_of kind g) g)
unfolding spares_of way_of next_of narrow
next_on High g some = rw (next_nth Up (next_of High g)) (omega arith)
next_on Low g some = rw (next_nth Down (next_of Low g)) (omega arith)

-- an address taken behind another leaves what it leaves alone
pub narrow_behind : (kind : Kind) (g : Gap) (a c : ℕ) → Free kind (narrow kind a g) c → narrow kind c (narrow kind a g) ≡ narrow kind c g
unfolding narrow
narrow_behind High g a c free = let from = free.from in let same : max (max g.high (a + 1)) (c + 1) ≡ max g.high (c + 1) = omega arith in rw same
narrow_behind Low g a c free = let to = free.to in let same : min (min g.low a) c ≡ min g.low c = omega arith in rw same

pub spares_fit : {size : ℕ} {g : Gap} (kind : Kind) → GapFits size g → RowFits size (way_of kind) (next_of kind g) (spares_of kind g)
unfolding spares_of way_of next_of
spares_fit High fits = omega arith
spares_fit Low fits = (omega arith, λ some. omega arith)

-- ## Spares tried

module _ (k : ℕ) (g : Gap) (b : ℕ) (s : Chip) where
  pub spares_none : spares_of (kind_of k) g ≡ 0 → try_spares k g b s ≡ still None s
  unfolding try_spares
  spares_none none = rw (none, walk_none)

  module _ (some : 0 < spares_of (kind_of k) g) where
    abbrev at : ℕ
    at = next_of (kind_of k) g

    abbrev left : Gap
    left = narrow (kind_of k) at g

    pub spares_held : (put_at at b s).answer ≡ true → try_spares k g b s ≡ try_at at b s giving Some at
    unfolding try_spares
    spares_held h = rw (spares_fewer (kind_of k) g some) (walk_hit _ _ at b s h)

    pub spares_passed : (put_at at b s).answer ≡ false → try_spares k g b s ≡ try_at at b s then try_spares k left b (put_at at b s).after
    unfolding try_spares
    spares_passed h = rw (spares_fewer (kind_of k) g some, ← next_on (kind_of k) g some) (walk_miss _ _ at b s h)

    pub spares_alive : Paired s → 1 ≤ life_at s at → try_spares k g b s ≡ run (Some at) (put_at at b s).log 1 (put_at at b s).after
    unfolding try_spares
    spares_alive paired life =
        (walk_laws (spares_of (kind_of k) g) (way_of (kind_of k)) at b s paired).first (omega arith) life
        ∙ ap (λ (r : Run Bool). r giving Some at) (try_put at b s)
