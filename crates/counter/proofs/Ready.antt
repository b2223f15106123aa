-- A chip with good settings, and what stays of its map while cells are written.
--   pointers, data_of         a chip's pointers, and the byte at each
--   Ready                     refusals 1 and 2 do not hold
--   ready_placed              the settings as facts
--   ready_kept                it stays so
--   InMap, Own                the cells of the map; those of map or area
--   byte_kept, mark_kept      a map byte stays where its cell does, and the mark where its two do
--   map_kept                  the map stays where only area cells change
--   inside_cell               a cell of the area is a cell of the image
--   apart_map                 and none of the map
--   own_cell                  a cell of map or area is one of the image
--   start_fits                the area starts before it ends
--   sound_reaches             sound pointers are cells of the image
use Rattle.std.proofs.Common.{◌≡◌, ℕ, ◌+◌, ◌-◌, ◌<◌, ◌≤◌, true, ◌⊎◌, List, length, sym, refl, ◌∙◌, inl, inr, arith}
use Rattle.cells.specs.Chip.{Chip, cell_at, Paired, Kept}
use Rattle.counter.specs.declared.places.Places.{Places}
use Rattle.counter.specs.Layout.{Layout, two, slots, map_cells}
use Rattle.counter.specs.Places.{length_good, places_good}
use Rattle.counter.specs.Map.{map_in, byte_at, marked, pointer_of}
use Rattle.counter.specs.Inside.{Reaches}
use Rattle.counter.proofs.Settings.{Placed, good_placed, map_outside}
use Rattle.counter.proofs.SoundPointers.{Inside, Sound}
use Rattle.counter.proofs.MapBytes.{map_byte, map_same, map_whole, mark_same}

abbrev pub pointers : Layout → Places → Chip → ℕ → ℕ
pointers layout p s = pointer_of (map_in layout p s.cells)

abbrev pub data_of : Layout → Places → Chip → ℕ → ℕ
data_of layout p s k = cell_at s (pointers layout p s k)

pub record Ready (layout : Layout) (p : Places) (s : Chip) : Type 0 where
  pub paired : Paired s
  pub long : length_good layout (length s.cells) ≡ true
  pub good : places_good layout (length s.cells) p ≡ true

pub record InMap (layout : Layout) (p : Places) (a : ℕ) : Type 0 where
  pub from : p.map ≤ a
  pub to : a < p.map + map_cells layout

abbrev pub Own : Layout → Places → ℕ → Type 0
Own layout p a = InMap layout p a ⊎ Inside p a

module _ {layout : Layout} {p : Places} {s : Chip} (ready : Ready layout p s) where
  pub ready_placed : Placed layout (length s.cells) p
  ready_placed = good_placed layout (length s.cells) p ready.good

  pub inside_cell : {a : ℕ} → Inside p a → a < length s.cells
  inside_cell i = let h = ready_placed.end_fits in let h' = i.to in omega arith

  pub own_cell : {a : ℕ} → Own layout p a → a < length s.cells
  own_cell (inl m) = let h = ready_placed.map_fits in let h' = m.to in omega arith
  own_cell (inr i) = inside_cell i

  -- no cell is of the map and of the area
  pub apart_map : {a : ℕ} → InMap layout p a → Inside p a → ⊥
  apart_map {a} m i =
      let h = m.from in
      let h' = m.to in
      map_outside ready_placed (a - p.map) a (omega arith) i.from i.to (omega arith)

  pub start_fits : p.start ≤ p.end + 1
  start_fits = let h = ready_placed.large in omega arith

  module _ {Place : ℕ → Type 0} {t : Chip} (kept : Kept Place s t) where
    pub ready_kept : Ready layout p t
    ready_kept =
        record {
          paired = kept.lives_length ∙ ready.paired ∙ sym kept.cells_length;
          long = rw kept.cells_length ready.long;
          good = rw kept.cells_length ready.good;
        }

    pub byte_kept :
        (j : ℕ) → j < map_cells layout → (Place (p.map + j) → ⊥)
        → byte_at (map_in layout p t.cells) j ≡ byte_at (map_in layout p s.cells) j
    byte_kept j l n = map_byte layout p t.cells j l ∙ kept.cell (p.map + j) n ∙ sym (map_byte layout p s.cells j l)

    pub mark_kept : ((j : ℕ) → j < 2 → Place (p.map + j) → ⊥) → marked (map_in layout p t.cells) ≡ marked (map_in layout p s.cells)
    mark_kept apart = mark_same _ _ (byte_kept 0 (omega arith) (apart 0 (omega arith))) (byte_kept 1 (omega arith) (apart 1 (omega arith)))

  pub map_kept : {t : Chip} → Kept (Inside p) s t → map_in layout p t.cells ≡ map_in layout p s.cells
  map_kept {t} kept =
      map_same layout p t.cells s.cells kept.cells_length
      (λ j l. kept.cell (p.map + j) (λ i. map_outside ready_placed j (p.map + j) l i.from i.to refl))

-- sound pointers are cells of the image
pub sound_reaches : {p : Places} (cells : List ℕ) → Placed two (length cells) p → Sound (slots two) p (pointer_of (map_in two p cells)) → Reaches cells (map_in two p cells)
sound_reaches cells placed sound = (map_whole cells placed, λ k l. omega (arith, placed, (sound.inside k l).to))
