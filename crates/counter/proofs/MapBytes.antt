-- The map inside an image: its bytes, its mark and its pointers, by the cells they lie in.
--   map_byte                  byte j of the map is the cell j behind its place
--   map_whole                 it is whole where the settings are good
--   map_same                  images that agree on the map's cells have the same map
--   pointer_same              maps that agree on a pointer's bytes have the same pointer
--   pointer_put               the bytes of an address, read as a pointer, give the address
--   mark_same                 maps that agree on the first two bytes are marked alike
--   mark_put                  the mark's two bytes are a mark
--   mark_none                 a map that starts with another byte has none
use Rattle.std.proofs.Common.{◌≡◌, ℕ, ◌+◌, ◌/◌, ◌%◌, ◌<◌, ◌≤◌, true, false, List, length, get_or, drop, sym, ◌∙◌, add-zero, arith, length-drop, length-take, get_or-drop, get_or-take, ext_get_or, ne_eqb}
use Rattle.counter.specs.declared.map.Kind.{Kind}
use Rattle.counter.specs.declared.map.Kind.TheVariants.{High, Low}
use Rattle.counter.specs.declared.places.Places.{Places}
use Rattle.counter.specs.Layout.{Layout, map_cells}
use Rattle.counter.specs.Slots.{kind_of}
use Rattle.counter.specs.Map.{map_in, byte_at, marked, offset_of, pointer_at, pointer_of, pointer_bytes}
use Rattle.counter.proofs.Offsets.{bytes_of}
use Rattle.counter.proofs.Settings.{Placed}

pub map_byte : (layout : Layout) (p : Places) (cells : List ℕ) (j : ℕ) → j < map_cells layout → byte_at (map_in layout p cells) j ≡ get_or cells (p.map + j) 0
map_byte layout p cells j h = get_or-take (map_cells layout) (drop p.map cells) j 0 h ∙ get_or-drop p.map cells j 0

-- the map of an image of some length has some length
map_length : (layout : Layout) (p : Places) (one other : List ℕ) → length one ≡ length other → length (map_in layout p one) ≡ length (map_in layout p other)
map_length layout p one other e = simp (length-take, length-drop) (rw e)

pub map_same :
    (layout : Layout) (p : Places) (one other : List ℕ) → length one ≡ length other
    → ((j : ℕ) → j < map_cells layout → get_or one (p.map + j) 0 ≡ get_or other (p.map + j) 0)
    → map_in layout p one ≡ map_in layout p other
map_same layout p one other e same =
    ext_get_or 0 (map_in layout p one) (map_in layout p other) (map_length layout p one other e)
    (λ j l. let h : j < map_cells layout = omega (arith, simp length-take at l) in map_byte layout p one j h ∙ same j h ∙ sym (map_byte layout p other j h))

-- a pointer reads its own bytes alone
at_same :
    (kind : Kind) (one other : List ℕ) (from : ℕ)
    → ((j : ℕ) → from ≤ j → j < from + bytes_of kind → byte_at one j ≡ byte_at other j)
    → pointer_at kind one from ≡ pointer_at kind other from
unfolding pointer_at bytes_of
at_same Low one other from same = rw (same from (omega arith) (omega arith), same (from + 1) (omega arith) (omega arith))
at_same High one other from same = same from (omega arith) (omega arith)

pub pointer_same :
    (one other : List ℕ) (k : ℕ)
    → ((j : ℕ) → offset_of k ≤ j → j < offset_of k + bytes_of (kind_of k) → byte_at one j ≡ byte_at other j)
    → pointer_of one k ≡ pointer_of other k
unfolding pointer_of
pointer_same one other k same = at_same (kind_of k) one other (offset_of k) same

-- the bytes of an address give the address
at_put :
    (kind : Kind) (map : List ℕ) (from a : ℕ)
    → ((i : ℕ) → i < bytes_of kind → byte_at map (from + i) ≡ get_or (pointer_bytes kind a) i 0)
    → pointer_at kind map from ≡ a
unfolding pointer_at pointer_bytes bytes_of
at_put Low map from a put =
    let low : byte_at map from ≡ a % 256 = rw add-zero at (put 0 (omega arith)) in
    let high : byte_at map (from + 1) ≡ a / 256 = put 1 (omega arith) in
    omega arith
at_put High map from a put = rw add-zero at (put 0 (omega arith))

pub pointer_put :
    (map : List ℕ) (k a : ℕ)
    → ((i : ℕ) → i < bytes_of (kind_of k) → byte_at map (offset_of k + i) ≡ get_or (pointer_bytes (kind_of k) a) i 0)
    → pointer_of map k ≡ a
unfolding pointer_of
pointer_put map k a put = at_put (kind_of k) map (offset_of k) a put

pub mark_same : (one other : List ℕ) → byte_at one 0 ≡ byte_at other 0 → byte_at one 1 ≡ byte_at other 1 → marked one ≡ marked other
unfolding marked
mark_same one other e f = rw (e, f)

pub mark_put : (map : List ℕ) → byte_at map 0 ≡ 0xA5 → byte_at map 1 ≡ 0x5A → marked map ≡ true
unfolding marked
mark_put map e f = rw (e, f)

pub mark_none : (map : List ℕ) → (byte_at map 0 ≡ 0xA5 → ⊥) → marked map ≡ false
unfolding marked
mark_none map other = rw (ne_eqb _ _ other)

pub map_whole : {layout : Layout} {p : Places} (cells : List ℕ) → Placed layout (length cells) p → length (map_in layout p cells) ≡ map_cells layout
map_whole cells good = let fits = good.map_fits in simp (length-take, length-drop) (omega arith)
