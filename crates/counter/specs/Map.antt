-- The map: its mark, its pointers, and when it is sound (document 01, "The map"). A map is the list of its
-- cells. How a byte is kept in them is known to `byte_at`, for reading, and to `put_pointer` (Store.antt) and `put_mark` (Opening.antt).
use Rattle.std.specs.Prelude.{ℕ, ◌+◌, ◌*◌, ◌/◌, ◌%◌, Bool, true, cond, not, ◌&&◌, List, [], ◌∷◌, take, drop, ◌==◌, nat_le, nat_lt, slice_index}
use Rattle.counter.specs.declared.map.Kind.{Kind}
use Rattle.counter.specs.declared.map.Kind.TheVariants.{High, Low}
use Rattle.counter.specs.declared.places.Places.{Places}
use Rattle.counter.specs.Layout.{Layout, slots, copy_bytes, copy_cells, map_cells}
use Rattle.counter.specs.Slots.{kind_of, every}

-- the part of an image's cells that is the map
abbrev pub map_in : Layout → Places → List ℕ → List ℕ
map_in layout p cells = take (map_cells layout) (drop p.map cells)

-- byte j of a map
abbrev pub byte_at : List ℕ → ℕ → ℕ
byte_at map j = slice_index map j

-- the mark's two bytes
abbrev pub mark_bytes : List ℕ
mark_bytes = 0xA5 ∷ 0x5A ∷ []

unfoldable pub marked : List ℕ → Bool
marked map = byte_at map 0 == 0xA5 && byte_at map 1 == 0x5A

-- where the part of a copy, counted from 0, starts in the map
abbrev pub part_at : Layout → ℕ → ℕ
part_at layout copy = 2 + copy_cells layout * copy

-- where in its copy's part a nibble's pointer starts: two bytes for each Low nibble, one for each High one
unfoldable pub offset_in : ℕ → ℕ
offset_in n = cond (nat_lt n 3) (2 * n) (n + 3)

-- where a slot's pointer starts, in bytes of the map
unfoldable pub offset_of : ℕ → ℕ
offset_of k = 2 + copy_bytes * (k / 8) + offset_in (k % 8)

-- the pointer of a kind that starts at a byte of the map: two bytes, low byte first, or one
unfoldable pub pointer_at : Kind → List ℕ → ℕ → ℕ
pointer_at Low map j = byte_at map j + 256 * byte_at map (j + 1)
pointer_at High map j = byte_at map j

-- a slot's pointer
unfoldable pub pointer_of : List ℕ → ℕ → ℕ
pointer_of map k = pointer_at (kind_of k) map (offset_of k)

-- the bytes that hold an address as a pointer of a kind
unfoldable pub pointer_bytes : Kind → ℕ → List ℕ
pointer_bytes Low a = a % 256 ∷ a / 256 ∷ []
pointer_bytes High a = a ∷ []

-- an address is in the area
abbrev pub in_area : Places → ℕ → Bool
in_area p a = nat_le p.start a && nat_le a p.end

-- a High pointer is at most 255
unfoldable pub reachable : Kind → ℕ → Bool
reachable High a = nat_le a 255
reachable Low a = true

-- a High pointer is below a Low one
unfoldable pub in_order : Kind → Kind → ℕ → ℕ → Bool
in_order High Low high low = nat_lt high low
in_order High High a b = true
in_order Low Low a b = true
in_order Low High a b = true

-- the pointers of a map are sound: all in the area, High ones at most 255, all different, and every High one
-- below every Low one
unfoldable pub sound : Layout → Places → (ℕ → ℕ) → Bool
sound layout p pointer =
    every (slots layout) (λ k. in_area p (pointer k))
    && every (slots layout) (λ k. reachable (kind_of k) (pointer k))
    && every (slots layout) (λ j. every j (λ i. not (pointer i == pointer j)))
    && every (slots layout) (λ i. every (slots layout) (λ j. in_order (kind_of i) (kind_of j) (pointer i) (pointer j)))
