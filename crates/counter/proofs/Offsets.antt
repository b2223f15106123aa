-- Where pointers lie in the map: each ends before the next begins, and the last inside the map.
--   kind_low, kind_high       which slots are Low and which High
--   low_slot, high_slot       and back
--   bytes_of, bytes_some, bytes_length  the bytes of a pointer of a kind
--   offset_first              a pointer lies behind the mark
--   offset_next               a slot's pointer ends where the next slot's begins
--   offset_before             a slot's pointer ends before any later slot's begins
--   offset_inside             it ends inside the map
--   offset_most               no slot's pointer, nor what follows the last one, begins behind the map's end
--   low_bytes, high_bytes     a Low pointer has two bytes, a High one has one
--   low_inside, high_inside   so do the two bytes of a Low one, and the one of a High one
--   offset_low, offset_high   where it starts, by its kind
--   pointer_low, pointer_high a pointer by its bytes
use Rattle.std.proofs.Common.{◌≡◌, ℕ, ◌+◌, ◌*◌, ◌/◌, ◌%◌, ◌<◌, ◌≤◌, ◌⊎◌, List, length, refl, inl, inr, arith, le-ltb, lt-ltb}
use native.Mathlib.Decide.{dec_lt}
use Rattle.counter.specs.declared.map.Kind.{Kind}
use Rattle.counter.specs.declared.map.Kind.TheVariants.{High, Low}
use Rattle.counter.specs.Slots.{kind_of}
use Rattle.counter.specs.Map.{byte_at, offset_in, offset_of, pointer_at, pointer_of, pointer_bytes}
use Rattle.counter.specs.Layout.{Layout, slots, map_cells}

pub kind_low : (k : ℕ) → k % 8 < 3 → kind_of k ≡ Low
unfolding kind_of
kind_low k h = rw (lt-ltb (k % 8) 3 h)

pub kind_high : (k : ℕ) → 3 ≤ k % 8 → kind_of k ≡ High
unfolding kind_of
kind_high k h = rw (le-ltb (k % 8) 3 h)

pub low_slot : (k : ℕ) → kind_of k ≡ Low → k % 8 < 3
low_slot k e = go (dec_lt (k % 8) 3)
  where
    go : Dec (k % 8 < 3) → k % 8 < 3
    go (yes h) = h
    go (no h) = let other = kind_high k (omega arith) in cc

pub high_slot : (k : ℕ) → kind_of k ≡ High → 3 ≤ k % 8
high_slot k e = go (dec_lt (k % 8) 3)
  where
    go : Dec (k % 8 < 3) → 3 ≤ k % 8
    go (yes h) = let other = kind_low k h in cc
    go (no h) = omega arith

-- the bytes of a pointer of a kind
unfoldable pub bytes_of : Kind → ℕ
bytes_of Low = 2
bytes_of High = 1

pub bytes_some : (kind : Kind) → 1 ≤ bytes_of kind
unfolding bytes_of
bytes_some Low = omega arith
bytes_some High = omega arith

pub bytes_length : (kind : Kind) (a : ℕ) → length (pointer_bytes kind a) ≡ bytes_of kind
unfolding pointer_bytes bytes_of
bytes_length Low a = refl
bytes_length High a = refl

-- where a slot's pointer starts and how many bytes it has, by cases
data Lies (k : ℕ) : Type 0 where
  low : k % 8 < 3 → kind_of k ≡ Low → offset_of k ≡ 2 + 11 * (k / 8) + 2 * (k % 8) → bytes_of (kind_of k) ≡ 2 → Lies k
  high : 3 ≤ k % 8 → kind_of k ≡ High → offset_of k ≡ 2 + 11 * (k / 8) + (k % 8 + 3) → bytes_of (kind_of k) ≡ 1 → Lies k

lies : (k : ℕ) → Lies k
unfolding offset_of offset_in bytes_of
lies k = go (dec_lt (k % 8) 3)
  where
    go : Dec (k % 8 < 3) → Lies k
    go (yes h) = low h (kind_low k h) (rw (lt-ltb (k % 8) 3 h)) (rw (kind_low k h))
    go (no h) =
        let g : 3 ≤ k % 8 = omega arith in
        high g (kind_high k g) (rw (le-ltb (k % 8) 3 g)) (rw (kind_high k g))

pub offset_first : (k : ℕ) → 2 ≤ offset_of k
offset_first k = go (lies k)
  where
    go : Lies k → 2 ≤ offset_of k
    go (low h kind at size) = omega arith
    go (high h kind at size) = omega arith

pub offset_next : (k : ℕ) → offset_of (k + 1) ≡ offset_of k + bytes_of (kind_of k)
offset_next k = go (lies k) (lies (k + 1))
  where
    go : Lies k → Lies (k + 1) → offset_of (k + 1) ≡ offset_of k + bytes_of (kind_of k)
    go (low h kind at size) (low h' kind' at' size') = omega arith
    go (low h kind at size) (high h' kind' at' size') = let same : (k + 1) / 8 ≡ k / 8 = omega arith in omega arith
    go (high h kind at size) (low h' kind' at' size') = let next : (k + 1) / 8 ≡ k / 8 + 1 = omega arith in omega arith
    go (high h kind at size) (high h' kind' at' size') = omega arith

-- an earlier slot is in an earlier copy, or lower in the same
earlier : (j k : ℕ) → j < k → ((j / 8 ≡ k / 8) × (j % 8 < k % 8)) ⊎ (j / 8 < k / 8)
earlier j k h = go (dec_lt (j / 8) (k / 8))
  where
    go : Dec (j / 8 < k / 8) → ((j / 8 ≡ k / 8) × (j % 8 < k % 8)) ⊎ (j / 8 < k / 8)
    go (yes l) = inr l
    go (no l) = inl (omega arith, omega arith)

pub offset_before : (j k : ℕ) → j < k → offset_of j + bytes_of (kind_of j) ≤ offset_of k
offset_before j k h = go (earlier j k h) (lies j) (lies k)
  where
    go : ((j / 8 ≡ k / 8) × (j % 8 < k % 8)) ⊎ (j / 8 < k / 8) → Lies j → Lies k → offset_of j + bytes_of (kind_of j) ≤ offset_of k
    go (inl (q, r)) (low h kind at size) (low h' kind' at' size') = omega arith
    go (inl (q, r)) (low h kind at size) (high h' kind' at' size') = omega arith
    go (inl (q, r)) (high h kind at size) (low h' kind' at' size') = omega arith
    go (inl (q, r)) (high h kind at size) (high h' kind' at' size') = omega arith
    go (inr q) (low h kind at size) (low h' kind' at' size') = omega arith
    go (inr q) (low h kind at size) (high h' kind' at' size') = omega arith
    go (inr q) (high h kind at size) (low h' kind' at' size') = omega arith
    go (inr q) (high h kind at size) (high h' kind' at' size') = omega arith

pub offset_inside : (layout : Layout) (k : ℕ) → k < slots layout → offset_of k + bytes_of (kind_of k) ≤ map_cells layout
offset_inside layout k h = go (lies k)
  where
    go : Lies k → offset_of k + bytes_of (kind_of k) ≤ map_cells layout
    go (low h' kind at size) = omega arith
    go (high h' kind at size) = omega arith

pub offset_most : (layout : Layout) (k : ℕ) → k ≤ slots layout → offset_of k ≤ map_cells layout
offset_most layout k h = go (lies k)
  where
    go : Lies k → offset_of k ≤ map_cells layout
    go (low h' kind at size) = omega arith
    go (high h' kind at size) = omega arith

pub low_bytes : (k : ℕ) → k % 8 < 3 → bytes_of (kind_of k) ≡ 2
unfolding bytes_of
low_bytes k l = rw (kind_low k l)

pub high_bytes : (k : ℕ) → 3 ≤ k % 8 → bytes_of (kind_of k) ≡ 1
unfolding bytes_of
high_bytes k l = rw (kind_high k l)

pub low_inside : (layout : Layout) (k : ℕ) → k < slots layout → k % 8 < 3 → offset_of k + 2 ≤ map_cells layout
unfolding bytes_of
low_inside layout k h l = rw (kind_low k l) at (offset_inside layout k h)

pub high_inside : (layout : Layout) (k : ℕ) → k < slots layout → 3 ≤ k % 8 → offset_of k + 1 ≤ map_cells layout
unfolding bytes_of
high_inside layout k h l = rw (kind_high k l) at (offset_inside layout k h)

pub offset_low : (k : ℕ) → k % 8 < 3 → offset_of k ≡ 2 + 11 * (k / 8) + 2 * (k % 8)
unfolding offset_of offset_in
offset_low k h = rw (lt-ltb (k % 8) 3 h)

pub offset_high : (k : ℕ) → 3 ≤ k % 8 → offset_of k ≡ 2 + 11 * (k / 8) + (k % 8 + 3)
unfolding offset_of offset_in
offset_high k h = rw (le-ltb (k % 8) 3 h)

pub pointer_low : (map : List ℕ) (k : ℕ) → k % 8 < 3 → pointer_of map k ≡ byte_at map (offset_of k) + 256 * byte_at map (offset_of k + 1)
unfolding pointer_of pointer_at
pointer_low map k h = rw (kind_low k h)

pub pointer_high : (map : List ℕ) (k : ℕ) → 3 ≤ k % 8 → pointer_of map k ≡ byte_at map (offset_of k)
unfolding pointer_of pointer_at
pointer_high map k h = rw (kind_high k h)
