-- The pointers of all slots as one row of bytes.
--   pointers_row, mark_row    addresses put as pointers are a row put, and so is the mark
--   row_length                the row of pointers ends where the next slot's pointer begins
--   row_more, laid_low, laid_high  a row laid slot by slot in an array of bytes
use Rattle.std.proofs.Common.{◌≡◌, ℕ, suc, ◌+◌, ◌/◌, ◌%◌, ◌<◌, ◌≤◌, List, [], ◌∷◌, ◌++◌, length, take, set, refl, append_assoc, append-nil, add-zero, add-one, arith, length-append, length-set, take-suc-set, Option, Some, None}
use Rattle.cells.specs.Chip.{Chip}
use Rattle.cells.specs.Row.{put_row}
use Rattle.cells.proofs.Rows.{row_none, row_behind, row_alone}
use Rattle.counter.specs.declared.places.Places.{Places}
use Rattle.counter.specs.Layout.{Layout}
use Rattle.counter.specs.Slots.{kind_of}
use Rattle.counter.specs.Map.{mark_bytes, offset_of, pointer_bytes}
use Rattle.counter.specs.Verdict.{◌and_then◌}
use Rattle.counter.specs.Store.{put_pointer, mapped}
use Rattle.counter.specs.Opening.{put_pointers, put_mark}
use Rattle.counter.specs.Inside.{pointer_row, map_row}
use Rattle.counter.proofs.Offsets.{kind_low, kind_high, bytes_length, offset_next}

-- ## A row put

-- a row of map bytes, and then the bytes behind it
map_behind : (bs cs : List ℕ) (a : ℕ) (s : Chip) → map_row bs a s and_then map_row cs (a + length bs) ≡ map_row (bs ++ cs) a s
map_behind bs cs a s = go (put_row bs a s).answer refl
  where
    go : (f : Option ℕ) → (put_row bs a s).answer ≡ f → map_row bs a s and_then map_row cs (a + length bs) ≡ map_row (bs ++ cs) a s
    go None h = unfold mapped in rw (row_behind cs bs a s h, h)
    go (Some x) h = unfold mapped in rw (row_alone cs x bs a s h, h)

pub pointers_row : (layout : Layout) (addresses : List ℕ) (k : ℕ) (p : Places) (s : Chip) → put_pointers addresses k layout p s ≡ map_row (pointer_row addresses k) (p.map + offset_of k) s
unfolding put_pointers pointer_row put_pointer mapped
pointers_row layout [] k p s = rw row_none
pointers_row layout (a ∷ rest) k p s =
    let bytes = pointer_bytes (kind_of k) a in
    let at = p.map + offset_of k in
    let behind : p.map + offset_of (k + 1) ≡ at + length bytes = rw (bytes_length (kind_of k) a) (omega (arith, offset_next k)) in
    rw (pointers_row layout rest (k + 1) p (put_row bytes at s).after, behind) (map_behind bytes (pointer_row rest (k + 1)) at s)

pub mark_row : (layout : Layout) (p : Places) (s : Chip) → put_mark layout p s ≡ map_row mark_bytes p.map s
unfolding put_mark
mark_row layout p s = refl

pub row_length : (addresses : List ℕ) (k : ℕ) → offset_of k + length (pointer_row addresses k) ≡ offset_of (k + length addresses)
unfolding pointer_row
row_length [] k = rw (add-zero (offset_of k), add-zero k)
row_length (a ∷ rest) k =
    let sum : k + suc (length rest) ≡ k + 1 + length rest = omega arith in
    rw (sum, length-append, bytes_length) (omega (arith, offset_next k, row_length rest (k + 1)))

-- ## A row laid slot by slot in an array of bytes

-- one address more
pub row_more : (addresses : List ℕ) (a k : ℕ) → pointer_row (addresses ++ (a ∷ [])) k ≡ pointer_row addresses k ++ pointer_bytes (kind_of (k + length addresses)) a
unfolding pointer_row
row_more [] a k = rw (add-zero k, append-nil)
row_more (b ∷ rest) a k =
    let sum : k + suc (length rest) ≡ k + 1 + length rest = omega arith in
    rw (sum, row_more rest a (k + 1), append_assoc)

module _ (bytes : List ℕ) (k a end : ℕ) where
  -- the bytes of a slot's pointer, laid behind those of the slots before it
  pub laid_low : k % 8 < 3 → end + 1 < length bytes → take (end + 1 + 1) (set (set bytes end (a % 256)) (end + 1) (a / 256)) ≡ take end bytes ++ pointer_bytes (kind_of k) a
  unfolding pointer_bytes
  laid_low h l =
      rw (kind_low k h, add-one (end + 1), take-suc-set (set bytes end (a % 256)) (end + 1) (a / 256) (rw length-set l), add-one end, take-suc-set bytes end (a % 256) (omega arith), append_assoc)

  pub laid_high : 3 ≤ k % 8 → end < length bytes → a ≤ 255 → take (end + 1) (set bytes end (a % 256)) ≡ take end bytes ++ pointer_bytes (kind_of k) a
  unfolding pointer_bytes
  laid_high h l small =
      let same : a % 256 ≡ a = omega arith in
      rw (kind_high k h, add-one end, take-suc-set bytes end (a % 256) l, same)
