-- Storing a count (document 01, "Storing, opening, stepping").
use Rattle.std.specs.Prelude.{ℕ, zero, suc, ◌+◌, ◌%◌, cond, Option, Some, None, Err}
use Rattle.code.specs.Codes.{code_of}
use Rattle.code.specs.Gray.{gray_of}
use Rattle.code.specs.Nibbles.{nibble_of}
use Rattle.cells.specs.Chip.{Chip}
use Rattle.cells.specs.Run.{Run, still, ◌then◌, ◌giving◌}
use Rattle.cells.specs.Put.{put_at}
use Rattle.cells.specs.Row.{walk, put_row}
use Rattle.counter.specs.declared.places.Places.{Places}
use Rattle.counter.specs.declared.spares.Gap.{Gap}
use Rattle.counter.specs.declared.verdict.Refusal.TheVariants.{NoSpare, MapByte}
use Rattle.counter.specs.Layout.{Layout, slots}
use Rattle.counter.specs.Slots.{kind_of}
use Rattle.counter.specs.Map.{map_in, offset_of, pointer_of, pointer_bytes}
use Rattle.counter.specs.Spares.{gap_of, way_of, next_of, spares_of}
use Rattle.counter.specs.Verdict.{◌and_then◌, Work, complete}

-- the code that a slot holds when the count is c
unfoldable pub slot_code : ℕ → ℕ → ℕ
slot_code c k = code_of (nibble_of (gray_of c) (k % 8))

-- a row of map bytes: done, or where a put failed
unfoldable pub mapped : Option ℕ → Work
mapped (Some a) = Err (MapByte a)
mapped None = complete

-- address a put as slot k's pointer, low byte first
unfoldable pub put_pointer : Layout → Places → ℕ → ℕ → Chip → Run Work
put_pointer layout p k a s = let r = put_row (pointer_bytes (kind_of k) a) (p.map + offset_of k) s in r giving mapped r.answer

-- the spares of a kind that a gap leaves, tried one after another by the same put until one holds
unfoldable pub try_spares : ℕ → Gap → ℕ → Chip → Run (Option ℕ)
try_spares k g b s = walk (spares_of (kind_of k) g) (way_of (kind_of k)) (next_of (kind_of k) g) b s

-- slot k's new pointer, if a spare held
unfoldable pub move_to : Layout → Places → ℕ → Option ℕ → Chip → Run Work
move_to layout p k (Some a) s = put_pointer layout p k a s
move_to layout p k None s = still (Err (NoSpare k)) s

-- byte b moved to a spare of slot k's kind
unfoldable pub move_slot : Layout → Places → ℕ → ℕ → Chip → Run Work
move_slot layout p k b s =
    let r = try_spares k (gap_of layout p (pointer_of (map_in layout p s.cells))) b s in
    r then move_to layout p k r.answer r.after

-- byte b put at slot k's cell, and moved if the put fails
unfoldable pub store_slot : Layout → Places → ℕ → ℕ → Chip → Run Work
store_slot layout p k b s =
    let r = put_at (pointer_of (map_in layout p s.cells) k) b s in
    let moved = r then move_slot layout p k b r.after in
    cond r.answer (r giving complete) moved

-- the n slots from k on hold their codes of c
unfoldable pub store_from : ℕ → ℕ → Layout → Places → ℕ → Chip → Run Work
store_from zero k layout p c s = still complete s
store_from (suc n) k layout p c s = store_slot layout p k (slot_code c k) s and_then store_from n (k + 1) layout p c

-- to store c: copy 1, nibbles 0 to 7, then copy 2 the same
unfoldable pub store : Layout → Places → ℕ → Chip → Run Work
store layout p c s = store_from (slots layout) 0 layout p c s
