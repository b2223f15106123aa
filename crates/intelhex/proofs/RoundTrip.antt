-- The standard text of an image is read back as the image, and an image that was read is written as its standard text.
use Rattle.std.proofs.Common.{◌≡◌, ℕ, zero, suc, ◌+◌, ◌-◌, ◌*◌, ◌<◌, ◌≤◌, min, true, false, eqb, List, [], ◌∷◌, ◌++◌, length, take, drop, replicate, sym, refl, ap, ◌∙◌, append_assoc, append-nil, arith, length-append, length-drop, length-take, length-take-le, get_or-drop, take_all, get_or-take, drop-drop, take_at, take-add, drop_at, le-ltb, lt-ltb, le-leb}
use native.Mathlib.Nat.{sub-zero, zero-sub, suc-sub-suc}
use lib.ListN.{length-replicate}
use lib.Seq.{sets, sets-eq}
use Rattle.intelhex.specs.Signs.{line_feed}
use Rattle.intelhex.specs.Records.{record_of, line_of, data_kind, end_kind, data_lines, records_in, standard_text}
use Rattle.intelhex.specs.Lines.{line, lines_of}
use Rattle.intelhex.specs.Faults.{lawful, memory, not_yet, some_taken, all_taken, fault_of, after}
use Rattle.intelhex.specs.Doors.{Outcome, good, write_of, at_end, read_lines, read_of, refused, sized}
use Rattle.intelhex.proofs.LineLaws.{line_feed_lem, digits_plain}
use Rattle.intelhex.proofs.ReadLaws.{read_bytes}
use Rattle.intelhex.proofs.RecordLaws.{Bytes, length_record, count_record, address_record, kind_record, data_record}
use Rattle.intelhex.proofs.RecordLaws.{sum_record, digits_record, form_record}

-- ---- one record

module _ (kind address : ℕ) (bytes : List ℕ) (kinds : kind ≤ 1) (low : address < 65536) (short : length bytes < 256) (all : Bytes bytes) where
  -- the line of a record is its signs
  lines_record : (rest : List ℕ) → lines_of (line_of kind address bytes ++ rest) ≡ line (record_of kind address bytes) true ∷ lines_of rest
  lines_record rest =
      ap lines_of (append_assoc (record_of kind address bytes) (line_feed ∷ []) rest)
      ∙ line_feed_lem (record_of kind address bytes) rest (digits_plain _ (digits_record kind address bytes (omega arith) low short all))

  -- a lawful record of addresses that are free has no fault, and its bytes are stored
  read_record : (image : List ℕ) (done : ℕ) (cells rest : List ℕ) → lawful kind address (length bytes) ≡ true → address + length bytes ≤ length cells
      → some_taken (take (length bytes) (drop address cells)) ≡ false
      → read_lines image done (lines_of (line_of kind address bytes ++ rest)) (memory cells false)
      ≡ read_lines image (done + 1) (lines_of rest) (memory (sets cells address bytes) (eqb kind end_kind))
  unfolding read_lines fault_of after
  read_record image done cells rest lawfully within free =
      let small : kind < 256 = omega arith in
      rw (lines_record, form_record, lawfully, sum_record, data_record, count_record, address_record, kind_record)
      (rw (le-ltb end_kind kind, le-ltb (length cells) (address + length bytes), free))

-- ---- the cells of a memory

-- no address is taken
none_taken : (k n : ℕ) → some_taken (take k (replicate n not_yet)) ≡ false
unfolding some_taken
none_taken zero n = refl
none_taken (suc k) zero = refl
none_taken (suc k) (suc n) = none_taken k n

-- an image of bytes has a byte at every address
pub all_taken_lem : (cells : List ℕ) → Bytes cells → all_taken cells ≡ true
unfolding all_taken
all_taken_lem [] all = refl
all_taken_lem (cell ∷ cells) all = rw (lt-ltb cell 256 (all 0 (omega arith))) (all_taken_lem cells (λ k inside. all (suc k) (omega arith)))

-- a part of equal cells
drop_replicate : (k n cell : ℕ) → drop k (replicate n cell) ≡ replicate (n - k) cell
drop_replicate zero n cell = rw sub-zero
drop_replicate (suc k) zero cell = rw zero-sub
drop_replicate (suc k) (suc n) cell = rw suc-sub-suc (drop_replicate k n cell)

-- ---- the records of an image

module _ (image before : List ℕ) (all : Bytes image) (most : length image ≤ 4096) where
  -- the bytes of the record at an address, and the cells when those before it are read
  abbrev part : ℕ → List ℕ
  part a = take 16 (drop a image)

  abbrev up_to : ℕ → List ℕ
  up_to a = take a image ++ replicate (length image - a) not_yet

  -- the bytes of a record are as many as are left, 16 at most
  length_part : (a : ℕ) → length (part a) ≡ min 16 (length image - a)
  length_part a = simp (length-take, length-drop)

  -- and are bytes
  part_bytes : (a : ℕ) → Bytes (part a)
  part_bytes a k inside =
      rw (get_or-take 16 (drop a image) k 0 (omega (arith, length_part a)), get_or-drop a image k 0) (all (a + k) (omega (arith, length_part a)))

  module _ (a : ℕ) (inside : a < length image) where
    -- how long the two parts of the cells are, and the second of them
    length_done : length (take a image) ≡ a
    length_done = length-take-le a image (omega arith)

    length_up_to : length (up_to a) ≡ length image
    length_up_to = simp (length-append, length_done, length-replicate) (omega arith)

    rest_up_to : drop a (up_to a) ≡ replicate (length image - a) not_yet
    rest_up_to = drop_at (take a image) _ a length_done

    -- the bytes of one record more
    up_to_next : sets (up_to a) a (part a) ≡ up_to (a + 16)
    up_to_next =
        let left : length image - a - length (part a) ≡ length image - (a + 16) = omega (arith, length_part a) in
        sets-eq (part a) (up_to a) a (omega (arith, length_part a, length_up_to))
        ∙ rw (← drop-drop (length (part a)) a (up_to a), rest_up_to, drop_replicate, left, take_at (take a image) _ a length_done, take-add a 16 image)

  -- all bytes
  up_to_all : (a : ℕ) → length image ≤ a → up_to a ≡ image
  up_to_all a past =
      let none : length image - a ≡ 0 = omega arith in
      rw (take_all a image past, none) (append-nil image)

  -- the end record
  read_end : (a done : ℕ) → length image ≤ a → read_lines before done (lines_of (line_of end_kind 0 [])) (memory (up_to a) false) ≡ good 0 image
  unfolding read_lines at_end lines_of lawful some_taken
  read_end a done past =
      ap (λ (text : List ℕ). read_lines before done (lines_of text) (memory (up_to a) false)) (sym (append-nil (line_of end_kind 0 [])))
      ∙ read_record end_kind 0 [] (omega arith) (omega arith) (omega arith) (λ k inside. absurd (omega arith)) before done (up_to a) []
      refl (omega arith) refl
      ∙ rw (up_to_all a past, all_taken_lem image all)

  -- the records from an address on
  read_data : (more a done : ℕ) → length image ≤ a + 16 * more → a + 16 * more < length image + 16
      → read_lines before done (lines_of (data_lines more a image ++ line_of end_kind 0 [])) (memory (up_to a) false) ≡ good 0 image
  unfolding data_lines lawful
  read_data zero a done enough fewer = read_end a done (omega arith)
  read_data (suc more) a done enough fewer =
      let inside : a < length image = omega arith in
      rw (append_assoc (line_of data_kind a (part a)) (data_lines more (a + 16) image) (line_of end_kind 0 []))
      (read_record data_kind a (part a) (omega arith) (omega arith) (omega (arith, length_part a)) (part_bytes a) before done (up_to a) _
      (lt-ltb 0 (length (part a)) (omega (arith, length_part a))) (omega (arith, length_part a, length_up_to a inside))
      (rw (rest_up_to a inside) (none_taken (length (part a)) (length image - a)))
      ∙ rw (up_to_next a inside) (read_data more (a + 16) (done + 1) (omega arith) (omega arith)))

-- the standard text of an image is read as the image
pub read_written : (image before : List ℕ) → Bytes image → 41 ≤ length image → length image ≤ 4096 → length before ≡ length image
    → read_of (standard_text image) before ≡ good 0 image
unfolding read_of standard_text
read_written image before all least most same =
    rw (same, le-leb 41 (length image), le-leb (length image) 4096)
    (rw sub-zero at (read_data image before all most (records_in (length image)) 0 0 (omega arith) (omega arith)))

-- an image is written as its standard text
pub write_good : (image text : List ℕ) → 41 ≤ length image → length image ≤ 4096 → length (standard_text image) ≤ length text
    → write_of image text ≡ good (length (standard_text image)) (standard_text image ++ drop (length (standard_text image)) text)
unfolding write_of
write_good image text least most room =
    rw (le-leb 41 (length image), le-leb (length image) 4096, le-ltb (length text) (length (standard_text image)))

-- and one of another length is refused
pub write_refused : (image text : List ℕ) → sized (length image) ≡ false → write_of image text ≡ refused 7 0 text
unfolding write_of
write_refused image text wrong = rw wrong

-- an image that was read is written as its standard text, and that is read as the image again
pub written_read : (text before image : List ℕ) → read_of text before ≡ good 0 image
    → ((room : List ℕ) → length (standard_text image) ≤ length room
    → write_of image room ≡ good (length (standard_text image)) (standard_text image ++ drop (length (standard_text image)) room))
    × ((other : List ℕ) → length other ≡ length image → read_of (standard_text image) other ≡ good 0 image)
written_read text before image same =
    let facts : (length image ≡ length before) × (41 ≤ length before) × (length before ≤ 4096) × Bytes image =
    rw same at (read_bytes text before (ap (λ (o : Outcome). o.answer.code) same)) in (
      λ room enough. write_good image room (omega arith) (omega arith) enough,
      λ other equal. read_written image other facts.3 (omega arith) (omega arith) equal,
    )

-- ---- how long the standard text is

-- 12 signs for each data record and 2 for each byte
length_data : (more a : ℕ) (image : List ℕ) → length image ≤ a + 16 * more → length (data_lines more a image) ≡ 12 * more + 2 * (length image - a)
unfolding data_lines
length_data zero a image enough = omega arith
length_data (suc more) a image enough =
    simp (length-append, length_record, length-take, length-drop) (omega (arith, length_data more (a + 16) image (omega arith)))

-- and 12 for the end record
pub length_standard : (image : List ℕ) → length (standard_text image) ≡ 2 * length image + 12 * records_in (length image) + 12
unfolding standard_text
length_standard image =
    simp (length-append, length_record) (omega (arith, length_data (records_in (length image)) 0 image (omega arith)))
