-- A text that is read covers every address once, and the image holds the bytes of its records.
use Rattle.std.proofs.Common.{◌≡◌, ℕ, zero, suc, ◌+◌, ◌-◌, ◌<◌, ◌≤◌, true, false, cond, ltb, leb, List, [], ◌∷◌, ◌++◌, length, get_or, take, drop, replicate, sym, refl, ap, ◌∙◌, true≢false, arith, length-append, length-drop, length-take, length-take-le, get_or-drop, get_or-take, get_or-append-add, ltb-false, ltb-true, le-ltb, lt-ltb, le-leb, leb-true}
use native.Mathlib.Decide.{dec_le}
use lib.ListN.{get_or-append, get_or-eq_default, get_or-replicate}
use lib.ListN.{length-replicate}
use lib.Seq.{sets, sets-eq}
use Rattle.intelhex.specs.Lines.{Line, line, lines_of}
use Rattle.intelhex.specs.Faults.{count_of, address_of, data_of, Memory, not_yet, some_taken, all_taken, fault_of, after}
use Rattle.intelhex.specs.Doors.{read_of, blank}
use Rattle.intelhex.specs.Covered.{has, how_often, byte_for}
use Rattle.intelhex.proofs.LineLaws.{choose, both}
use Rattle.intelhex.proofs.Bytes.{length_bytes, sets_other}
use Rattle.intelhex.proofs.ReadLaws.{neither, Faultless, faultless, data_bytes, read_text, taken_bytes}

-- ---- what is stored

-- a cell that is stored to has its byte
sets_same : (bytes cells : List ℕ) (at k : ℕ) → at + length bytes ≤ length cells → k < length bytes
    → get_or (sets cells at bytes) (at + k) 0 ≡ get_or bytes k 0
sets_same bytes cells at k room inside =
    let long : length (take at cells) ≡ at = length-take-le at cells (omega arith) in
    let near : at + k < length (take at cells ++ bytes) = rw (length-append, long) (omega arith) in
    rw (sets-eq bytes cells at room, get_or-append (take at cells ++ bytes) (drop (at + length bytes) cells) 0 (at + k) near)
    (ap (λ (n : ℕ). get_or (take at cells ++ bytes) (n + k) 0) (sym long) ∙ get_or-append-add (take at cells) bytes k 0)

-- no cell of a free part is taken
not_taken : (cells : List ℕ) (k : ℕ) → some_taken cells ≡ false → k < length cells → not_yet ≤ get_or cells k 0
unfolding some_taken
not_taken [] k free inside = absurd (omega arith)
not_taken (cell ∷ cells) zero free inside = ltb-false cell not_yet (neither _ _ free).0
not_taken (cell ∷ cells) (suc k) free inside = not_taken cells k (neither (ltb cell not_yet) _ free).1 (omega arith)

-- ---- how often an address is covered

-- what a line with no fault does to the cell of an address
module _ (cells signs : List ℕ) (fine : Faultless cells signs) (a : ℕ) where
  -- how many data there are
  long : length (data_of signs) ≡ count_of signs
  long = length_bytes signs 9 (count_of signs)

  -- one that it does not have stays
  pub stays : has a signs ≡ false → get_or (sets cells (address_of signs) (data_of signs)) a 0 ≡ get_or cells a 0
  stays out =
      sets_other (data_of signs) cells (address_of signs) a
      (λ past. omega (arith, long, ltb-false a (address_of signs + count_of signs) (rw (le-leb (address_of signs) a past) at out)))

  module _ (hit : has a signs ≡ true) where
    -- where the address stands in the data
    from : address_of signs ≤ a
    from = leb-true _ _ (both _ _ hit).0

    until : a < address_of signs + count_of signs
    until = ltb-true _ _ (both (leb (address_of signs) a) _ hit).1

    place : address_of signs + (a - address_of signs) ≡ a
    place = omega (arith, from)

    -- one that it has was free
    pub was_free : not_yet ≤ get_or cells a 0
    was_free =
        let near : a - address_of signs < count_of signs = omega (arith, from, until) in
        rw (get_or-take (count_of signs) (drop (address_of signs) cells) (a - address_of signs) 0 near, get_or-drop (address_of signs) cells, place)
        at (not_taken (take (count_of signs) (drop (address_of signs) cells)) (a - address_of signs) fine.free
        (rw (length-take, length-drop) (omega (arith, from, until, fine.inside))))

    -- gets its byte
    pub is_stored : get_or (sets cells (address_of signs) (data_of signs)) a 0 ≡ byte_for a signs
    is_stored =
        let near : a - address_of signs < length (data_of signs) = omega (arith, from, until, long) in
        rw place at (sets_same (data_of signs) cells (address_of signs) (a - address_of signs) (omega (arith, long, fine.inside)) near)

    -- and is taken
    pub is_byte : byte_for a signs < not_yet
    is_byte =
        data_bytes signs 9 (count_of signs) fine.digits (omega arith) (omega (arith, fine.whole)) (a - address_of signs)
        (omega (arith, from, until, long))

-- what holds of a line and of each after it
pub each : (P : Line → Type 0) (first : Line) (lines : List Line) → P first → ((k : ℕ) → k < length lines → P (get_or lines k (line [] false)))
    → (k : ℕ) → k < length (first ∷ lines) → P (get_or (first ∷ lines) k (line [] false))
each P first lines here later zero inside = here
each P first lines here later (suc k) inside = later k (omega arith)

-- the byte of a line is left in an image
abbrev pub Left : List ℕ → ℕ → Line → Type 0
Left left a line = has a line.signs ≡ true → get_or left a 0 ≡ byte_for a line.signs

-- a free cell will be covered once and a taken one stays; the bytes of each line are left in the image
abbrev Covered : List Line → Memory → List ℕ → Type 0
Covered lines m left = (a : ℕ) → record {
  often : how_often a lines ≡ cond (ltb (get_or m.cells a 0) not_yet) 0 1;
  kept : get_or m.cells a 0 < not_yet → get_or left a 0 ≡ get_or m.cells a 0;
  byte : (k : ℕ) → k < length lines → Left left a (get_or lines k (line [] false));
}

-- so it is where every address has its byte
covered_end : (m : Memory) → all_taken m.cells ≡ true → Covered [] m m.cells
unfolding how_often
covered_end m taken a = record {
  often = elim (dec_le (length m.cells) a) [
    | yes past ↦ rw (get_or-eq_default m.cells 0 past)
    | no inside ↦ rw (lt-ltb (get_or m.cells a 0) not_yet (taken_bytes m.cells taken a (omega arith)))
  ];
  kept = λ low. refl;
  byte = λ k inside. absurd (omega arith);
}

-- and before a line with no fault, if it is so after it
covered_step : (line : Line) (lines : List Line) (m : Memory) (left : List ℕ) → fault_of m line ≡ 0 → Covered lines (after m line) left
    → Covered (line ∷ lines) m left
unfolding how_often after
covered_step line lines m left none more a =
    let fine = faultless m line none in
    choose (has a line.signs)
    (λ hit.
    let stored = is_stored m.cells line.signs fine a hit in
    let low = is_byte m.cells line.signs fine a hit in
    let free = was_free m.cells line.signs fine a hit in
    let later : how_often a lines ≡ 0 = rw (stored, lt-ltb (byte_for a line.signs) not_yet low) at (more a).often in
    record {
      often = rw (hit, le-ltb (get_or m.cells a 0) not_yet free) (omega arith);
      kept = λ taken. absurd (omega arith);
      byte = each (Left left a) line lines (λ same. (more a).kept (rw stored low) ∙ stored) (more a).byte;
    })
    (λ miss.
    let stay = stays m.cells line.signs fine a miss in
    record {
      often = rw miss (omega (arith, rw stay at (more a).often));
      kept = λ taken. (more a).kept (rw stay taken) ∙ stay;
      byte = each (Left left a) line lines (λ hit. absurd (true≢false (sym hit ∙ miss))) (more a).byte;
    })

module _ (text before : List ℕ) (fine : (read_of text before).answer.code ≡ 0) (a : ℕ) where
  -- of a text that is read
  covered : Covered (lines_of text) (blank (length before)) (read_of text before).left
  covered = (read_text Covered covered_end covered_step text before fine).2

  -- every address of the image is covered by one byte of the text's records
  pub covers_once : a < length before → how_often a (lines_of text) ≡ 1
  covers_once inside = rw (get_or-replicate (length before) a not_yet 0 inside) at (covered a).often

  -- and no other address by any
  pub covers_none : length before ≤ a → how_often a (lines_of text) ≡ 0
  covers_none past = rw (get_or-eq_default (replicate (length before) not_yet) 0 {n = a} (rw length-replicate past)) at (covered a).often

  -- the byte at an address is the one of the line that has it
  pub holds_byte : (k : ℕ) → k < length (lines_of text) → has a (get_or (lines_of text) k (line [] false)).signs ≡ true
      → get_or (read_of text before).left a 0 ≡ byte_for a (get_or (lines_of text) k (line [] false)).signs
  holds_byte = (covered a).byte
