-- The rest of a long text changes no answer: an image has at most 4096 bytes, and each line without a fault brings one or more of them, or
-- is the end record, behind which a line is malformed.
use Rattle.std.proofs.Common.{◌≡◌, ℕ, zero, suc, ◌+◌, ◌*◌, ◌%◌, ◌<◌, ◌≤◌, Bool, true, false, cond, not, ◌&&◌, eqb, ltb, List, length, get_or, take, replicate, sym, refl, ◌∙◌, arith, length-take, get_or-take, ltb-false, ltb-true, eqb-true}
use mathlib.Core.Bool.{and-false}
use borrow.Author.Tests.{eqb-false}
use lib.Seq.{sets}
use Rattle.intelhex.specs.declared.lines.Line.{Line}
use Rattle.intelhex.specs.Signs.{line_feed, carriage_return, colon, byte_at, bytes_at}
use Rattle.intelhex.specs.Records.{data_kind, end_kind}
use Rattle.intelhex.specs.Lines.{lines_of}
use Rattle.intelhex.specs.Faults.{lawful, memory, not_yet}
use Rattle.intelhex.specs.Doors.{sized, read_lines, read_of}
use Rattle.intelhex.specs.Inside.{end_at, count_at, address_at, kind_at, data_at, next_at, formed_at, verdict, fault_at, LineTaken}
use Rattle.intelhex.proofs.LineLaws.{choose}
use Rattle.intelhex.proofs.Forms.{no_head}
use Rattle.intelhex.proofs.ReadLaws.{no_code}
use Rattle.intelhex.proofs.Standard.{sized_bounds}
use Rattle.intelhex.proofs.Taken.{free, blank_free}
use Rattle.intelhex.proofs.TextLaws.{Under, begin, tested, line_refused, line_taken, line_filled, line_behind}

-- a record without a fault has data where it is not the end record
has_data : (sum kind address count size : ℕ) (twice : Bool) → verdict sum kind address count size twice ≡ 0 → eqb kind end_kind ≡ false → 0 < count
unfolding verdict lawful
has_data sum kind address count size twice none further =
    choose (eqb kind data_kind)
    (λ plain. choose (ltb 0 count) (λ some. ltb-true 0 count some) (λ empty. absurd (omega (arith, rw (plain, empty) at none))))
    (λ other.
    let rest = (no_code (not (eqb (sum % 256) 0)) 1 _ (rw (other, further) at none)).1 in
    let known = ltb-false end_kind kind (no_code (ltb end_kind kind) 2 _ rest).0 in
    absurd (eqb-false kind end_kind further (omega (arith, known, eqb-false kind data_kind other))))

-- and so has the line that begins at an index
data_there : (text cells : List ℕ) (at : ℕ) → fault_at text at cells ≡ 0 → eqb (kind_at text at) end_kind ≡ false → 0 < count_at text at
unfolding fault_at
data_there text cells at none further =
    choose (formed_at text at) (λ formed. has_data _ _ _ _ _ _ (rw formed at none) further) (λ not_so. absurd (omega (arith, rw not_so at none)))

-- a line end has at most two signs
end_near : (text : List ℕ) (at : ℕ) → end_at text at ≤ at + 2
unfolding end_at
end_near text at = near (eqb (get_or text at 0) line_feed) (eqb (get_or text at 0) carriage_return && eqb (get_or text (at + 1) 0) line_feed)
  where
    near : (feed return : Bool) → cond feed (at + 1) (cond return (at + 2) 0) ≤ at + 2
    near true return = omega arith
    near false true = omega arith
    near false false = omega arith

-- the line that begins at an index, read: what it comes to without a fault, and the cells that it leaves
abbrev read_at : List ℕ → ℕ → Line
read_at text at = record { next = next_at text at; filled = count_at text at; closed = eqb (kind_at text at) end_kind }

abbrev left_at : List ℕ → ℕ → List ℕ → List ℕ
left_at text at cells = sets cells (address_at text at) (data_at text at)

line_here : (text : List ℕ) (at : ℕ) (cells : List ℕ) → LineTaken text at cells (read_at text at) (left_at text at cells)
line_here text at cells = record { next = refl; filled = refl; closed = refl; stored = refl }

-- two texts whose first signs, so many, are the same: so are the bytes that stand there, and the line ends
module _ (short text : List ℕ) (m : ℕ) (same : (i : ℕ) → i < m → get_or short i 0 ≡ get_or text i 0) where
  byte_same : (i : ℕ) → i + 1 < m → byte_at short i ≡ byte_at text i
  unfolding byte_at
  byte_same i inside = rw (same i (omega arith), same (i + 1) inside) refl

  bytes_same : (i n : ℕ) → i + 2 * n ≤ m → bytes_at short i n ≡ bytes_at text i n
  unfolding bytes_at
  bytes_same i zero inside = refl
  bytes_same i (suc n) inside = rw (byte_same i (omega arith), bytes_same (i + 2) n (omega arith)) refl

  end_same : (i : ℕ) → i + 1 < m → end_at short i ≡ end_at text i
  unfolding end_at
  end_same i inside = rw (same i (omega arith), same (i + 1) inside) refl

  -- a line that begins at least 523 signs, the longest line, before the first ones end is the same line of both
  line_same : (at : ℕ) (cells : List ℕ) → at + 523 ≤ m
      → (fault_at short at cells ≡ fault_at text at cells)
      × (fault_at text at cells ≡ 0 → LineTaken short at cells (read_at text at) (left_at text at cells))
  unfolding fault_at formed_at
  line_same at cells room =
      let count = byte_same (at + 1) (omega arith) in
      let high = byte_same (at + 3) (omega arith) in
      let low = byte_same (at + 5) (omega arith) in
      let kind = byte_same (at + 7) (omega arith) in
      choose (ltb (count_at text at) 256)
      (λ is.
      let few = ltb-true (count_at text at) 256 is in
      let bytes = bytes_same (at + 9) (count_at text at) (omega (arith, few)) in
      let all = bytes_same (at + 1) (count_at text at + 5) (omega (arith, few)) in
      let next = end_same (at + 11 + 2 * count_at text at) (omega (arith, few)) in (
        rw (count, high, low, kind, all, next, same at (omega arith)) refl,
        λ none.
            record {
              next = rw (count, next) refl;
              filled = sym count;
              closed = rw kind refl;
              stored = rw (count, high, low, bytes) refl;
            },
      ))
      (λ many.
      let here = no_head text at cells (rw many (and-false (eqb (get_or text at 0) colon))) in (
        no_head short at cells (rw (count, many) (and-false (eqb (get_or short at 0) colon))) ∙ sym here,
        λ none. absurd (omega (arith, here, none)),
      ))

  module _ (room-short : m ≤ length short) (room-text : m ≤ length text) (image before : List ℕ) where
    -- both texts come to the same, and so they do where each comes to the same third
    abbrev Alike : Type 0
    Alike = read_lines image 0 (lines_of short) (memory before false) ≡ read_lines image 0 (lines_of text) (memory before false)

    -- line by line, where there is room for a line of 15 signs for each byte to come, and for one of any length
    lines_same : (fuel : ℕ) {cells : List ℕ} {at done : ℕ} → free cells < fuel → at + 15 * free cells + 523 ≤ m
        → Under short before cells at done false → Under text before cells at done false → Alike
    lines_same zero few room one other = absurd (omega arith)
    lines_same (suc fuel) {cells} {at} {done} few room one other =
        let (fault_same, there) = line_same at cells (omega arith) in
        let here = line_here text at cells in
        let in_short : at < length short = omega arith in
        let in_text : at < length text = omega arith in
        choose (eqb (fault_at text at cells) 0)
        (λ is.
        let none = eqb-true (fault_at text at cells) 0 is in
        let filled = line_filled other in_text none here in
        let near = end_near text (at + 11 + 2 * count_at text at) in
        let first = (line_taken one in_short (fault_same ∙ none) (there none)).1 in
        let second = (line_taken other in_text none here).1 in
        choose (eqb (kind_at text at) end_kind)
        (λ closed.
        let inside : next_at text at < m = omega (arith, filled, near) in
        line_behind (tested closed first) (omega (arith, inside)) image ∙ sym (line_behind (tested closed second) (omega (arith, inside)) image))
        (λ further.
        let some = data_there text cells at none further in
        lines_same fuel (omega (arith, filled, some)) (omega (arith, filled, some, near)) (tested further first) (tested further second)))
        (λ fault.
        let code = eqb-false (fault_at text at cells) 0 fault in
        line_refused one in_short fault_same code image ∙ sym (line_refused other in_text refl code image))

-- the first 65536 signs of a text decide what it comes to
pub cut_reads : (text image : List ℕ) → 65536 ≤ length text → read_of (take 65536 text) image ≡ read_of text image
unfolding read_of
cut_reads text image long =
    choose (sized (length image))
    (λ fits.
    let size = (sized_bounds (length image) fits).1 in
    let all = blank_free (length image) in
    rw fits (lines_same (take 65536 text) text 65536 (λ i inside. get_or-take 65536 text i 0 inside) (omega (arith, length-take 65536 text)) long image
    (replicate (length image) not_yet) (suc (length image)) (omega (arith, all)) (omega (arith, all, size)) (begin _ _) (begin _ _)))
    (λ not_so. rw not_so refl)
