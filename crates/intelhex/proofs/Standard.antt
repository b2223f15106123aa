-- The standard text: the images that have one, a record in three parts, what is left of a text from an address on, and how long it is.
use Rattle.std.proofs.Common.{◌≡◌, ℕ, suc, ◌+◌, ◌-◌, ◌*◌, ◌/◌, ◌%◌, ◌<◌, ◌≤◌, true, leb, List, [], ◌∷◌, ◌++◌, length, take, drop, sym, refl, ap, ◌∙◌, append_assoc, arith, length-append, length-take, take_all, drop-drop, min, leb-true}
use Rattle.std.proofs.Common.{get_or}
use Rattle.std.specs.Int.{to_be_bytes}
use Rattle.std.specs.Int.{w16}
use mathlib.Core.List.{append-nil}
use lib.ListN.{drop_of_length-le}
use Rattle.std.proofs.lemmas.List.{take-append-le, drop-append-le}
use Rattle.text.specs.Text.{Wrote}
use Rattle.text.proofs.Writing.{wrote_none, wrote_on}
use Rattle.intelhex.specs.Signs.{line_feed, two_digits, in_digits, total}
use Rattle.intelhex.specs.Records.{body_of, checksum, record_of, line_of, data_kind, end_kind, data_lines, standard_text}
use Rattle.intelhex.specs.Doors.{sized}
use Rattle.intelhex.specs.Inside.{head_of, tail_of}
use Rattle.intelhex.proofs.LineLaws.{both}
use Rattle.intelhex.proofs.Digits.{length_digits, digits_append}

-- the lengths that an image may have
pub sized_bounds : (n : ℕ) → sized n ≡ true → (41 ≤ n) × (n ≤ 4096)
sized_bounds n right = let (least, most) = both (leb 41 n) (leb n 4096) right in (leb-true 41 n least, leb-true n 4096 most)

-- the two bytes of an address, the high one first
pub high_first : (address : ℕ) {bytes : List ℕ} → address < 65536 → bytes ≡ to_be_bytes w16 address
    → (get_or bytes 0 0 ≡ address / 256) × (get_or bytes 1 0 ≡ address % 256)
high_first address small is = rw is (omega (arith, small), refl)

-- three numbers and more, added up modulo 256 one after another
added : (a b : ℕ) → (a % 256 + b) % 256 ≡ (a + b) % 256
added a b = omega arith

again : (a : ℕ) → a % 256 % 256 ≡ a % 256
again a = omega arith

pub sum_three : (a b c d : ℕ) {one two three : ℕ} → one ≡ (a + b) % 256 → two ≡ (one + c) % 256 → three ≡ (two + d) % 256
    → three % 256 ≡ (a + b + c + d) % 256
sum_three a b c d first second third = rw (third, second, first, added (a + b) c, added (a + b + c) d) (again (a + b + c + d))

-- the line of a data record: what stands before the data, the data, and what stands behind them, for a sum as it is or modulo 256
pub line_parts : (address : ℕ) (bytes : List ℕ) (sum : ℕ) → sum % 256 ≡ (length bytes + address / 256 + address % 256 + total bytes) % 256
    → line_of data_kind address bytes ≡ head_of data_kind (address / 256) (address % 256) (length bytes) ++ in_digits bytes ++ tail_of sum
unfolding record_of in_digits two_digits checksum total
line_parts address bytes sum same =
    let head = head_of data_kind (address / 256) (address % 256) (length bytes) in
    let whole : length bytes + (address / 256 + (address % 256 + (0 + total bytes))) ≡ length bytes + address / 256 + address % 256 + total bytes = omega arith in
    ap (λ (more : List ℕ). head ++ more ++ (line_feed ∷ [])) (digits_append bytes (checksum (body_of data_kind address bytes) ∷ []))
    ∙ append_assoc (head ++ in_digits bytes) (two_digits _) (line_feed ∷ [])
    ∙ ap (λ s. head ++ in_digits bytes ++ tail_of s) whole
    ∙ ap (λ s. head ++ in_digits bytes ++ (two_digits ((256 - s) % 256) ++ (line_feed ∷ []))) (sym same)

-- the text from an address on: the records that are left, and the end record
unfoldable pub text_from : List ℕ → ℕ → List ℕ
text_from image address = data_lines ((length image - address + 15) / 16) address image ++ line_of end_kind 0 []

pub text_whole : (image : List ℕ) → text_from image 0 ≡ standard_text image
unfolding text_from standard_text
text_whole image = let none : length image - 0 ≡ length image = omega arith in rw none

-- at least one record is left, and the next is 16 on
text_next : (image : List ℕ) (address : ℕ) → address < length image
    → text_from image address ≡ line_of data_kind address (take 16 (drop address image)) ++ text_from image (address + 16)
unfolding text_from data_lines
text_next image address inside =
    let more : (length image - address + 15) / 16 ≡ suc ((length image - (address + 16) + 15) / 16) = omega arith in
    rw more
    (append_assoc (line_of data_kind address (take 16 (drop address image))) (data_lines ((length image - (address + 16) + 15) / 16) (address + 16) image) (line_of end_kind 0 []))

-- no record is left
text_end : (image : List ℕ) (address : ℕ) → length image ≤ address → text_from image address ≡ line_of end_kind 0 []
unfolding text_from data_lines
text_end image address past = let none : (length image - address + 15) / 16 ≡ 0 = omega arith in rw none

-- how long a data line is, and the end record's
pub length_line : (address : ℕ) (bytes : List ℕ) → length (line_of data_kind address bytes) ≡ 12 + 2 * length bytes
unfolding in_digits two_digits
length_line address bytes =
    ap length (line_parts address bytes _ refl) ∙ simp (length-append, length_digits) (omega arith)

pub length_end : length (line_of end_kind 0 []) ≡ 12
unfolding record_of in_digits two_digits
length_end = refl

-- the bytes of the next record, as they are cut off what is left of an image
cut_off : (bytes more : List ℕ) → length bytes ≡ min 16 (length (bytes ++ more)) → (bytes ≡ take 16 (bytes ++ more)) × (drop 16 (bytes ++ more) ≡ more)
cut_off bytes [] long =
    let few : length bytes ≤ 16 = omega (arith, long) in
    rw append-nil (sym (take_all 16 bytes few), drop_of_length-le bytes few)
cut_off bytes (first ∷ more) long =
    let few : length bytes ≡ 16 = omega (arith, long, length-append bytes (first ∷ more)) in
    (sym (take-append-le 16 bytes (first ∷ more) (omega (arith, few)) ∙ take_all 16 bytes (omega (arith, few))), drop-append-le 16 bytes (first ∷ more) (omega (arith, few)) ∙ rw (drop_of_length-le bytes {i = 16} (omega (arith, few))) refl)

pub next_bytes : (image : List ℕ) (address : ℕ) {left bytes more : List ℕ} {size : ℕ} → drop address image ≡ left → size ≡ 16 → left ≡ bytes ++ more → length bytes ≡ min size (length left)
    → (bytes ≡ take 16 (drop address image)) × (drop (address + 16) image ≡ more)
next_bytes image address {left} {bytes} {more} is sixteen cut long =
    let (first, rest) = cut_off bytes more (rw (sixteen, cut) at long) in
    (rw (is, cut) first, sym (drop-drop 16 address image) ∙ rw (is, cut) rest)

-- a text that is being written: some of the standard text, and the rest from an address on
pub record Begun (image before : List ℕ) (address next : ℕ) (text : List ℕ) : Type 0 where
  pub written : List ℕ
  pub wrote : Wrote before 0 written next text
  pub rest : written ++ text_from image address ≡ standard_text image
  pub room : length (standard_text image) ≤ length before

pub begin : (image before : List ℕ) → length (standard_text image) ≤ length before → Begun image before 0 0 before
begin image before room = record { written = []; wrote = wrote_none before 0 (omega arith); rest = text_whole image; room = room }

module _ {image before text : List ℕ} {address next : ℕ} (begun : Begun image before address next text) where
  lengths : next + length (text_from image address) ≡ length (standard_text image)
  lengths = omega (arith, begun.wrote.ends, length-append begun.written (text_from image address), ap length begun.rest)

  module _ (more : address < length image) where
    -- there is room for the next line
    pub line_room : next + 12 + 2 * length (take 16 (drop address image)) ≤ length before
    line_room =
        let line = line_of data_kind address (take 16 (drop address image)) in
        omega (arith, lengths, begun.room, ap length (text_next image address more), length-append line (text_from image (address + 16)), length_line address (take 16 (drop address image)))

    pub line_fits : (bytes : List ℕ) → bytes ≡ take 16 (drop address image) → (length bytes ≤ 16) × (next + 12 + 2 * length bytes ≤ length before)
    line_fits bytes same = rw same (omega (arith, length-take 16 (drop address image)), line_room)

    -- the next line is written
    pub line_on : {after : List ℕ} {past : ℕ} → Wrote text next (line_of data_kind address (take 16 (drop address image))) past after
        → Begun image before (address + 16) past after
    line_on line = record {
      written = begun.written ++ line_of data_kind address (take 16 (drop address image));
      wrote = wrote_on _ _ (omega (arith, line.ends, length_line address (take 16 (drop address image)), line_room)) begun.wrote line;
      rest = append_assoc begun.written _ _ ∙ ap (λ (tail : List ℕ). begun.written ++ tail) (sym (text_next image address more)) ∙ begun.rest;
      room = begun.room;
    }

  module _ (none : length image ≤ address) where
    -- there is room for the end record
    pub end_room : next + 12 ≤ length before
    end_room = omega (arith, lengths, begun.room, ap length (text_end image address none), length_end)

    -- the end record is written, and so is all of the text
    pub end_on : {after : List ℕ} {past : ℕ} → Wrote text next (line_of end_kind 0 []) past after → Wrote before 0 (standard_text image) past after
    end_on last =
        let all : begun.written ++ line_of end_kind 0 [] ≡ standard_text image =
        ap (λ (tail : List ℕ). begun.written ++ tail) (sym (text_end image address none)) ∙ begun.rest in
        rw all at
        (wrote_on _ _ (omega (arith, last.ends, length_end, end_room)) begun.wrote last)
