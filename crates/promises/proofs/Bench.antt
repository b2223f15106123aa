-- The cases of the bench that are proved (document 01, "Measured on the bench", those with a star), and some of document 02, P1 and
-- P3, as one table about the definitions.
--   Row       a case: what the definitions answer, and what the paper says
--   bench     the cases of document 01, 1 to 13, with case 6 as P3 has it
--   mended    the cases of P1
--   erasures  the cases of P3
--   holds     in each case the definitions answer what the paper says
use Prim.Native.Nat.{ℕ}
use mathlib.Core.Path.{◌≡◌, refl}
use mathlib.Core.List.{List, [], ◌∷◌, ◌++◌, map}
use lib.Count.{ones, count_trailing_zeros}
use lib.IntN.{pos, negsuc}
use lib.ListN.{replicate}
use Rattle.code.specs.declared.reading.Reading.{Reading}
use Rattle.code.specs.declared.reading.Reading.TheVariants.{Clean, Mended, Lost}
use Rattle.code.specs.Codes.{codes, code_of, distance}
use Rattle.code.specs.Readings.{near_from, near, reading_of, twofold, is_lost, nibble_read}
use Rattle.code.specs.Mended.{mended_in, how_many, bit_counts, no_bits}
use Rattle.code.specs.Gray.{bits, gray_of, halves_of, count_of}
use Rattle.code.specs.Nibbles.{word_of}
use Rattle.counter.specs.declared.doors.ReadAnswer.{ReadAnswer}
use Rattle.counter.specs.declared.verdict.Answer.{Answer}
use Rattle.counter.specs.Layout.{two}
use Rattle.counter.specs.Slots.{kind_of, every, some, lowest}
use Rattle.counter.specs.Places.{setting_a, length_good, places_good}
use Rattle.counter.specs.Map.{marked, offset_in, offset_of, pointer_at, pointer_of, reachable, in_order, sound}
use Rattle.counter.specs.Verdict.{answer, answer_of}
use Rattle.counter.specs.Reading.{first_read, nibble_in, count_in, close, decide, weigh, examine, verdict_of}
use Rattle.counter.specs.Mended.{bits_of}
use Rattle.counter.specs.Doors.{read_of, read_answer_of}

-- what a case asks for: what a byte reads as, the Gray word of a count, or what an image answers
pub data Question : Type 0 where
  reads : Reading → Question
  word : ℕ → Question
  says : ReadAnswer → Question

-- a case by its number: what the definitions answer, and what the paper says
pub record Row : Type 0 where
  pub number : ℕ
  pub found : Question
  pub paper : Question

abbrev row : ℕ → Question → Question → Row
row number found paper = record { number = number; found = found; paper = paper }

-- an image of setting A, opened, with a byte for nibble 0 of each copy and 80 in all other data cells
abbrev pub chip_a : ℕ → ℕ → List ℕ
chip_a first second =
    (0xFF ∷ 0xA5 ∷ 0x5A ∷ [])
    ++ (0x80 ∷ 0 ∷ 0x7F ∷ 0 ∷ 0x7E ∷ 0 ∷ 0x19 ∷ 0x1A ∷ 0x1B ∷ 0x1C ∷ 0x1D ∷ [])
    ++ (0x7D ∷ 0 ∷ 0x7C ∷ 0 ∷ 0x7B ∷ 0 ∷ 0x1E ∷ 0x1F ∷ 0x20 ∷ 0x21 ∷ 0x22 ∷ [])
    ++ replicate 10 0x80
    ++ replicate 88 0xFF
    ++ (0x80 ∷ 0x80 ∷ second ∷ 0x80 ∷ 0x80 ∷ first ∷ [])

abbrev look : ℕ → ℕ → Question
look first second = says (read_answer_of two setting_a (chip_a first second))

-- an answer with these counts of mended bits, or with none
abbrev counts : Answer → List ℕ → Question
counts a each = says (record { answer = a; bits = each })

abbrev plain : Answer → Question
plain a = counts a no_bits

-- the cases
abbrev pub bench : List Row
bench =
    row 1 (reads (reading_of 0x80)) (reads (Clean 0)) ∷
    row 2 (reads (reading_of 0x81)) (reads (Mended 0 0)) ∷
    row 3 (reads (reading_of 0x06)) (reads (Mended 1 0)) ∷
    row 4 (reads (reading_of 0x0F)) (reads (Mended 1 3)) ∷
    row 5 (reads (reading_of 0x01)) (reads Lost) ∷
    row 6 (reads (reading_of 0xFF)) (reads Lost) ∷
    row 7 (word (gray_of 16)) (word 0x18) ∷
    row 7 (word (gray_of 15)) (word 0x08) ∷
    row 8 (word (gray_of 4294967295)) (word 0x80000000) ∷
    row 9 (look 0xCB 0xB3) (plain (answer 0 5 (pos 1) 0 0 0)) ∷
    row 10 (look 0xB3 0xCB) (plain (answer 6 0 (negsuc 0) 0 0 0)) ∷
    row 11 (look 0xCB 0x19) (plain (answer 6 0 (pos 2) 0 0 0)) ∷
    row 12 (look 0x01 0xB3) (plain (answer 0 4 (pos 0) 0 0 0)) ∷
    row 13 (look 0x01 0x01) (plain (answer 5 0 (pos 0) 0 0 0)) ∷
    []

-- a mended cell whose nibble is lent counts once; a lag of 1 has counts; refusal 6 has none
abbrev pub mended : List Row
mended =
    row 1 (look 0x81 0x01) (counts (answer 0 0 (pos 0) 0 0 0) (1 ∷ 0 ∷ 0 ∷ 0 ∷ 0 ∷ 0 ∷ 0 ∷ 0 ∷ [])) ∷
    row 2 (look 0xCA 0xB1) (counts (answer 0 5 (pos 1) 0 0 0) (1 ∷ 1 ∷ 0 ∷ 0 ∷ 0 ∷ 0 ∷ 0 ∷ 0 ∷ [])) ∷
    row 3 (look 0xB1 0xCA) (plain (answer 6 0 (negsuc 0) 0 0 0)) ∷
    []

-- what is erased in one copy is read from the other; in both it is refused; a step stopped at FF in copy 1 gives the old count
abbrev pub erasures : List Row
erasures =
    row 1 (look 0xFF 0x61) (plain (answer 0 2 (pos 0) 0 0 0)) ∷
    row 2 (look 0xFF 0xFF) (plain (answer 5 0 (pos 0) 0 0 0)) ∷
    row 3 (look 0xFF 0xE6) (plain (answer 0 9 (pos 0) 0 0 0)) ∷
    []

-- in each case the definitions answer what the paper says
pub holds : map (λ r. r.found) (bench ++ mended ++ erasures) ≡ map (λ r. r.paper) (bench ++ mended ++ erasures)
unfolding codes code_of distance count_trailing_zeros near_from near reading_of twofold is_lost nibble_read mended_in how_many bit_counts bits gray_of halves_of count_of word_of ones kind_of every some lowest length_good places_good marked offset_in offset_of pointer_at pointer_of reachable in_order sound answer_of first_read nibble_in count_in close decide weigh examine verdict_of bits_of read_of
holds = refl
