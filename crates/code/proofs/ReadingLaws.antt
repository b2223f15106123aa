-- The laws of readings (document 01, "Nibbles, bytes and Gray words"; document 02, P1 and P3).
--   tally               how many readings of a list are clean, mended and lost
--   tally_of_bytes      of the 256 bytes 16 are clean, 126 mended and 114 lost
--   no_twofold          no byte is one bit from two codes
--   entry_at            the table holds at each byte its entry
--   entry_reading       the entry of a byte stands for its reading
--   entry_twofold       the entry of a byte tells whether it is one bit from two codes
--   entry_bit           an entry names no bit past 7
--   flipped             the code of d with a bit flipped
--   mended_flips        a byte mended in bit i is the nibble's code with that bit flipped, and i is at most 7
--   code_clean          the code of d reads clean d
--   code_injective      two nibbles with one code are one
--   read_small          a byte reads as a nibble below 16
--   lost_zero           a lost reading gives the nibble 0
--   read_or_lent        a nibble as it is read, or where it is lost another, is d if it is so either way
--   nibble_round        the code of a word's nibble reads as that nibble
--   nibble_kept         the code of a word's nibble is not lost
--   nibble_unmended     the code of a word's nibble was mended in no bit
--   clean_code          a byte whose entry is a nibble is that nibble's code
use mathlib.Core.Path.{◌≡◌, refl, sym, ap, ◌∙◌}
use mathlib.Core.Bool.{Bool, true, false, cond, true≢false}
use mathlib.Core.List.{List, [], ◌∷◌}
use Prim.Native.Nat.{ℕ, ◌+◌, ◌-◌, ◌/◌, ◌%◌, ◌^◌, ◌<◌}
use native.Mathlib.Decide.{dec_lt}
use native.Mathlib.Omega.{arith}
use lib.Bits.{bit_xor}
use lib.Count.{ones, ones_in, count_trailing_zeros}
use lib.Dec.{ltb}
use lib.ListN.{get_or}
use Rattle.code.specs.declared.reading.Reading.{Reading}
use Rattle.code.specs.declared.reading.Reading.TheVariants.{Clean, Mended, Lost}
use Rattle.code.specs.Codes.{codes, code_of, distance}
use Rattle.code.specs.Readings.{near_from, near, reading_of, twofold, is_lost, nibble_read}
use Rattle.code.specs.Entries.{mended_entry, lost_entry, entry_from, entry_of, entries, reading_at, twofold_at}
use Rattle.code.specs.Mended.{mended_in}
use Rattle.code.specs.Nibbles.{nibble_of}
use Rattle.code.specs.Tabulate.{tabulate}
use Rattle.code.proofs.TabulateLaws.{at, agree, alike}
use Rattle.code.proofs.QuickLaws.{quick_twofold, quick_reading, reading_quick, by_quick}
use Rattle.code.proofs.NibbleLaws.{nibble_small}
use borrow.Author.Tests.{lt-ltb, le-ltb}

-- ---- all bytes

-- how many readings of a list are clean, mended and lost
abbrev pub tally : List Reading → ℕ × ℕ × ℕ
tally [] = (0, 0, 0)
tally (Clean d ∷ rs) = let n = tally rs in (n.0 + 1, n.1, n.2)
tally (Mended d bit ∷ rs) = let n = tally rs in (n.0, n.1 + 1, n.2)
tally (Lost ∷ rs) = let n = tally rs in (n.0, n.1, n.2 + 1)

-- of the 256 bytes 16 are clean, 126 mended and 114 lost
pub tally_of_bytes : tally (tabulate reading_of 0 256) ≡ (16, 126, 114)
unfolding codes ones_in
tally_of_bytes = ap tally (alike reading_of quick_reading 256 reading_quick)

-- the code of d with a bit flipped
abbrev pub flipped : ℕ → ℕ → ℕ
flipped d bit = bit_xor (code_of d) (2 ^ bit)

-- the byte that a reading is of: the code, or the code with the bit flipped; b where it is lost
abbrev byte_of : ℕ → Reading → ℕ
byte_of b (Clean d) = code_of d
byte_of b (Mended d bit) = flipped d bit
byte_of b Lost = b

-- of the byte b, given whether it is one bit from two codes and its reading: the reading that its entry stands for, whether its
-- entry tells of two codes, whether there are, and the byte that its reading is of
abbrev told : ℕ → Bool → Reading → Reading × Bool × Bool × ℕ
told b double r = let e = entry_from double r in (reading_at e, twofold_at e, double, byte_of b r)

-- what these four should be
abbrev due : ℕ → Bool → Reading → Reading × Bool × Bool × ℕ
due b double r = (r, false, false, b)

-- the test over the whole table
table_right : (b : ℕ) → b < 256 → told b (twofold b) (reading_of b) ≡ due b (twofold b) (reading_of b)
unfolding codes code_of ones_in count_trailing_zeros
table_right b h =
    by_quick (told b) b h ∙ agree (λ b. told b (quick_twofold b) (quick_reading b)) (λ b. due b (quick_twofold b) (quick_reading b)) 256 refl b h
    ∙ sym (by_quick (due b) b h)

-- a byte is the one that its reading is of
byte_of_lem : (b : ℕ) → b < 256 → byte_of b (reading_of b) ≡ b
byte_of_lem b h = ap (λ right. right.3) (table_right b h)

-- no byte is one bit from two codes
pub no_twofold : (b : ℕ) → b < 256 → twofold b ≡ false
no_twofold b h = ap (λ right. right.2) (table_right b h)

-- ---- the table

-- the table holds at each byte its entry
pub entry_at : (b : ℕ) → b < 256 → get_or entries b 0 ≡ entry_of b
unfolding entries
entry_at = at entry_of 0 256

-- the entry of a byte stands for its reading
pub entry_reading : (b : ℕ) → b < 256 → reading_at (entry_of b) ≡ reading_of b
unfolding entry_of
entry_reading b h = ap (λ right. right.0) (table_right b h)

-- the entry of a byte tells whether it is one bit from two codes
pub entry_twofold : (b : ℕ) → b < 256 → twofold_at (entry_of b) ≡ twofold b
unfolding entry_of
entry_twofold b h = ap (λ right. right.1) (table_right b h) ∙ sym (no_twofold b h)

-- an entry names no bit past 7
pub entry_bit : (e d bit : ℕ) → reading_at e ≡ Mended d bit → bit < 8
entry_bit e d bit same = go (ltb e mended_entry) (ltb e lost_entry) same
  where
    go : (nibble mended : Bool) → cond nibble (Clean e) (cond mended (Mended ((e - mended_entry) / 8) ((e - mended_entry) % 8)) Lost) ≡ Mended d bit → bit < 8
    go true mended same = absurd (true≢false cc)
    go false true same = let is : (e - mended_entry) % 8 ≡ bit = cc in omega arith
    go false false same = absurd (true≢false cc)

-- a byte mended in bit i is the nibble's code with that bit flipped, and i is at most 7
pub mended_flips : (b : ℕ) → b < 256 → (d bit : ℕ) → reading_of b ≡ Mended d bit → (b ≡ flipped d bit) × (bit < 8)
mended_flips b h d bit same = (sym (byte_of_lem b h) ∙ ap (byte_of b) same, entry_bit (entry_of b) d bit (entry_reading b h ∙ same))

-- ---- codes and nibbles

-- the code of d reads clean d
pub code_clean : (d : ℕ) → d < 16 → reading_of (code_of d) ≡ Clean d
unfolding codes code_of distance near_from near reading_of ones
code_clean = agree (λ d. reading_of (code_of d)) Clean 16 refl

-- two nibbles with one code are one
pub code_injective : (d e : ℕ) → d < 16 → e < 16 → code_of d ≡ code_of e → d ≡ e
code_injective d e hd he same =
    let one : Clean d ≡ Clean e = sym (code_clean d hd) ∙ ap reading_of same ∙ code_clean e he in cc

-- the code of a word's nibble reads as that nibble
pub nibble_round : (w k : ℕ) → nibble_read (reading_of (code_of (nibble_of w k))) ≡ nibble_of w k
unfolding nibble_read
nibble_round w k = ap nibble_read (code_clean (nibble_of w k) (nibble_small w k))

-- the code of a word's nibble is not lost
pub nibble_kept : (w k : ℕ) → is_lost (reading_of (code_of (nibble_of w k))) ≡ false
unfolding is_lost
nibble_kept w k = ap is_lost (code_clean (nibble_of w k) (nibble_small w k))

-- the code of a word's nibble was mended in no bit
pub nibble_unmended : (w k i : ℕ) → mended_in i (reading_of (code_of (nibble_of w k))) ≡ false
unfolding mended_in
nibble_unmended w k i = ap (mended_in i) (code_clean (nibble_of w k) (nibble_small w k))

-- a lost reading gives the nibble 0
pub lost_zero : (r : Reading) → is_lost r ≡ true → nibble_read r ≡ 0
unfolding is_lost nibble_read
lost_zero (Clean d) h = absurd (true≢false cc)
lost_zero (Mended d bit) h = absurd (true≢false cc)
lost_zero Lost h = refl

-- a byte reads as a nibble below 16
pub read_small : (b : ℕ) → b < 256 → nibble_read (reading_of b) < 16
unfolding nibble_read
read_small b h = rw (sym (entry_reading b h)) (go (entry_of b) (dec_lt (entry_of b) mended_entry) (dec_lt (entry_of b) lost_entry))
  where
    go : (e : ℕ) → Dec (e < mended_entry) → Dec (e < lost_entry) → nibble_read (reading_at e) < 16
    go e (yes nibble) mended = rw (lt-ltb e mended_entry nibble) nibble
    go e (no other) (yes mended) = rw (le-ltb e mended_entry (omega arith), lt-ltb e lost_entry mended) (omega arith)
    go e (no other) (no lost) = rw (le-ltb e mended_entry (omega arith), le-ltb e lost_entry (omega arith)) (omega arith)

-- a nibble as it is read, or where it is lost another, is d if it is so either way
pub read_or_lent : (r : Reading) (other d : ℕ) → (is_lost r ≡ false → nibble_read r ≡ d) → (is_lost r ≡ true → other ≡ d)
    → cond (is_lost r) other (nibble_read r) ≡ d
read_or_lent r other d read lent = go (is_lost r) refl
  where
    go : (gone : Bool) → is_lost r ≡ gone → cond (is_lost r) other (nibble_read r) ≡ d
    go false e = rw e (read e)
    go true e = rw e (lent e)

-- a byte whose entry is a nibble is that nibble's code
pub clean_code : (b : ℕ) → b < 256 → entry_of b < 16 → b ≡ code_of (entry_of b)
clean_code b small clean =
    let reads : reading_of b ≡ Clean (entry_of b) = sym (entry_reading b small) ∙ rw (lt-ltb _ _ clean) in
    sym (byte_of_lem b small) ∙ ap (byte_of b) reads
