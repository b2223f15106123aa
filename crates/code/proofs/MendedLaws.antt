-- The laws of mended bits (document 02, P1 and P3).
--   tally_of_bits  16 bytes are mended in each of the bits 0 to 6, and 14 in bit 7
--   many_most      of n numbers the test holds of at most n
--   in_none        what was not mended was mended in no bit
--   one_more       a count of one bit more
--   counts_same    readings that agree give the same counts
--   counts_none    readings of which none was mended give no counts
--   total, is_mended, counts_add   the eight counts add up to the number of mended readings
use Prim.Native.Nat.{ℕ, zero, suc, ◌+◌, ◌≤◌, ◌<◌}
use mathlib.Core.Path.{◌≡◌, refl, sym, ap, ◌∙◌}
use mathlib.Core.Bool.{Bool, true, false, cond}
use mathlib.Core.List.{List, [], ◌∷◌, sum}
use native.Mathlib.Omega.{arith}
use native.Mathlib.Decide.{ℕ_discrete}
use native.Mathlib.Nat.{add-zero}
use borrow.Author.Tests.{eq-eqb, ne_eqb}
use lib.Count.{ones_in, count_trailing_zeros}
use lib.Dec.{eqb}
use lib.ListN.{length, get_or, set}
use lib.Seq.{get_or-set_same, get_or-set_other}
use Rattle.code.specs.declared.reading.Reading.{Reading}
use Rattle.code.specs.declared.reading.Reading.TheVariants.{Clean, Mended, Lost}
use Rattle.code.specs.Codes.{codes, code_of}
use Rattle.code.specs.Readings.{reading_of}
use Rattle.code.specs.Tabulate.{tabulate}
use Rattle.code.specs.Mended.{mended_in, how_many, bit_counts, no_bits}
use Rattle.code.proofs.TabulateLaws.{agree, alike}
use Rattle.code.proofs.QuickLaws.{quick_reading, reading_quick}

-- ---- numbers of which a test holds

one_most : (b : Bool) → cond b 1 0 ≤ 1
one_most true = omega arith
one_most false = omega arith

-- of n numbers the test holds of at most n
pub many_most : (n : ℕ) (test : ℕ → Bool) → how_many n test ≤ n
unfolding how_many
many_most zero test = omega arith
many_most (suc n) test = omega (arith, many_most n test, one_most (test n))

many_same : (n : ℕ) (f g : ℕ → Bool) → ((k : ℕ) → k < n → f k ≡ g k) → how_many n f ≡ how_many n g
unfolding how_many
many_same zero f g same = refl
many_same (suc n) f g same = rw (many_same n f g (λ k l. same k (omega arith)), same n (omega arith))

many_none : (n : ℕ) (test : ℕ → Bool) → ((k : ℕ) → k < n → test k ≡ false) → how_many n test ≡ 0
unfolding how_many
many_none zero test none = refl
many_none (suc n) test none = rw (many_none n test (λ k l. none k (omega arith)), none n (omega arith))

-- ---- the counts

-- what was not mended was mended in no bit
pub in_none : (i : ℕ) (r : Reading) → ((d bit : ℕ) → r ≡ Mended d bit → ⊥) → mended_in i r ≡ false
unfolding mended_in
in_none i (Clean d) other = refl
in_none i (Mended d bit) other = absurd (other d bit refl)
in_none i Lost other = refl

-- a count of one bit more
pub one_more : (counts : List ℕ) (bit : ℕ) → bit < length counts → (i : ℕ) → get_or (set counts bit (get_or counts bit 0 + 1)) i 0 ≡ get_or counts i 0 + cond (eqb bit i) 1 0
one_more counts bit inside i = go (ℕ_discrete i bit)
  where
    go : Dec (i ≡ bit) → get_or (set counts bit (get_or counts bit 0 + 1)) i 0 ≡ get_or counts i 0 + cond (eqb bit i) 1 0
    go (yes e) = rw (e, eq-eqb bit bit refl) (get_or-set_same counts bit _ 0 inside)
    go (no d) = rw (ne_eqb bit i (λ e. d (sym e)), get_or-set_other counts bit i (get_or counts bit 0 + 1) 0 d, add-zero)

-- readings that agree give the same counts
pub counts_same : (n : ℕ) (one other : ℕ → Reading) → ((k : ℕ) → k < n → one k ≡ other k) → bit_counts n one ≡ bit_counts n other
unfolding bit_counts
counts_same n one other same = alike _ _ 8 (λ i l. many_same n _ _ (λ k m. ap (mended_in i) (same k m)))

-- readings of which none was mended give no counts
pub counts_none : (n : ℕ) (reading : ℕ → Reading) → ((k i : ℕ) → k < n → mended_in i (reading k) ≡ false) → bit_counts n reading ≡ no_bits
unfolding bit_counts
counts_none n reading none = alike _ _ 8 (λ i l. many_none n _ (λ k m. none k i m))

-- 16 bytes are mended in each of the bits 0 to 6, and 14 in bit 7: 00 and FF would be mended there, but are lost
pub tally_of_bits : bit_counts 256 reading_of ≡ 16 ∷ 16 ∷ 16 ∷ 16 ∷ 16 ∷ 16 ∷ 16 ∷ 14 ∷ []
unfolding codes code_of ones_in count_trailing_zeros mended_in how_many bit_counts
tally_of_bits = counts_same 256 reading_of quick_reading reading_quick

-- ---- their sum

-- a list's sum
abbrev pub total : List ℕ → ℕ
total = sum ◌+◌ 0

-- whether a reading was mended, in whichever bit
pub is_mended : Reading → Bool
is_mended (Clean d) = false
is_mended (Mended d bit) = true
is_mended Lost = false

-- sums term by term
sum_add : (f g : ℕ → ℕ) (i n : ℕ) → total (tabulate (λ k. f k + g k) i n) ≡ total (tabulate f i n) + total (tabulate g i n)
unfolding sum
sum_add f g i zero = refl
sum_add f g i (suc n) = omega (arith, sum_add f g (suc i) n)

-- a reading adds to one count if it was mended, and else to none
adds_one : (r : Reading) → ((d bit : ℕ) → r ≡ Mended d bit → bit < 8) → total (tabulate (λ i. cond (mended_in i r) 1 0) 0 8) ≡ cond (is_mended r) 1 0
unfolding sum mended_in is_mended
adds_one (Clean d) small = refl
adds_one (Mended d bit) small = agree (λ bit. total (tabulate (λ i. cond (eqb bit i) 1 0) 0 8)) (λ bit. 1) 8 refl bit (small d bit refl)
adds_one Lost small = refl

-- the eight counts of readings that name no bit past 7 add up to the number of mended ones
pub counts_add : (n : ℕ) (reading : ℕ → Reading) → ((k d bit : ℕ) → k < n → reading k ≡ Mended d bit → bit < 8)
    → total (bit_counts n reading) ≡ how_many n (λ k. is_mended (reading k))
unfolding sum bit_counts how_many
counts_add zero reading small = refl
counts_add (suc n) reading small =
    sum_add (λ i. how_many n (λ k. mended_in i (reading k))) (λ i. cond (mended_in i (reading n)) 1 0) 0 8
    ∙ rw (counts_add n reading (λ k d bit l. small k d bit (omega arith)), adds_one (reading n) (λ d bit. small n d bit (omega arith)))
