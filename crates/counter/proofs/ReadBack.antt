-- Cells to turns: bytes that read as the nibbles of a count, lost ones aside, are read as that count, with lag 0.
--   slot_code_lem             the code of a slot, by its nibble of the word
--   count_told, count_tells   the count of a copy from its nibbles, and its nibbles from the count
--   Spared                    in some copy a test does not hold of a nibble
--   weigh_decides             where of each nibble some copy is not lost, the counts decide
--   Legible, weigh_legible    where of each nibble some copy is not lost
--   weigh_exact               where all are the count's codes
use Rattle.counter.specs.Verdict.{read_as}
use Rattle.std.proofs.Common.{◌≡◌, ℕ, zero, suc, ◌+◌, ◌-◌, ◌*◌, ◌%◌, ◌^◌, ◌<◌, ◌≤◌, Bool, false, ◌≢◌, List, pos, sym, refl, ap, ◌∙◌, true≢false, arith, None}
use Rattle.code.specs.declared.reading.Reading.{Reading}
use Rattle.code.specs.Readings.{reading_of, is_lost, nibble_read}
use Rattle.code.specs.Codes.{code_of}
use Rattle.code.specs.Gray.{gray_of, count_of}
use Rattle.code.specs.Nibbles.{nibble_of, word_of}
use Rattle.code.specs.Tabulate.{tabulate}
use Rattle.code.proofs.GrayLaws.{gray_small, count_of_gray, gray_of_count}
use Rattle.code.proofs.NibbleLaws.{word_small, word_of_nibbles, nibble_of_word}
use Rattle.code.proofs.CodeLaws.{code_small}
use Rattle.code.proofs.ReadingLaws.{no_twofold, nibble_round, nibble_kept, read_or_lent}
use Rattle.code.proofs.TabulateLaws.{alike}
use Rattle.counter.specs.Layout.{Layout, slots}
use Rattle.counter.specs.Slots.{lowest}
use Rattle.counter.specs.Store.{slot_code}
use Rattle.counter.specs.Reading.{first_read, nibble_in, count_in, decide, some_twofold, lost_at, weigh}
use Rattle.counter.proofs.RangeTests.{every_not, none_some, none_lowest}
use Rattle.counter.proofs.Lags.{decide_same}

-- the code of a slot, by its nibble of the word
pub slot_code_lem : (c k : ℕ) → slot_code c k ≡ code_of (nibble_of (gray_of c) (k % 8))
unfolding slot_code
slot_code_lem c k = refl

-- ## The count of a copy

module _ (layout : Layout) (reading : ℕ → Reading) (copy : ℕ) where
  pub count_told : {c : ℕ} → c < 2 ^ 32 → ((n : ℕ) → n < 8 → nibble_in layout reading copy n ≡ nibble_of (gray_of c) n) → count_in layout reading copy ≡ c
  unfolding count_in
  count_told {c} small told =
      ap (λ (ns : List ℕ). count_of (word_of ns)) (alike _ _ 8 told)
      ∙ ap count_of (word_of_nibbles (gray_of c) (gray_small 32 c small))
      ∙ count_of_gray c small

  pub count_tells : (n : ℕ) → n < 8 → nibble_of (gray_of (count_in layout reading copy)) n ≡ nibble_in layout reading copy n % 16
  unfolding count_in
  count_tells n l =
      let nibbles = tabulate (nibble_in layout reading copy) 0 8 in
      ap (λ (w : ℕ). nibble_of w n) (gray_of_count (word_of nibbles) (word_small nibbles)) ∙ nibble_of_word (nibble_in layout reading copy) 8 n l

-- ## Bytes that tell every nibble

-- in some copy the test does not hold of nibble n's slot
abbrev pub Spared : Layout → (ℕ → Bool) → ℕ → Type 0
Spared layout test n = (copy : ℕ) × (copy < layout.copies) × (test (8 * copy + n) ≡ false)

module _ (layout : Layout) {byte : ℕ → ℕ} (bytes : (k : ℕ) → k < slots layout → byte k < 256)
    (spared : (n : ℕ) → n < 8 → Spared layout (λ k. is_lost (reading_of (byte k))) n) where
  none_twofold : lowest 8 0 (some_twofold layout byte) ≡ None
  none_twofold = none_lowest 8 0 (some_twofold layout byte) (λ n from to. none_some layout.copies _ (λ copy l. no_twofold _ (bytes (8 * copy + n) (omega arith))))

  none_lost : lowest 8 0 (lost_at layout (λ k. reading_of (byte k))) ≡ None
  none_lost = none_lowest 8 0 (lost_at layout (λ k. reading_of (byte k))) (λ n from to. let (copy, l, has) = spared n (omega arith) in every_not layout.copies _ copy l has)

  pub weigh_decides : weigh layout byte ≡ decide (count_in layout (λ k. reading_of (byte k)) 0) (count_in layout (λ k. reading_of (byte k)) (layout.copies - 1))
  unfolding weigh
  weigh_decides = rw (none_twofold, none_lost)

-- bytes of which each that is not lost reads as its nibble of c's word, with no nibble lost in every copy
pub record Legible (layout : Layout) (c : ℕ) (byte : ℕ → ℕ) : Type 0 where
  pub bytes : (k : ℕ) → k < slots layout → byte k < 256
  pub told : (k : ℕ) → k < slots layout → is_lost (reading_of (byte k)) ≡ false → nibble_read (reading_of (byte k)) ≡ nibble_of (gray_of c) (k % 8)
  pub spared : (n : ℕ) → n < 8 → Spared layout (λ k. is_lost (reading_of (byte k))) n

module _ (layout : Layout) {c : ℕ} {byte : ℕ → ℕ} (small : c < 2 ^ 32) (legible : Legible layout c byte) where
  -- nibble n of a copy that has one
  own_read : (copy n : ℕ) → copy < layout.copies → n < 8 → is_lost (reading_of (byte (8 * copy + n))) ≡ false
      → nibble_read (reading_of (byte (8 * copy + n))) ≡ nibble_of (gray_of c) n
  own_read copy n l m has =
      let e : (8 * copy + n) % 8 ≡ n = omega arith in
      legible.told (8 * copy + n) (omega arith) has ∙ ap (nibble_of (gray_of c)) e

  -- of the lowest-numbered copy that has one, if a copy among those from `copy` on does
  first_read_lem : (left copy n other : ℕ) → copy + left ≤ layout.copies → n < 8 → copy ≤ other → other < copy + left
      → is_lost (reading_of (byte (8 * other + n))) ≡ false → first_read left copy (λ k. reading_of (byte k)) n ≡ nibble_of (gray_of c) n
  unfolding first_read
  first_read_lem zero copy n other l m from to has = absurd (omega arith)
  first_read_lem (suc left) copy n other l m from to has =
      read_or_lent (reading_of (byte (8 * copy + n))) _ _ (own_read copy n (omega arith) m)
      (λ gone.
      let later : other ≢ copy = λ e. true≢false (sym gone ∙ rw e at has) in
      first_read_lem left (copy + 1) n other (omega arith) m (omega arith) (omega arith) has)

  nibble_read_lem : (copy n : ℕ) → copy < layout.copies → n < 8 → nibble_in layout (λ k. reading_of (byte k)) copy n ≡ nibble_of (gray_of c) n
  unfolding nibble_in
  nibble_read_lem copy n l m =
      let (other, to, has) = legible.spared n m in
      read_or_lent (reading_of (byte (8 * copy + n))) _ _ (own_read copy n l m)
      (λ gone. first_read_lem layout.copies 0 n other (omega arith) m (omega arith) (omega arith) has)

  count_read : (copy : ℕ) → copy < layout.copies → count_in layout (λ k. reading_of (byte k)) copy ≡ c
  count_read copy l = count_told layout (λ k. reading_of (byte k)) copy small (λ n m. nibble_read_lem copy n l m)

  -- such bytes read as c, with lag 0
  pub weigh_legible : weigh layout byte ≡ read_as c (pos 0)
  weigh_legible =
      let one = (legible.spared 0 (omega arith)).1 in
      weigh_decides layout legible.bytes legible.spared ∙ rw (count_read 0 (omega arith), count_read (layout.copies - 1) (omega arith)) (decide_same c)

-- so do the codes of c
pub weigh_exact : (layout : Layout) {c : ℕ} {byte : ℕ → ℕ} → c < 2 ^ 32 → ((k : ℕ) → k < slots layout → byte k ≡ slot_code c k)
    → 1 ≤ layout.copies → weigh layout byte ≡ read_as c (pos 0)
weigh_exact layout {c} {byte} small exact one = weigh_legible layout small legible
  where
    legible : Legible layout c byte
    legible =
        record {
          bytes = λ k l. rw (exact k l ∙ slot_code_lem c k) (code_small (nibble_of (gray_of c) (k % 8)));
          told = λ k l has. rw (exact k l ∙ slot_code_lem c k) (nibble_round (gray_of c) (k % 8));
          spared = λ n m. let k = 8 * 0 + n in (0, one, rw (exact k (omega arith) ∙ slot_code_lem c k) (nibble_kept (gray_of c) (k % 8)));
        }
