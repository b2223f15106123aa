-- Bytes that are codes, the same in both copies, hold a count exactly.
--   PlainTo                   the bytes of the first n nibbles, in both copies, are the codes of a word's nibbles
--   plain_more                of one nibble more
--   plain_held                of all eight, they are the slots' codes of the word's count
use Rattle.std.proofs.Common.{◌≡◌, ℕ, ◌+◌, ◌-◌, ◌*◌, ◌%◌, ◌^◌, ◌<◌, sym, ap, ◌∙◌, arith}
use native.Mathlib.Decide.{dec_lt}
use lib.Bits.{bit_or}
use Rattle.code.specs.Codes.{code_of}
use Rattle.code.specs.Gray.{gray_of, count_of}
use Rattle.code.specs.Nibbles.{nibble_of}
use Rattle.code.proofs.NibbleLaws.{Laid, laid_over}
use Rattle.code.proofs.GrayLaws.{gray_of_count}
use Rattle.counter.specs.Store.{slot_code}

abbrev pub PlainTo : ℕ → (ℕ → ℕ) → ℕ → Type 0
PlainTo n byte word = (word < 16 ^ n) × ((k : ℕ) → k < n → (byte k ≡ code_of (nibble_of word k)) × (byte (8 + k) ≡ byte k))

module _ (byte : ℕ → ℕ) (word d n : ℕ) (plain : PlainTo n byte word) (few : n < 8) (nibble : d < 16) where
  -- the word with the nibble laid over it
  abbrev next : ℕ
  next = bit_or word ((d * 2 ^ (4 * n)) % 2 ^ 32)

  laid : Laid word d n next
  laid = laid_over word d n plain.0 nibble few

  pub plain_more : byte n ≡ code_of d → byte (8 + n) ≡ byte n → PlainTo (n + 1) byte next
  plain_more own other = (laid.small, λ k l. go k l (dec_lt k n))
    where
      go : (k : ℕ) → k < n + 1 → Dec (k < n) → (byte k ≡ code_of (nibble_of next k)) × (byte (8 + k) ≡ byte k)
      go k l (yes h) = let so = plain.1 k h in (so.0 ∙ ap code_of (sym (laid.rest k h)), so.1)
      go k l (no h) = let e : k ≡ n = omega arith in rw e (own ∙ ap code_of (sym laid.top), other)

module _ (byte : ℕ → ℕ) (word : ℕ) (fits : word < 2 ^ 32)
    (plain : (n : ℕ) → n < 8 → (byte n ≡ code_of (nibble_of word n)) × (byte (8 + n) ≡ byte n)) where
  -- the code of the count at a nibble is that of the nibble
  code_at : (n : ℕ) → n < 8 → code_of (nibble_of (gray_of (count_of word)) n) ≡ byte n
  code_at n l = ap (λ (w : ℕ). code_of (nibble_of w n)) (gray_of_count word fits) ∙ sym (plain n l).0

  pub plain_held : (k : ℕ) → k < 16 → byte k ≡ slot_code (count_of word) k
  unfolding slot_code
  plain_held k l = go (dec_lt k 8)
    where
      go : Dec (k < 8) → byte k ≡ code_of (nibble_of (gray_of (count_of word)) (k % 8))
      go (yes h) = let e : k % 8 ≡ k = omega arith in rw e (sym (code_at k h))
      go (no h) =
          let e : k % 8 ≡ k - 8 = omega arith in
          let f : 8 + (k - 8) ≡ k = omega arith in
          rw e (ap byte (sym f) ∙ (plain (k - 8) (omega arith)).1 ∙ sym (code_at (k - 8) (omega arith)))
