-- Bytes read one after another from a text, and stored one after another.
use Rattle.std.proofs.Common.{◌≡◌, ℕ, zero, suc, ◌+◌, ◌*◌, ◌%◌, ◌<◌, ◌≤◌, Bool, true, false, ◌&&◌, ◌||◌, ltb, List, [], ◌∷◌, ◌++◌, length, get_or, take, drop, set, sym, refl, ap, ◌∙◌, true≢false, add-zero, add-one, arith, length-drop, get_or-drop, get_or-set_other, take-suc, ltb-true, le-ltb, lt-ltb}
use mathlib.Core.Bool.{and_assoc, or_assoc, or-false}
use native.Mathlib.Decide.{dec_le}
use lib.Seq.{sets}
use Rattle.intelhex.specs.Signs.{no_digit, byte_at, bytes_at, total}
use Rattle.intelhex.specs.Faults.{not_yet, some_taken}
use Rattle.intelhex.specs.Inside.{all_bytes}
use Rattle.intelhex.proofs.Digits.{total_append}
use Rattle.intelhex.proofs.LineLaws.{choose, both}
use Rattle.intelhex.proofs.Values.{byte_kinds}

pub length_bytes : (text : List ℕ) (at n : ℕ) → length (bytes_at text at n) ≡ n
unfolding bytes_at
length_bytes text at zero = refl
length_bytes text at (suc n) = ap suc (length_bytes text (at + 2) n)

-- so many bytes, and then more
pub bytes_split : (text : List ℕ) (at m n : ℕ) → bytes_at text at (m + n) ≡ bytes_at text at m ++ bytes_at text (at + 2 * m) n
unfolding bytes_at
bytes_split text at zero n =
    let none : at + 2 * 0 ≡ at = omega arith in
    let start : 0 + n ≡ n = omega arith in
    rw (none, start)
bytes_split text at (suc m) n =
    let next : at + 2 * suc m ≡ at + 2 + 2 * m = omega arith in
    let more : suc m + n ≡ suc (m + n) = omega arith in
    rw (next, more) (ap (λ (tail : List ℕ). byte_at text at ∷ tail) (bytes_split text (at + 2) m n))

-- one byte more
pub bytes_next : (text : List ℕ) (at k : ℕ) → bytes_at text at (k + 1) ≡ bytes_at text at k ++ (byte_at text (at + 2 * k) ∷ [])
unfolding bytes_at
bytes_next text at k = bytes_split text at k 1

pub all_append : (xs ys : List ℕ) → all_bytes (xs ++ ys) ≡ (all_bytes xs && all_bytes ys)
unfolding all_bytes
all_append [] ys = refl
all_append (x ∷ xs) ys = rw (all_append xs ys) (sym (and_assoc (ltb x 256) (all_bytes xs) (all_bytes ys)))

-- where all of some and one more are bytes
pub all_next : (text : List ℕ) (at k : ℕ) → all_bytes (bytes_at text at (k + 1)) ≡ true → (all_bytes (bytes_at text at k) ≡ true) × (byte_at text (at + 2 * k) < 256)
unfolding all_bytes
all_next text at k all =
    let (before, last) = both (all_bytes (bytes_at text at k)) (ltb (byte_at text (at + 2 * k)) 256 && true) (rw (bytes_next text at k, all_append) at all) in
    (before, ltb-true (byte_at text (at + 2 * k)) 256 (both (ltb (byte_at text (at + 2 * k)) 256) true last).0)

-- what is no byte shows in the sum of some
sum_bytes : (text : List ℕ) (at n : ℕ) → all_bytes (bytes_at text at n) ≡ true → total (bytes_at text at n) ≤ 255 * n
unfolding bytes_at all_bytes total
sum_bytes text at zero all = omega arith
sum_bytes text at (suc n) all =
    let (byte, more) = both (ltb (byte_at text at) 256) (all_bytes (bytes_at text (at + 2) n)) all in
    omega (arith, ltb-true (byte_at text at) 256 byte, sum_bytes text (at + 2) n more)

sum_none : (text : List ℕ) (at n : ℕ) → all_bytes (bytes_at text at n) ≡ false → no_digit ≤ total (bytes_at text at n)
unfolding bytes_at all_bytes total
sum_none text at zero none = absurd (true≢false none)
sum_none text at (suc n) none =
    elim (dec_le 256 (byte_at text at)) [
      | yes large ↦ omega (arith, byte_kinds text at large)
      | no byte ↦ omega (arith, sum_none text (at + 2) n (rw (lt-ltb (byte_at text at) 256 (omega (arith, byte))) at none))
    ]

pub formed_sum : (text : List ℕ) (at n : ℕ) → n < 512 → ltb (total (bytes_at text at n)) no_digit ≡ all_bytes (bytes_at text at n)
formed_sum text at n few =
    choose (all_bytes (bytes_at text at n))
    (λ all. lt-ltb (total (bytes_at text at n)) no_digit (omega (arith, few, sum_bytes text at n all)) ∙ sym all)
    (λ none. le-ltb (total (bytes_at text at n)) no_digit (sum_none text at n none) ∙ sym none)

pub total_next_byte : (text : List ℕ) (at k : ℕ) → total (bytes_at text at (k + 1)) ≡ total (bytes_at text at k) + byte_at text (at + 2 * k)
unfolding total
total_next_byte text at k = rw (bytes_next text at k) (total_append (bytes_at text at k) _ ∙ omega arith)

pub some_append : (xs ys : List ℕ) → some_taken (xs ++ ys) ≡ (some_taken xs || some_taken ys)
unfolding some_taken
some_append [] ys = refl
some_append (x ∷ xs) ys = rw (some_append xs ys) (sym (or_assoc (ltb x not_yet) (some_taken xs) (some_taken ys)))

-- one cell more was looked at
pub some_next : (cells : List ℕ) (address k : ℕ) → address + k < length cells
    → some_taken (take (k + 1) (drop address cells)) ≡ (some_taken (take k (drop address cells)) || ltb (get_or cells (address + k) 0) not_yet)
unfolding some_taken
some_next cells address k inside =
    rw (add-one, take-suc (drop address cells) k 0 (omega (arith, length-drop address cells)), get_or-drop address cells k 0)
    (some_append (take k (drop address cells)) _ ∙ ap (λ b. some_taken (take k (drop address cells)) || b) (or-false _))

-- a cell that is not stored to stays
pub sets_other : (bytes cells : List ℕ) (at a : ℕ) → (at ≤ a → at + length bytes ≤ a) → get_or (sets cells at bytes) a 0 ≡ get_or cells a 0
sets_other [] cells at a out = refl
sets_other (byte ∷ bytes) cells at a out =
    sets_other bytes (set cells at byte) (suc at) a (λ past. omega (arith, out (omega arith)))
    ∙ get_or-set_other cells at a byte 0 (λ e. omega (arith, out (omega arith)))

-- storing one more behind some
pub sets_next : (bytes cells : List ℕ) (address byte : ℕ) → sets cells address (bytes ++ (byte ∷ [])) ≡ set (sets cells address bytes) (address + length bytes) byte
sets_next [] cells address byte = rw add-zero
sets_next (x ∷ bytes) cells address byte =
    let next : address + suc (length bytes) ≡ suc address + length bytes = omega arith in
    rw next (sets_next bytes (set cells address x) (suc address) byte)

-- the four bytes before the data
pub head_bytes : (text : List ℕ) (at : ℕ) → bytes_at text (at + 1) 4 ≡ byte_at text (at + 1) ∷ byte_at text (at + 3) ∷ byte_at text (at + 5) ∷ byte_at text (at + 7) ∷ []
unfolding bytes_at
head_bytes text at =
    let high : at + 1 + 2 ≡ at + 3 = omega arith in
    let low : at + 3 + 2 ≡ at + 5 = omega arith in
    let kind : at + 5 + 2 ≡ at + 7 = omega arith in
    rw (high, low, kind)

-- of cells in which so many bytes were stored: the next one is stored, and its cell is looked at
module _ {cells : List ℕ} (before text : List ℕ) (at address k : ℕ) (stored : cells ≡ sets before address (bytes_at text at k)) where
  pub stored_next : (byte : ℕ) → byte ≡ byte_at text (at + 2 * k) → byte < 256
      → set cells (address + k) (byte % 256) ≡ sets before address (bytes_at text at (k + 1))
  stored_next byte read small =
      let whole : byte % 256 ≡ byte = omega (arith, small) in
      let next = sets_next (bytes_at text at k) before address (byte_at text (at + 2 * k)) in
      rw (whole, stored, read, bytes_next text at k) (sym (rw (length_bytes text at k) at next))

  pub looked_next : {twice : Bool} → twice ≡ some_taken (take k (drop address before)) → address + k < length before
      → (twice || ltb (get_or cells (address + k) 0) not_yet) ≡ some_taken (take (k + 1) (drop address before))
  looked_next looked inside =
      let past = sets_other (bytes_at text at k) before address (address + k) (λ inside. omega (arith, length_bytes text at k)) in
      rw (looked, stored, past) (sym (some_next before address k inside))
