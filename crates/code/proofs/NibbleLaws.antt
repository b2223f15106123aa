-- The laws of a word and its nibbles (document 01, "Nibbles, bytes and Gray words").
--   sixteens            a power of sixteen as a power of two
--   sixteens_positive   no power of sixteen is 0
--   nibble_small        a nibble is below 16
--   nibble_past         a word of 32 bits has nothing past its eighth nibble
--   word_small          n nibbles make a word below 16 ^ n
--   with_nibble         a word with one nibble more, below the others
--   word_folds          at most eight nibbles, taken in from the highest on, make their word
--   word_of_nibbles     the word of a word's nibbles is that word
--   nibble_zero         the nibbles of 0
--   nibble_of_word      the nibbles of a word of nibbles
--   laid_over           a nibble laid over n others: Laid
use mathlib.Core.Path.{◌≡◌, refl, sym, ap, ◌∙◌}
use mathlib.Core.List.{List, [], ◌∷◌, reverse}
use Prim.Native.Nat.{ℕ, zero, suc, ◌+◌, ◌-◌, ◌*◌, ◌/◌, ◌%◌, ◌^◌, ◌≤◌, ◌<◌}
use native.Mathlib.Nat.{pow-suc, mul-suc, one-le-pow, pow-le-pow_right, lt_of_lt_of_le, mod-lt, mod-eq_of_lt, mod-one, div-one, div-eq_of_lt, div-div-eq-div-mul, zero-div, mul_comm, mul_assoc, mul-le-mul_right, mul-add-div_right, mul-add-mod_self_right}
use native.Mathlib.Omega.{arith}
use lib.Arith.{mod-mul, digits_div}
use lib.Bits.{bit_or, or_shifted, or_shifted_r}
use lib.Dec.{lit<}
use lib.ListN.{length, get_or}
use lib.Pow.{pow-add, shl_exact}
use Rattle.std.specs.List.{fold}
use Rattle.std.proofs.lemmas.List.{reverse-append}
use Rattle.std.proofs.lemmas.List.Sums.{fold-append}
use Rattle.code.specs.Tabulate.{tabulate}
use Rattle.code.specs.Nibbles.{nibble_of, word_of}
use Rattle.code.proofs.TabulateLaws.{at}

-- a power of sixteen as a power of two
pub sixteens : (k : ℕ) → 16 ^ k ≡ 2 ^ (4 * k)
sixteens zero = refl
sixteens (suc k) =
    pow-suc 16 k ∙ ap (λ (x : ℕ). x * 16) (sixteens k) ∙ sym (ap (λ (x : ℕ). 2 ^ x) (mul-suc 4 k) ∙ pow-add 2 (4 * k) 4)

-- no power of sixteen is 0
pub sixteens_positive : (k : ℕ) → 0 < 16 ^ k
sixteens_positive k = one-le-pow k 16 (lit< tt)

-- a nibble is below 16
pub nibble_small : (w k : ℕ) → nibble_of w k < 16
unfolding nibble_of
nibble_small w k = mod-lt (w / 16 ^ k) (lit< tt)

-- a word of 32 bits has nothing past its eighth nibble
pub nibble_past : (w k : ℕ) → w < 2 ^ 32 → 8 ≤ k → nibble_of w k ≡ 0
unfolding nibble_of
nibble_past w k h l = ap (λ (x : ℕ). x % 16) (div-eq_of_lt (lt_of_lt_of_le h (pow-le-pow_right (lit< tt) l)))

-- n nibbles make a word below 16 ^ n
pub word_small : (ns : List ℕ) → word_of ns < 16 ^ length ns
unfolding word_of
word_small [] = lit< tt
word_small (n ∷ ns) = let h = word_small ns in let e = pow-suc 16 (length ns) in omega arith

-- a word with one nibble more, below the others
abbrev pub with_nibble : ℕ → ℕ → ℕ
with_nibble w n = bit_or ((w * 2 ^ 4) % 2 ^ 32) (n % 16)

-- where nothing is shifted out, it is sixteen times the word and the nibble
with_nibble_lem : (w n : ℕ) → w < 16 ^ 7 → with_nibble w n ≡ n % 16 + 16 * w
with_nibble_lem w n fits =
    ap (λ (x : ℕ). bit_or x (n % 16)) (shl_exact 28 4 32 (omega arith) (omega arith)) ∙ or_shifted w 4 (n % 16) (mod-lt n (lit< tt)) ∙ omega arith

-- at most eight nibbles, taken in from the highest on, make their word
pub word_folds : (ns : List ℕ) → length ns ≤ 8 → fold with_nibble 0 (reverse ns) ≡ word_of ns
unfolding word_of
word_folds [] few = refl
word_folds (n ∷ ns) few =
    let seven : length ns ≤ 7 = omega arith in
    let small : word_of ns < 16 ^ 7 = lt_of_lt_of_le (word_small ns) (pow-le-pow_right (lit< tt) seven) in
    ap (fold with_nibble 0) (reverse-append (n ∷ []) ns)
    ∙ fold-append with_nibble 0 (reverse ns) (n ∷ [])
    ∙ ap (λ (w : ℕ). with_nibble w n) (word_folds ns (omega arith))
    ∙ with_nibble_lem (word_of ns) n small

-- what stands above nibble i
above : (w i : ℕ) → w / 16 ^ suc i ≡ w / 16 ^ i / 16
above w i = ap (λ (x : ℕ). w / x) (pow-suc 16 i) ∙ sym (div-div-eq-div-mul w (16 ^ i) 16)

-- the low n + 1 nibbles are the lowest and the n above it
low_nibbles : (v n : ℕ) → v % 16 ^ suc n ≡ (v / 16 % 16 ^ n) * 16 + v % 16
low_nibbles v n = ap (λ (x : ℕ). v % x) (pow-suc 16 n) ∙ mod-mul v (sixteens_positive n) (lit< tt)

-- the word of n nibbles of a word, from nibble i on
word_from : (w i n : ℕ) → word_of (tabulate (nibble_of w) i n) ≡ w / 16 ^ i % 16 ^ n
unfolding nibble_of word_of
word_from w i zero = sym (mod-one (w / 16 ^ i))
word_from w i (suc n) =
    let rest = word_from w (suc i) n ∙ ap (λ (x : ℕ). x % 16 ^ n) (above w i) in
    let whole = low_nibbles (w / 16 ^ i) n in
    omega arith

-- the word of a word's nibbles is that word
pub word_of_nibbles : (w : ℕ) → w < 2 ^ 32 → word_of (tabulate (nibble_of w) 0 8) ≡ w
word_of_nibbles w h = word_from w 0 8 ∙ ap (λ (x : ℕ). x % 16 ^ 8) (div-one w) ∙ mod-eq_of_lt h

-- the nibbles of 0
pub nibble_zero : (k : ℕ) → nibble_of 0 k ≡ 0
unfolding nibble_of
nibble_zero k = rw zero-div

-- what stands above the lowest nibble, from nibble k on
from_above : (w k : ℕ) → w / 16 ^ suc k ≡ w / 16 / 16 ^ k
from_above w k = ap (λ (x : ℕ). w / x) (pow-suc 16 k ∙ mul_comm (16 ^ k) 16) ∙ sym (div-div-eq-div-mul w 16 (16 ^ k))

-- the nibbles of a word of nibbles
word_nibble : (ns : List ℕ) (k : ℕ) → nibble_of (word_of ns) k ≡ get_or ns k 0 % 16
unfolding nibble_of word_of
word_nibble [] k = rw zero-div
word_nibble (n ∷ ns) zero = rw div-one (omega arith)
word_nibble (n ∷ ns) (suc k) =
    let rest : (n % 16 + 16 * word_of ns) / 16 ≡ word_of ns = omega arith in
    ap (λ (x : ℕ). x % 16) (from_above (n % 16 + 16 * word_of ns) k ∙ ap (λ (x : ℕ). x / 16 ^ k) rest) ∙ word_nibble ns k

pub nibble_of_word : (f : ℕ → ℕ) (n k : ℕ) → k < n → nibble_of (word_of (tabulate f 0 n)) k ≡ f k % 16
nibble_of_word f n k h = word_nibble (tabulate f 0 n) k ∙ ap (λ (x : ℕ). x % 16) (at f 0 n k h)

-- a nibble d laid over the n nibbles of a word w gives v
pub record Laid (w d n v : ℕ) : Type 0 where
  pub small : v < 16 ^ (n + 1)
  pub top : nibble_of v n ≡ d
  pub rest : (k : ℕ) → k < n → nibble_of v k ≡ nibble_of w k

pub laid_over : (w d n : ℕ) → w < 16 ^ n → d < 16 → n < 8 → Laid w d n (bit_or w ((d * 2 ^ (4 * n)) % 2 ^ 32))
unfolding nibble_of
laid_over w d n fits nibble few =
    rw sum
    (record {
      small = let most : d * 16 ^ n ≤ 15 * 16 ^ n = mul-le-mul_right (16 ^ n) (omega arith) in let e : 16 ^ (n + 1) ≡ 16 ^ n * 16 = pow-add 16 n 1 in omega arith;
      top = ap (λ (x : ℕ). x % 16) (digits_div d fits) ∙ mod-eq_of_lt nibble;
      rest = under;
    })
  where
    sum : bit_or w ((d * 2 ^ (4 * n)) % 2 ^ 32) ≡ d * 16 ^ n + w
    sum =
        ap (bit_or w) (shl_exact 4 (4 * n) 32 nibble (omega arith))
        ∙ or_shifted_r d (4 * n) w (rw (sixteens n) at fits)
        ∙ ap (λ (x : ℕ). d * x + w) (sym (sixteens n))

    under : (k : ℕ) → k < n → (d * 16 ^ n + w) / 16 ^ k % 16 ≡ w / 16 ^ k % 16
    under k l =
        let j = n - k - 1 in
        let count : n ≡ suc j + k = omega arith in
        let power : 16 ^ n ≡ 16 ^ j * 16 * 16 ^ k = ap (λ (x : ℕ). 16 ^ x) count ∙ pow-add 16 (suc j) k ∙ ap (λ (x : ℕ). x * 16 ^ k) (pow-suc 16 j) in
        let product : d * 16 ^ n ≡ d * 16 ^ j * 16 * 16 ^ k =
        ap (λ (x : ℕ). d * x) power ∙ sym (mul_assoc d (16 ^ j * 16) (16 ^ k)) ∙ ap (λ (x : ℕ). x * 16 ^ k) (sym (mul_assoc d (16 ^ j) 16)) in
        ap (λ (x : ℕ). (x + w) / 16 ^ k % 16) product
        ∙ ap (λ (x : ℕ). x % 16) (mul-add-div_right (sixteens_positive k) (d * 16 ^ j * 16) w)
        ∙ mul-add-mod_self_right (d * 16 ^ j) 16 (w / 16 ^ k)
