-- Reading decimals: the number that was read so far, and what a decimal that a line feed closes has to do with it.
use Prim.Native.Nat.{ℕ, ◌+◌, ◌-◌, ◌*◌, ◌/◌, ◌%◌, ◌≤◌, ◌<◌, ◌^◌}
use mathlib.Core.Path.{◌≡◌, refl, sym, ap, ◌∙◌}
use mathlib.Core.List.{List, [], ◌∷◌, ◌++◌, append_assoc, append-nil}
use native.Mathlib.Omega.{arith}
use lib.Dec.{lit<}
use lib.ListN.{length, get_or, length-append, get_or-append}
use lib.Seq.{get_or-append_seam}
use Rattle.text.specs.Text.{digit, line_feed, decimal}
use Rattle.text.specs.Reading.{Small, Found, Nowhere}
use Rattle.text.specs.Inside.{closed}
use Rattle.text.proofs.Decimals.{decimal_small, decimal_more, all_digits_lem, length_positive, decimal_injective, no_leading_zero, front_least}
use Rattle.text.proofs.Finding.{same_first, same_rest, front_of}

-- one digit more
pub one_more : (n d : ℕ) → 0 < n → d < 10 → decimal (10 * n + d) ≡ decimal n ++ (digit d ∷ [])
one_more n d some small =
    let tenth : (10 * n + d) / 10 ≡ n = omega arith in
    let last : (10 * n + d) % 10 ≡ d = omega arith in
    decimal_more (10 * n + d) (omega arith) ∙ rw (tenth, last)

-- a digit alone
one_alone : (d : ℕ) → d < 10 → decimal d ≡ digit d ∷ []
one_alone d small = decimal_small d small ∙ ap (λ m. digit m ∷ []) (omega arith)

-- a line feed is no digit
no_line_feed : (n k : ℕ) → k < length (decimal n) → get_or (decimal n) k 0 ≡ line_feed → ⊥
no_line_feed n k inside same = omega (arith, all_digits_lem n k inside)

-- a decimal, where one stands that a line feed closes: it is the front of that, and the rest of it stands behind
decimal_front : (m n : ℕ) (xs ys : List ℕ) → decimal m ++ xs ≡ decimal n ++ (line_feed ∷ ys)
    → (more : List ℕ) × (decimal n ≡ decimal m ++ more) × (xs ≡ more ++ (line_feed ∷ ys))
decimal_front m n xs ys same = front_of (decimal m) (decimal n) xs ys line_feed (no_line_feed m) same

-- a decimal has a first digit, and what stands behind its front is a digit or nothing
digit_behind : (n : ℕ) (front more : List ℕ) (byte : ℕ) → decimal n ≡ front ++ (byte ∷ more) → (48 ≤ byte) × (byte ≤ 57)
digit_behind n front more byte is =
    let at : get_or (decimal n) (length front) 0 ≡ byte = ap (λ l. get_or l (length front) 0) is ∙ get_or-append_seam front byte more 0 in
    let (low, high) = all_digits_lem n (length front) (omega (arith, ap length is, length-append front (byte ∷ more))) in
    (omega arith, omega arith)

-- where no line feed stands behind the only decimal that could
closed_nowhere : {text behind : List ℕ} → ((n : ℕ) (ys : List ℕ) → text ≡ closed n ++ ys → behind ≡ line_feed ∷ ys)
    → ((rest : List ℕ) → behind ≡ line_feed ∷ rest → ⊥) → Nowhere closed Small text
closed_nowhere feed-behind none = record { none = λ n small ys is. none ys (feed-behind n ys is) }

-- a digit
abbrev pub one_digit : ℕ → List ℕ
one_digit d = digit d ∷ []

abbrev pub IsDigit : ℕ → Type 0
IsDigit d = d < 10

-- where none is found, none stands
none_found : {text : List ℕ} → Nowhere one_digit IsDigit text → (byte : ℕ) (rest : List ℕ) → (48 ≤ byte) × (byte ≤ 57) → text ≡ byte ∷ rest → ⊥
none_found nowhere byte rest (low, high) is = nowhere.none (byte - 48) (omega arith) rest (is ∙ ap (λ b. b ∷ rest) (omega arith))

-- so that no decimal stands there
pub no_digit : {text : List ℕ} → Nowhere one_digit IsDigit text → Nowhere closed Small text
no_digit {text} nowhere = record { none = λ n small ys is. go n ys (decimal n) refl (is ∙ append_assoc (decimal n) (line_feed ∷ []) ys) }
  where
    go : (n : ℕ) (ys bytes : List ℕ) → decimal n ≡ bytes → text ≡ decimal n ++ (line_feed ∷ ys) → ⊥
    go n ys [] are is = omega (arith, length_positive n, ap length are)
    go n ys (byte ∷ more) are is =
        none_found nowhere byte (more ++ (line_feed ∷ ys)) (digit_behind n [] more byte are) (is ∙ ap (λ l. l ++ (line_feed ∷ ys)) are)

-- a number above 0 that was read from the start of a text, and what stands behind it
pub record Read (text : List ℕ) (value : ℕ) (behind : List ℕ) : Type 0 where
  pub small : value < 2 ^ 32
  pub some : 0 < value
  pub stands : text ≡ decimal value ++ behind

module _ {text : List ℕ} {value : ℕ} {behind : List ℕ} (read : Read text value behind) where
  module _ {d : ℕ} {more : List ℕ} (next : Found one_digit IsDigit behind d more) where
    -- one digit more stands there
    next_stands : text ≡ decimal (10 * value + d) ++ more
    next_stands =
        read.stands
        ∙ ap (λ l. decimal value ++ l) next.stands
        ∙ sym (append_assoc (decimal value) (digit d ∷ []) more)
        ∙ ap (λ l. l ++ more) (sym (one_more value d read.some next.right))

    pub read_more : {next : ℕ} → next ≡ value * 10 + d → next < 2 ^ 32 → Read text next more
    read_more {next} is small =
        let same : 10 * value + d ≡ next = omega arith in
        record { small = small; some = omega (arith, read.some); stands = rw same at next_stands }

    -- where they come to more than 32 bits, no number of 32 bits stands there
    pub too_large : 2 ^ 32 ≤ value * 10 + d → Nowhere closed Small text
    too_large large = record {
      none = λ n small ys is.
          let (rest, front, _) = decimal_front (10 * value + d) n more ys (sym next_stands ∙ is ∙ append_assoc (decimal n) (line_feed ∷ []) ys) in
          omega (arith, front_least (10 * value + d) n rest front);
    }

  module _ (last : Nowhere one_digit IsDigit behind) where
    -- a decimal that a line feed closes, where these digits stand, has no others
    feed_behind : (n : ℕ) (ys : List ℕ) → text ≡ closed n ++ ys → behind ≡ line_feed ∷ ys
    feed_behind n ys is =
        let (more, front, rest) = decimal_front value n behind ys (sym read.stands ∙ is ∙ append_assoc (decimal n) (line_feed ∷ []) ys) in
        go more front rest
      where
        go : (more : List ℕ) → decimal n ≡ decimal value ++ more → behind ≡ more ++ (line_feed ∷ ys) → behind ≡ line_feed ∷ ys
        go [] front rest = rest
        go (byte ∷ more) front rest = absurd (none_found last byte (more ++ (line_feed ∷ ys)) (digit_behind n (decimal value) more byte front) rest)

    pub decimal_nowhere : ((rest : List ℕ) → behind ≡ line_feed ∷ rest → ⊥) → Nowhere closed Small text
    decimal_nowhere = closed_nowhere feed_behind

module _ {text : List ℕ} {d : ℕ} {behind : List ℕ} (first : Found one_digit IsDigit text d behind) where
  -- a first digit above 0 is a number
  pub first_read : 0 < d → Read text d behind
  first_read some = record {
    small = omega (arith, first.right);
    some = some;
    stands = first.stands ∙ ap (λ l. l ++ behind) (sym (one_alone d first.right));
  }

  -- a first digit 0 is the whole number
  module _ (zero : d ≡ 0) where
    zero_stands : text ≡ 48 ∷ behind
    zero_stands = first.stands ∙ ap (λ n. digit n ∷ behind) zero

    pub zero_found : {rest : List ℕ} → behind ≡ line_feed ∷ rest → Found closed Small text 0 rest
    zero_found {rest} feed = record {
      right = lit< tt;
      stands =
          zero_stands
          ∙ ap (λ l. l ++ behind) (sym (one_alone 0 (omega arith)))
          ∙ ap (λ l. decimal 0 ++ l) feed
          ∙ sym (append_assoc (decimal 0) (line_feed ∷ []) rest);
    }

    pub zero_nowhere : ((rest : List ℕ) → behind ≡ line_feed ∷ rest → ⊥) → Nowhere closed Small text
    zero_nowhere = closed_nowhere (λ n ys stands.
        let whole = sym zero_stands ∙ stands ∙ append_assoc (decimal n) (line_feed ∷ []) ys in
        let first : get_or (decimal n) 0 0 ≡ 48 = sym (get_or-append (decimal n) (line_feed ∷ ys) 0 0 (length_positive n)) ∙ ap (λ l. get_or l 0 0) (sym whole) in
        same_rest (whole ∙ ap (λ m. decimal m ++ (line_feed ∷ ys)) (no_leading_zero n first) ∙ ap (λ l. l ++ (line_feed ∷ ys)) (one_alone 0 (omega arith))))

-- a decimal that a line feed closes is the front of no other
pub closed_alone : (m n : ℕ) (xs ys : List ℕ) → closed m ++ xs ≡ closed n ++ ys → (m ≡ n) × (xs ≡ ys)
closed_alone m n xs ys same =
    let whole = sym (append_assoc (decimal m) (line_feed ∷ []) xs) ∙ same ∙ append_assoc (decimal n) (line_feed ∷ []) ys in
    let (more, front, rest) = front_of (decimal m) (decimal n) (line_feed ∷ xs) ys line_feed (no_line_feed m) whole in
    go more front rest
  where
    go : (more : List ℕ) → decimal n ≡ decimal m ++ more → line_feed ∷ xs ≡ more ++ (line_feed ∷ ys) → (m ≡ n) × (xs ≡ ys)
    go [] front rest = (sym (decimal_injective n m (front ∙ append-nil (decimal m))), same_rest rest)
    go (byte ∷ more) front rest = absurd (omega (arith, same_first rest, digit_behind n (decimal m) more byte front))
