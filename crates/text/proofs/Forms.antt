-- Forms one behind another: what is found of two where each is found, and forms that end by themselves.
--   found_behind, nowhere_behind, no_word  a value behind a word, and none
--   found_then, nowhere_then, nowhere_first  a value behind another, where the first one's form ends by itself, and none
--   found_among, nowhere_left  a value, where fewer are allowed
--   Ends         no form is the front of another
--   ends_then    two such forms, one behind the other, are one
--   line_ends    the line of a decimal is one
--   finds_one    so that one number is found
--   no_key, no_equals, line_finds  it is found where the key, the equals sign and the decimal are, one behind another
use Prim.Native.Nat.{ℕ}
use mathlib.Core.Path.{◌≡◌, refl, sym, ap, ◌∙◌}
use mathlib.Core.List.{List, [], ◌∷◌, ◌++◌, append_assoc}
use Rattle.std.specs.Prelude.{Option, Some, None}
use denote.Ref.{Bor}
use Rattle.text.specs.Text.{equals, line_feed, decimal, line}
use Rattle.text.specs.Reading.{Small, Found, Nowhere, Finds, both, Both}
use Rattle.text.specs.Inside.{closed}
use Rattle.text.proofs.Finding.{same_behind, same_rest}
use Rattle.text.proofs.ReadDecimals.{closed_alone}

-- a value behind a word
module _ (word : List ℕ) {A : Type 0} (form : A → List ℕ) (allowed : A → Type 0) {text : List ℕ} where
  no_word : ((rest : List ℕ) → text ≡ word ++ rest → ⊥) → Nowhere (λ a. word ++ form a) allowed text
  no_word none = record { none = λ other right rest is. none (form other ++ rest) (is ∙ append_assoc word (form other) rest) }

  module _ {behind : List ℕ} (stands : text ≡ word ++ behind) where
    found_behind : {value : A} {rest : List ℕ} → Found form allowed behind value rest → Found (λ a. word ++ form a) allowed text value rest
    found_behind {value} {rest} found = record {
      right = found.right;
      stands = stands ∙ ap (λ l. word ++ l) found.stands ∙ sym (append_assoc word (form value) rest);
    }

    nowhere_behind : Nowhere form allowed behind → Nowhere (λ a. word ++ form a) allowed text
    nowhere_behind nowhere = record {
      none = λ other right rest is. nowhere.none other right rest (same_behind word (sym stands ∙ is ∙ append_assoc word (form other) rest));
    }

-- no form of an allowed value is the front of another's
pub record Ends {A : Type 0} (form : A → List ℕ) (allowed : A → Type 0) : Type 0 where
  pub same : (a b : A) (xs ys : List ℕ) → allowed a → allowed b → form a ++ xs ≡ form b ++ ys → (a ≡ b) × (xs ≡ ys)

module _ {A B : Type 0} (f : A → List ℕ) (P : A → Type 0) (g : A → B → List ℕ) (Q : A → B → Type 0) where
  -- the first is not found
  pub nowhere_first : {text : List ℕ} → Nowhere f P text → Nowhere (both f g) (Both P Q) text
  nowhere_first nowhere = record {
    none = λ (a, b) (right, right') rest is. nowhere.none a right (g a b ++ rest) (is ∙ append_assoc (f a) (g a b) rest);
  }

  -- the first is found, and then the second is looked for
  module _ {text : List ℕ} {a : A} {behind : List ℕ} (first : Found f P text a behind) where
    pub found_then : {b : B} {rest : List ℕ} → Found (g a) (Q a) behind b rest → Found (both f g) (Both P Q) text (a, b) rest
    found_then {b} {rest} second = record {
      right = (first.right, second.right);
      stands = first.stands ∙ ap (λ l. f a ++ l) second.stands ∙ sym (append_assoc (f a) (g a b) rest);
    }

    pub nowhere_then : Ends f P → Nowhere (g a) (Q a) behind → Nowhere (both f g) (Both P Q) text
    nowhere_then ends nowhere = record {
      none = λ (a', b') (right, right') rest is.
          let (same, after) = ends.same a a' behind (g a' b' ++ rest) first.right right (sym first.stands ∙ is ∙ append_assoc (f a') (g a' b') rest) in
          nowhere.none b' (rw same right') rest (after ∙ ap (λ x. g x b' ++ rest) (sym same));
    }

  -- one behind the other ends by itself
  pub ends_then : Ends f P → ((a : A) → Ends (g a) (Q a)) → Ends (both f g) (Both P Q)
  ends_then first second = record {
    same = λ (a, b) (a', b') xs ys (right, right_b) (right', right_b') is.
        let (same, behind) = first.same a a' (g a b ++ xs) (g a' b' ++ ys) right right' (sym (append_assoc (f a) (g a b) xs) ∙ is ∙ append_assoc (f a') (g a' b') ys) in
        let (same_b, rest) = (second a).same b b' xs ys right_b (rw same right_b') (behind ∙ ap (λ x. g x b' ++ ys) (sym same)) in
        ((λ i. (same i, same_b i)), rest);
  }

-- where fewer are allowed, a value that was found is one of these, or none of them stands there
module _ {A : Type 0} {form : A → List ℕ} {P : A → Type 0} (Q : A → Type 0) {text : List ℕ} where
  pub found_among : {a : A} {rest : List ℕ} → Found form P text a rest → Q a → Found form Q text a rest
  found_among found right = record { right = right; stands = found.stands }

  pub nowhere_left : ((a : A) → Q a → P a) → {a : A} {behind : List ℕ} → Found form P text a behind → Ends form (λ b. P b) → (Q a → ⊥) → Nowhere form Q text
  nowhere_left among {a} {behind} found ends wrong = record {
    none = λ b right rest is. wrong (rw (ends.same a b behind rest found.right (among b right) (sym found.stands ∙ is)).0 right);
  }

-- the line of a decimal: the key, the equals sign, and the decimal closed
line_is : (key : List ℕ) (n : ℕ) → line key (decimal n) ≡ key ++ (equals ∷ closed n)
unfolding line
line_is key n = append_assoc (key ++ (equals ∷ [])) (decimal n) (line_feed ∷ []) ∙ append_assoc key (equals ∷ []) (closed n)

lines_are : (key : List ℕ) → ◌≡◌ {A = ℕ → List ℕ} (λ n. line key (decimal n)) (λ n. key ++ (equals ∷ closed n))
lines_are key = λ i n. line_is key n i

-- it ends by itself
pub line_ends : (key : List ℕ) (allowed : ℕ → Type 0) → Ends (λ n. line key (decimal n)) allowed
line_ends key allowed = record {
  same = λ m n xs ys _ _ is. closed_alone m n xs ys (same_rest (same_behind key (sym (line_form m xs) ∙ is ∙ line_form n ys)));
}
  where
    line_form : (n : ℕ) (rest : List ℕ) → line key (decimal n) ++ rest ≡ key ++ (equals ∷ closed n ++ rest)
    line_form n rest = ap (λ l. l ++ rest) (line_is key n) ∙ append_assoc key (equals ∷ closed n) rest

-- it is not found where the key is not, or the equals sign behind it, and else where the decimal is
module _ (key : List ℕ) {text : List ℕ} where
  pub no_key : ((rest : List ℕ) → text ≡ key ++ rest → ⊥) → Nowhere (λ n. line key (decimal n)) Small text
  no_key none = rw (lines_are key) (no_word key (λ n. equals ∷ closed n) Small none)

  module _ {behind : List ℕ} (keyed : text ≡ key ++ behind) where
    pub no_equals : ((rest : List ℕ) → behind ≡ equals ∷ rest → ⊥) → Nowhere (λ n. line key (decimal n)) Small text
    no_equals none = rw (lines_are key) (nowhere_behind key (λ n. equals ∷ closed n) Small keyed (no_word (equals ∷ []) closed Small none))

    pub line_finds : {value : List ℕ} → behind ≡ equals ∷ value → (found : Option (ℕ × Bor (List ℕ))) → Finds closed Small value found
        → Finds (λ n. line key (decimal n)) Small text found
    line_finds equalled (Some (number, rest)) finds = rw (lines_are key) (found_behind key (λ n. equals ∷ closed n) Small keyed (found_behind (equals ∷ []) closed Small equalled finds))
    line_finds equalled None finds = rw (lines_are key) (nowhere_behind key (λ n. equals ∷ closed n) Small keyed (nowhere_behind (equals ∷ []) closed Small equalled finds))

-- what a caller sees of a number that was found: the number, and the text behind it
abbrev pub seen : Option (ℕ × Bor (List ℕ)) → Option (ℕ × List ℕ)
seen (Some (number, rest)) = Some (number, rest.now)
seen None = None

-- a form that ends by itself leaves one number to be found
pub finds_one : {form : ℕ → List ℕ} {allowed : ℕ → Type 0} → Ends form allowed → (text : List ℕ) (a b : Option (ℕ × Bor (List ℕ)))
    → Finds form allowed text a → Finds form allowed text b → seen a ≡ seen b
finds_one ends text (Some (m, xs)) (Some (n, ys)) one two =
    let (same, behind) = ends.same m n xs.now ys.now one.right two.right (sym one.stands ∙ two.stands) in
    λ i. Some (same i, behind i)
finds_one ends text (Some (m, xs)) None one two = absurd (two.none m one.right xs.now one.stands)
finds_one ends text None (Some (n, ys)) one two = absurd (one.none n two.right ys.now two.stands)
finds_one ends text None None one two = refl
