-- Reading a lent text. The form of a value is the bytes that it is written as; the value is found where the text begins with its form.
use Rattle.std.specs.Prelude.{ℕ, ◌<◌, ◌^◌, ◌≡◌, List, ◌++◌, Option, Some, None}
use denote.Ref.{Bor}

-- of the values that are allowed, one that a text begins with, and what stands behind its form
pub record Found {A : Type 0} (form : A → List ℕ) (allowed : A → Type 0) (text : List ℕ) (value : A) (rest : List ℕ) : Type 0 where
  pub right : allowed value
  pub stands : text ≡ form value ++ rest

-- a text begins with none of them
pub record Nowhere {A : Type 0} (form : A → List ℕ) (allowed : A → Type 0) (text : List ℕ) : Type 0 where
  pub none : (other : A) → allowed other → (rest : List ℕ) → text ≡ form other ++ rest → ⊥

-- the numbers of 32 bits
abbrev pub Small : ℕ → Type 0
Small n = n < 2 ^ 32

-- a number that was found, with the text behind it; or none stands there
abbrev pub Finds : (ℕ → List ℕ) → (ℕ → Type 0) → List ℕ → Option (ℕ × Bor (List ℕ)) → Type 0
Finds form allowed text (Some (number, rest)) = Found form allowed text number rest.now
Finds form allowed text None = Nowhere form allowed text

-- two values, the second of which may go by the first: their form, and what is allowed of them
abbrev pub both : {A B : Type 0} → (A → List ℕ) → (A → B → List ℕ) → A × B → List ℕ
both f g (a, b) = f a ++ g a b

abbrev pub Both : {A B : Type 0} → (A → Type 0) → (A → B → Type 0) → A × B → Type 0
Both P Q (a, b) = P a × Q a b
