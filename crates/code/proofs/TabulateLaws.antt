-- Functions filled into lists: what is computed over a whole table holds at each of its places.
--   at      the value at a place of the list is the function's
--   agree   two functions whose lists are equal are equal at each number of the list
--   alike   two functions that are equal at each number of the list have equal lists
--   long    the list is as long as it is asked to be
--   filled  a list with the function's values is its list
use mathlib.Core.Path.{◌≡◌, refl, sym, ap, ◌∙◌}
use mathlib.Core.List.{List, ◌∷◌}
use Prim.Native.Nat.{ℕ, zero, suc, ◌+◌, ◌≤◌, ◌<◌}
use native.Mathlib.Nat.{add-zero, zero-add, add-suc, suc-add, le_of_suc-le-suc, not-suc-le-zero}
use native.Mathlib.Omega.{arith}
use lib.ListN.{length, get_or}
use lib.Seq.{ext_get_or}
use Rattle.code.specs.Tabulate.{tabulate}

module _ {A : Type 0} where
  from : (f : ℕ → A) (d : A) (i n k : ℕ) → k < n → get_or (tabulate f i n) k d ≡ f (i + k)
  from f d i zero k h = absurd (not-suc-le-zero h)
  from f d i (suc n) zero h = ap f (sym (add-zero i))
  from f d i (suc n) (suc k) h = from f d (suc i) n k (le_of_suc-le-suc h) ∙ ap f (suc-add i k ∙ sym (add-suc i k))

  -- the value at a place of the list is the function's
  pub at : (f : ℕ → A) (d : A) (n k : ℕ) → k < n → get_or (tabulate f 0 n) k d ≡ f k
  at f d n k h = from f d 0 n k h ∙ ap f (zero-add k)

  -- two functions whose lists are equal are equal at each number of the list
  pub agree : (f g : ℕ → A) (n : ℕ) → tabulate f 0 n ≡ tabulate g 0 n → (k : ℕ) → k < n → f k ≡ g k
  agree f g n e k h = sym (at f (f k) n k h) ∙ ap (λ (l : List A). get_or l k (f k)) e ∙ at g (f k) n k h

  alike_from : (f g : ℕ → A) (i n : ℕ) → ((k : ℕ) → i ≤ k → k < i + n → f k ≡ g k) → tabulate f i n ≡ tabulate g i n
  alike_from f g i zero same = refl
  alike_from f g i (suc n) same =
      let rest = alike_from f g (suc i) n (λ k low high. same k (omega arith) (omega arith)) in
      λ t. same i (omega arith) (omega arith) t ∷ rest t

  -- two functions that are equal at each number of the list have equal lists
  pub alike : (f g : ℕ → A) (n : ℕ) → ((k : ℕ) → k < n → f k ≡ g k) → tabulate f 0 n ≡ tabulate g 0 n
  alike f g n same = alike_from f g 0 n (λ k low high. same k (omega arith))

  -- the list is as long as it is asked to be
  pub long : (f : ℕ → A) (i n : ℕ) → length (tabulate f i n) ≡ n
  long f i zero = refl
  long f i (suc n) = ap suc (long f (suc i) n)

  -- a list with the function's values is its list
  pub filled : (f : ℕ → A) (d : A) (xs : List A) (n : ℕ) → length xs ≡ n → ((k : ℕ) → k < n → get_or xs k d ≡ f k) → xs ≡ tabulate f 0 n
  filled f d xs n e each = ext_get_or d xs (tabulate f 0 n) (e ∙ sym (long f 0 n)) (λ k l. let inside : k < n = omega arith in each k inside ∙ sym (at f d n k inside))
