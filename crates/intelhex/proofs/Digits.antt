-- Bytes as digits and their sums, one after another.
use Rattle.std.proofs.Common.{◌≡◌, ℕ, ◌+◌, ◌*◌, ◌<◌, List, [], ◌∷◌, ◌++◌, length, get_or, take, sym, refl, ap, ◌∙◌, append_assoc, append-nil, add-one, arith, take-suc}
use Rattle.intelhex.specs.Signs.{two_digits, in_digits, total}

pub length_digits : (bytes : List ℕ) → length (in_digits bytes) ≡ 2 * length bytes
unfolding in_digits two_digits
length_digits [] = refl
length_digits (byte ∷ bytes) = omega (arith, length_digits bytes)

pub digits_append : (xs ys : List ℕ) → in_digits (xs ++ ys) ≡ in_digits xs ++ in_digits ys
unfolding in_digits
digits_append [] ys = refl
digits_append (x ∷ xs) ys =
    ap (λ (more : List ℕ). two_digits x ++ more) (digits_append xs ys) ∙ sym (append_assoc (two_digits x) (in_digits xs) (in_digits ys))

pub digits_next : (bytes : List ℕ) (done : ℕ) → done < length bytes
    → in_digits (take (done + 1) bytes) ≡ in_digits (take done bytes) ++ two_digits (get_or bytes done 0)
unfolding in_digits
digits_next bytes done more =
    rw (add-one, take-suc bytes done 0 more)
    (digits_append (take done bytes) _ ∙ ap (λ (last : List ℕ). in_digits (take done bytes) ++ last) (append-nil (two_digits (get_or bytes done 0))))

pub total_append : (xs ys : List ℕ) → total (xs ++ ys) ≡ total xs + total ys
unfolding total
total_append [] ys = omega arith
total_append (x ∷ xs) ys = omega (arith, total_append xs ys)

pub total_next : (bytes : List ℕ) (done : ℕ) → done < length bytes → total (take (done + 1) bytes) ≡ total (take done bytes) + get_or bytes done 0
unfolding total
total_next bytes done more = rw (add-one, take-suc bytes done 0 more) (total_append (take done bytes) _ ∙ omega arith)
