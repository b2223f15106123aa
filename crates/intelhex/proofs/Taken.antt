-- Cells that have their bytes: counted, and copied.
use Rattle.std.proofs.Common.{◌≡◌, ℕ, zero, suc, ◌+◌, ◌<◌, ◌≤◌, false, cond, eqb, ltb, List, [], ◌∷◌, ◌++◌, length, get_or, take, drop, set, replicate, sym, refl, ap, ◌∙◌, add-one, arith, length-drop, take-append-drop, length-take, take-suc, drop-drop, take-suc-set, lt-ltb, ne_eqb}
use lib.Seq.{sets, sets-eq}
use Rattle.intelhex.specs.Faults.{not_yet, some_taken, all_taken}
use Rattle.intelhex.proofs.LineLaws.{choose}
use Rattle.intelhex.proofs.RecordLaws.{Bytes}
use Rattle.intelhex.proofs.ReadLaws.{neither}

-- how many cells have no byte yet
unfoldable pub free : List ℕ → ℕ
free [] = 0
free (cell ∷ cells) = cond (ltb cell not_yet) 0 1 + free cells

free_append : (xs ys : List ℕ) → free (xs ++ ys) ≡ free xs + free ys
unfolding free
free_append [] ys = omega arith
free_append (x ∷ xs) ys = omega (arith, free_append xs ys)

-- all have their bytes where none is free
pub none_free : (cells : List ℕ) → all_taken cells ≡ eqb (free cells) 0
unfolding all_taken free
none_free [] = refl
none_free (cell ∷ cells) =
    choose (ltb cell not_yet)
    (λ has. let same : 0 + free cells ≡ free cells = omega arith in rw (has, same) (none_free cells))
    (λ lacks. rw (lacks, ne_eqb (1 + free cells) 0 (λ none. absurd (omega (arith, none)))) refl)

-- at first all are free
pub blank_free : (n : ℕ) → free (replicate n not_yet) ≡ n
unfolding free
blank_free zero = refl
blank_free (suc n) = omega (arith, blank_free n)

bytes_free : (bytes : List ℕ) → Bytes bytes → free bytes ≡ 0
unfolding free
bytes_free [] each = refl
bytes_free (byte ∷ bytes) each = rw (lt-ltb byte not_yet (each 0 (omega arith))) (omega (arith, bytes_free bytes (λ k inside. each (suc k) (omega arith))))

none_taken : (cells : List ℕ) → some_taken cells ≡ false → free cells ≡ length cells
unfolding some_taken free
none_taken [] none = refl
none_taken (cell ∷ cells) none =
    let (first, more) = neither (ltb cell not_yet) (some_taken cells) none in
    rw first (omega (arith, none_taken cells more))

-- bytes that are stored where all was free leave so many fewer
pub free_sets : (cells : List ℕ) (address : ℕ) (bytes : List ℕ) → Bytes bytes → address + length bytes ≤ length cells
    → some_taken (take (length bytes) (drop address cells)) ≡ false → free (sets cells address bytes) + length bytes ≡ free cells
free_sets cells address bytes each inside none =
    let front = take address cells in
    let middle = take (length bytes) (drop address cells) in
    let back = drop (address + length bytes) cells in
    let whole : cells ≡ front ++ (middle ++ back) =
    sym (take-append-drop address cells)
    ∙ ap (λ (l : List ℕ). front ++ l) (sym (take-append-drop (length bytes) (drop address cells)) ∙ ap (λ (l : List ℕ). middle ++ l) (drop-drop (length bytes) address cells)) in
    let before : free cells ≡ free front + (free middle + free back) =
    ap free whole ∙ free_append front (middle ++ back) ∙ ap (λ n. free front + n) (free_append middle back) in
    let after : free (sets cells address bytes) ≡ free front + free bytes + free back =
    ap free (sets-eq bytes cells address inside) ∙ free_append (front ++ bytes) back ∙ ap (λ n. n + free back) (free_append front bytes) in
    omega (arith, before, after, bytes_free bytes each, none_taken middle none, length-take (length bytes) (drop address cells), length-drop address cells)

-- one cell more was copied
pub copied_next : (image cells : List ℕ) (k : ℕ) → k < length image → k < length cells → take k image ≡ take k cells
    → take (k + 1) (set image k (get_or cells k 0)) ≡ take (k + 1) cells
copied_next image cells k more inside same =
    rw (add-one, take-suc-set image k (get_or cells k 0) more, take-suc cells k 0 inside, same) refl

-- the first of some blank cells
pub blank_front : (n m : ℕ) → n ≤ m → take n (replicate m not_yet) ≡ replicate n not_yet
blank_front zero m inside = refl
blank_front (suc n) zero inside = absurd (omega arith)
blank_front (suc n) (suc m) inside = ap (λ (cells : List ℕ). not_yet ∷ cells) (blank_front n m (omega arith))
