-- Rows that are filled from the front, and images that stand one behind another.
--   filled_next   a row that has its first n entries gets the next one
--   next_inside   behind fewer images than there are stands a whole one
--   next_read     the answer of the next image goes to its place in both rows
use Prim.Native.Nat.{ℕ, zero, suc, ◌+◌, ◌-◌, ◌*◌, ◌≤◌, ◌<◌}
use mathlib.Core.Path.{◌≡◌, sym, ap, ◌∙◌}
use mathlib.Core.List.{List, [], ◌∷◌, ◌++◌}
use native.Mathlib.Nat.{add-zero, add-suc, suc-add, suc-mul, zero-add, le_of_suc-le-suc, mul-le-mul_right, add-sub_cancel_left}
use native.Mathlib.Numerals.{add-one}
use native.Mathlib.Omega.{arith}
use lib.ListN.{length, take, drop, set}
use Rattle.code.specs.Tabulate.{tabulate}
use Rattle.counter.specs.declared.verdict.Answer.{Answer}
use Rattle.dumps.specs.Tray.{image_at, filled, outcome, each_read}

module _ (entry : ℕ → ℕ) where
  set_next : (i n : ℕ) (row : List ℕ) → n < length row → set (tabulate entry i n ++ drop n row) n (entry (i + n)) ≡ tabulate entry i (suc n) ++ drop (suc n) row
  set_next i zero (x ∷ row) inside = rw (add-zero i)
  set_next i (suc n) (x ∷ row) inside = rw (add-suc i n, ← suc-add i n) (ap (◌∷◌ (entry i)) (set_next (suc i) n row (le_of_suc-le-suc inside)))
  set_next i n [] inside = absurd (omega arith)

  -- a row that has its first n entries gets the next one
  pub filled_next : (n : ℕ) (row : List ℕ) → n < length row → set (filled entry n row) n (entry n) ≡ filled entry (n + 1) row
  filled_next n row inside = rw (add-one) (ap (λ k. set (filled entry n row) n (entry k)) (sym (zero-add n)) ∙ set_next 0 n row inside)

-- behind fewer images than there are stands a whole one
pub next_inside : (each images done : ℕ) → done < images → done * each + each ≤ images * each
next_inside each images done fewer = omega (arith, suc-mul done each, mul-le-mul_right each fewer)

module _ (read : List ℕ → Answer) (each done : ℕ) (tray : List ℕ) {answer : Answer}
    (answers : answer ≡ read (take (done * each + each - done * each) (drop (done * each) tray))) where
  own : answer ≡ read (image_at each tray done)
  own = answers ∙ rw (add-sub_cancel_left (done * each) each)

  entered : (of : Answer → ℕ) (row : List ℕ) {filled_row : List ℕ} → filled_row ≡ filled (λ i. of (read (image_at each tray i))) done row
      → done < length row → set filled_row done (of answer) ≡ filled (λ i. of (read (image_at each tray i))) (done + 1) row
  entered of row before room =
      (λ i. set (before i) done (of (own i))) ∙ filled_next (λ i. of (read (image_at each tray i))) done row room

  -- the answer of the next image goes to its place in both rows
  pub next_read : (counts codes : List ℕ) {filled-counts filled-codes : List ℕ}
      → outcome 0 filled-counts filled-codes ≡ each_read read each done tray counts codes
      → done < length counts → done < length codes
      → outcome 0 (set filled-counts done answer.count) (set filled-codes done answer.code) ≡ each_read read each (done + 1) tray counts codes
  next_read counts codes rows counts-room codes-room = λ i.
      outcome 0 (entered (λ a. a.count) counts (λ j. (rows j).counts) counts-room i)
      (entered (λ a. a.code) codes (λ j. (rows j).codes) codes-room i)
