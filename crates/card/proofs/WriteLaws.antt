-- The laws of writing a card: how long its lines are, and what writing it leaves.
use Prim.Native.Nat.{ℕ, suc, ◌+◌, ◌*◌, ◌/◌, ◌^◌, ◌≤◌, ◌<◌}
use mathlib.Core.Path.{◌≡◌, refl, sym, ap, ◌∙◌}
use mathlib.Core.Bool.{Bool, true, false, ◌||◌, true≢false}
use mathlib.Core.List.{List, [], ◌∷◌, ◌++◌, flatten}
use native.Mathlib.Omega.{arith}
use borrow.Author.Tests.{eqb-true, lt-ltb, le-ltb, eq-eqb, ne_eqb}
use lib.Dec.{eqb, lit<, lit≤}
use native.Mathlib.Nat.{zero-add}
use native.Mathlib.Numerals.{add-one}
use lib.ListN.{length, drop, get_or, length-append}
use lib.Seq.{drop-cons}
use Rattle.text.specs.Text.{bytes_of, decimal, Wrote}
use Rattle.std.proofs.lemmas.List.Sums.{sum_by-cons}
use Rattle.text.proofs.Decimals.{length_small, length_more, length_u32}
use Rattle.text.proofs.Writing.{length_line}
use Rattle.card.specs.Cards.{Card, fitted_line, allowed_line, runs_line, speed_line, turns_line, head_text, run_text, run_texts, text_of, is_speed, all_speeds, formed}
use Rattle.card.specs.Answers.{fault_of}
use Rattle.card.specs.Doors.{outcome, copied, write_of}
use Rattle.card.specs.Inside.{run_length, runs_length}
use Rattle.counter.proofs.RangeTests.{both_hold}
use Rattle.card.proofs.RunLaws.{length_texts, text_at, in_form_lem}

-- a speed is one of two
pub two_speeds : (P : ℕ → Type 0) (speed : ℕ) → is_speed speed ≡ true → P 33 → P 45 → P speed
two_speeds P speed is slow fast = go (eqb speed 33) (eqb speed 45) refl refl is
  where
    go : (a b : Bool) → eqb speed 33 ≡ a → eqb speed 45 ≡ b → a || b ≡ true → P speed
    go true b first second is = rw (eqb-true speed 33 first) slow
    go false true first second is = rw (eqb-true speed 45 second) fast
    go false false first second is = absurd (true≢false (sym is))

-- how long the lines before the runs are, those of a run, and those of all runs
pub head_lines : (fitted allowed runs : ℕ) → length (head_text fitted allowed runs) ≡ length (fitted_line fitted) + length (allowed_line allowed) + length (runs_line runs)
head_lines fitted allowed runs = simp length-append

pub length_head : (fitted allowed runs : ℕ) → length (head_text fitted allowed runs) ≡ 23 + length (decimal fitted) + length (decimal allowed) + length (decimal runs)
length_head fitted allowed runs =
    omega (
      arith,
      head_lines fitted allowed runs,
      length_line (bytes_of "fitted") (decimal fitted),
      length_line (bytes_of "allowed") (decimal allowed),
      length_line (bytes_of "runs") (decimal runs),
    )

pub run_lines : (speed turns : ℕ) → length (run_text speed turns) ≡ length (speed_line speed) + length (turns_line turns)
run_lines speed turns = length-append (speed_line speed) (turns_line turns)

two_digits_lem : (speed : ℕ) → is_speed speed ≡ true → length (decimal speed) ≡ 2
two_digits_lem speed is = two_speeds (λ s. length (decimal s) ≡ 2) speed is (two 33 (lit≤ tt) (lit< tt)) (two 45 (lit≤ tt) (lit< tt))
  where
    two : (n : ℕ) → 10 ≤ n → n < 100 → length (decimal n) ≡ 2
    two n low high = omega (arith, length_more n low, length_small (n / 10) (omega arith))

length_run : (speed turns : ℕ) → is_speed speed ≡ true → length (run_text speed turns) ≡ run_length turns
length_run speed turns is =
    omega (
      arith,
      run_lines speed turns,
      length_line (bytes_of "speed") (decimal speed),
      length_line (bytes_of "turns") (decimal turns),
      two_digits_lem speed is,
    )

length_runs : (speeds turns : List ℕ) → all_speeds speeds ≡ true → length turns ≡ length speeds → length (flatten (run_texts speeds turns)) ≡ runs_length turns
unfolding run_texts flatten all_speeds
length_runs [] [] all even = refl
length_runs [] (turn ∷ turns) all even = absurd (omega arith)
length_runs (speed ∷ speeds) [] all even = absurd (omega arith)
length_runs (speed ∷ speeds) (turn ∷ turns) all even =
    let (right, rest) = both_hold (is_speed speed) (all_speeds speeds) all in
    omega (
      arith,
      length-append (run_text speed turn) (flatten (run_texts speeds turns)),
      length_run speed turn right,
      length_runs speeds turns rest (omega arith),
      sum_by-cons run_length turn turns,
    )

pub text_lines : (c : Card)
    → length (text_of c) ≡ length (head_text c.fitted c.allowed (length c.speeds)) + length (flatten (run_texts c.speeds c.turns))
unfolding text_of
text_lines c = length-append (head_text c.fitted c.allowed (length c.speeds)) (flatten (run_texts c.speeds c.turns))

-- how long the text of a card in form is
pub length_text : (c : Card) → formed c ≡ true
    → length (text_of c) ≡ length (head_text c.fitted c.allowed (length c.speeds)) + runs_length c.turns
length_text c form =
    let (even, all) = in_form_lem c form in
    omega (arith, text_lines c, length_runs c.speeds c.turns all even)

-- no more than 36 signs for a run
pub lengths_most : (turns : List ℕ) → ((k : ℕ) → get_or turns k 0 < 2 ^ 32) → runs_length turns ≤ length turns * 36
lengths_most [] small = omega arith
lengths_most (turn ∷ turns) small =
    omega (arith, sum_by-cons run_length turn turns, length_u32 turn (small 0), lengths_most turns (λ k. small (suc k)))

-- the lines of the runs that are left, those of the next one first
pub lines_next : (speeds turns : List ℕ) (at : ℕ) → length turns ≡ length speeds → at < length speeds
    → length (flatten (drop at (run_texts speeds turns)))
    ≡ length (run_text (get_or speeds at 0) (get_or turns at 0)) + length (flatten (drop (at + 1) (run_texts speeds turns)))
unfolding flatten
lines_next speeds turns at even inside =
    let inside' : at < length (run_texts speeds turns) = omega (arith, length_texts speeds turns even) in
    rw (drop-cons (run_texts speeds turns) at [] inside', text_at speeds turns at even inside, add-one)
    (length-append (run_text (get_or speeds at 0) (get_or turns at 0)) (flatten (drop (suc at) (run_texts speeds turns))))

-- a whole text written at the start of a lent one, or no room for it
module _ (whole text : List ℕ) where
  pub copied_short : length text < length whole → outcome 6 0 text ≡ copied whole text
  unfolding copied
  copied_short short = rw (lt-ltb (length text) (length whole) short)

  pub copied_whole : {after : List ℕ} {next : ℕ} → length whole ≤ length text → Wrote text 0 whole next after → outcome 0 next after ≡ copied whole text
  unfolding copied
  copied_whole room wrote =
      rw (le-ltb (length text) (length whole) room)
      (λ i. outcome 0 ((wrote.ends ∙ zero-add (length whole)) i) ((wrote.holds ∙ ap (λ n. whole ++ drop n text) (zero-add (length whole))) i))

-- the whole is written, or the card is refused
module _ (runs : ℕ) (c : Card) (text : List ℕ) {code : ℕ} (is : code ≡ fault_of runs c) where
  pub write_refused : (code ≡ 0 → ⊥) → outcome code 0 text ≡ write_of runs c text
  unfolding write_of
  write_refused fault = rw (ne_eqb (fault_of runs c) 0 (λ none. fault (is ∙ none))) (ap (λ n. outcome n 0 text) is)

  pub write_copied : code ≡ 0 → copied (text_of c) text ≡ write_of runs c text
  unfolding write_of
  write_copied none = rw (eq-eqb (fault_of runs c) 0 (sym is ∙ none))
