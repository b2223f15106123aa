-- The laws of runs that are read one after another: the 64 places that they are laid into, and the lines that are left.
use Prim.Native.Nat.{ℕ, zero, suc, ◌+◌, ◌-◌, ◌≤◌, ◌<◌}
use mathlib.Core.Path.{◌≡◌, refl, sym, ap, ◌∙◌}
use mathlib.Core.Bool.{true}
use mathlib.Core.List.{List, [], ◌∷◌, ◌++◌, flatten, append_assoc, append-nil}
use native.Mathlib.Decide.{dec_le, ℕ_discrete}
use native.Mathlib.Nat.{sub-zero}
use native.Mathlib.Omega.{arith}
use lib.ListN.{length, take, get_or, set, replicate, length-append, length-take, length-set, length-replicate, get_or-replicate, get_or-append, get_or-eq_default}
use lib.Seq.{take_all, take-take, take-append_seam, take-append-le, get_or-take, get_or-append-add, get_or-append_seam, get_or-set_same, get_or-set_other, ext_get_or}
use Rattle.text.specs.Reading.{Found, Nowhere}
use Rattle.counter.proofs.RangeTests.{both_hold, hold_both}
use Rattle.card.specs.Cards.{run_texts, is_speed, all_speeds}
use Rattle.card.specs.Doors.{in_places}
use Rattle.card.specs.Inside.{run_form, IsRun, rows_form, AreRuns}
use Rattle.card.proofs.ReadLaws.{run_ends}

-- the places of a row: 64, the first of them the row's
length_places : (row : List ℕ) → length (in_places row) ≡ 64
unfolding in_places
length_places row = omega (arith, length-take 64 (row ++ replicate 64 0), length-append row (replicate 64 0), length-replicate {A = ℕ} 64 0)

place_at : (row : List ℕ) (k : ℕ) → k < 64 → get_or (in_places row) k 0 ≡ get_or row k 0
unfolding in_places
place_at row k inside = get_or-take 64 (row ++ replicate 64 0) k 0 inside ∙ elim (dec_le (length row) k) [
  | yes past ↦
      let here : k ≡ length row + (k - length row) = omega arith in
      ap (λ i. get_or (row ++ replicate 64 0) i 0) here
      ∙ get_or-append-add row (replicate 64 0) (k - length row) 0
      ∙ get_or-replicate 64 (k - length row) 0 0 (omega arith)
      ∙ sym (get_or-eq_default row 0 past)
  | no not_past ↦ get_or-append row (replicate 64 0) 0 k (omega arith)
]

-- the places of a short row, and of a long one
pub row_in : (row : List ℕ) → length row ≤ 64 → take (length row) (in_places row) ≡ row
unfolding in_places
row_in row few = take-take (length row) 64 (row ++ replicate 64 0) few ∙ take-append_seam row (replicate 64 0)

pub row_past : (runs : ℕ) (row : List ℕ) → 64 ≤ length row → 64 ≤ runs → take runs (in_places row) ≡ take 64 row
unfolding in_places
row_past runs row many past =
    take_all runs (in_places row) (omega (arith, length_places row)) ∙ take-append-le 64 row (replicate 64 0) many

-- one more, where there is a place for it
places_more : (row : List ℕ) (value : ℕ) → set (in_places row) (length row) value ≡ in_places (row ++ (value ∷ []))
places_more row value =
    ext_get_or 0 (set (in_places row) (length row) value) (in_places (row ++ (value ∷ [])))
    (length-set (in_places row) (length row) value ∙ length_places row ∙ sym (length_places (row ++ (value ∷ []))))
    (λ k inside.
    let inside' : k < 64 = omega (arith, inside, length-set (in_places row) (length row) value, length_places row) in
    at k inside' (ℕ_discrete k (length row)) ∙ sym (place_at (row ++ (value ∷ [])) k inside'))
  where
    past_both : (k : ℕ) → (k ≡ length row → ⊥) → length row ≤ k → length (row ++ (value ∷ [])) ≤ k
    past_both k other past = omega (arith, length-append row (value ∷ []))

    at : (k : ℕ) → k < 64 → Dec (k ≡ length row) → get_or (set (in_places row) (length row) value) k 0 ≡ get_or (row ++ (value ∷ [])) k 0
    at k inside (yes same) =
        rw same
        (get_or-set_same (in_places row) (length row) value 0 (omega (arith, same, length_places row)) ∙ sym (get_or-append_seam row value [] 0))
    at k inside (no other) =
        get_or-set_other (in_places row) (length row) k value 0 other ∙ place_at row k inside ∙ elim (dec_le (length row) k) [
          | yes past ↦ get_or-eq_default row 0 past ∙ sym (get_or-eq_default (row ++ (value ∷ [])) 0 (past_both k other past))
          | no not_past ↦ sym (get_or-append row (value ∷ []) 0 k (omega arith))
        ]

-- the first of some runs, and the others
pub first_are : (runs : ℕ) {speed turn : ℕ} {speeds turns : List ℕ} → AreRuns (suc runs) (speed ∷ speeds, turn ∷ turns)
    → IsRun (speed, turn) × AreRuns runs (speeds, turns)
unfolding all_speeds
first_are runs {speed} {turn} {speeds} {turns} are =
    let (right, rest) = both_hold (is_speed speed) (all_speeds speeds) are.right in (
      (right, are.small 0),
      record { speeds = omega (arith, are.speeds); turns = omega (arith, are.turns); right = rest; small = λ k. are.small (suc k) },
    )

pub first_form : (speed turn : ℕ) (speeds turns rest : List ℕ)
    → rows_form (speed ∷ speeds, turn ∷ turns) ++ rest ≡ run_form (speed, turn) ++ (rows_form (speeds, turns) ++ rest)
unfolding run_texts flatten
first_form speed turn speeds turns rest = append_assoc (run_form (speed, turn)) (rows_form (speeds, turns)) rest

-- the first of some speeds
pub speeds_take : (n : ℕ) (speeds : List ℕ) → all_speeds speeds ≡ true → all_speeds (take n speeds) ≡ true
unfolding all_speeds
speeds_take zero speeds all = refl
speeds_take (suc n) [] all = refl
speeds_take (suc n) (speed ∷ speeds) all =
    let (right, rest) = both_hold (is_speed speed) (all_speeds speeds) all in
    hold_both (is_speed speed) (all_speeds (take n speeds)) right (speeds_take n speeds rest)

-- one run behind others
speeds_more : (speeds : List ℕ) (speed : ℕ) → all_speeds speeds ≡ true → is_speed speed ≡ true → all_speeds (speeds ++ (speed ∷ [])) ≡ true
unfolding all_speeds
speeds_more [] speed all right = rw right
speeds_more (first ∷ speeds) speed all right =
    let (is, rest) = both_hold (is_speed first) (all_speeds speeds) all in
    hold_both (is_speed first) (all_speeds (speeds ++ (speed ∷ []))) is (speeds_more speeds speed rest right)

small_more : (row : List ℕ) (value : ℕ) → ((k : ℕ) → get_or row k 0 < 4294967296) → value < 4294967296 → (k : ℕ) → get_or (row ++ (value ∷ [])) k 0 < 4294967296
small_more [] value each small zero = small
small_more [] value each small (suc k) = omega arith
small_more (first ∷ row) value each small zero = each 0
small_more (first ∷ row) value each small (suc k) = small_more row value (λ k. each (suc k)) small k

texts_more : (speeds turns : List ℕ) (speed turn : ℕ) → length turns ≡ length speeds
    → flatten (run_texts (speeds ++ (speed ∷ [])) (turns ++ (turn ∷ []))) ≡ flatten (run_texts speeds turns) ++ run_form (speed, turn)
unfolding run_texts flatten
texts_more [] [] speed turn even = append-nil (run_form (speed, turn))
texts_more [] (other ∷ turns) speed turn even = absurd (omega arith)
texts_more (first ∷ speeds) [] speed turn even = absurd (omega arith)
texts_more (first ∷ speeds) (other ∷ turns) speed turn even =
    ap (λ l. run_form (first, other) ++ l) (texts_more speeds turns speed turn (omega arith)) ∙ sym (append_assoc (run_form (first, other)) (flatten (run_texts speeds turns)) (run_form (speed, turn)))

abbrev with_run : List ℕ × List ℕ → ℕ × ℕ → List ℕ × List ℕ
with_run (speeds, turns) (speed, turn) = (speeds ++ (speed ∷ []), turns ++ (turn ∷ []))

are_more : (runs : ℕ) (rows : List ℕ × List ℕ) (run : ℕ × ℕ) → AreRuns runs rows → IsRun run → AreRuns (runs + 1) (with_run rows run)
are_more runs (speeds, turns) (speed, turn) are (right, small) = record {
  speeds = omega (arith, are.speeds, length-append speeds (speed ∷ []));
  turns = omega (arith, are.turns, length-append turns (turn ∷ []));
  right = speeds_more speeds speed are.right right;
  small = small_more turns turn are.small small;
}

-- so many of the runs were read: those stand before what is left of the text, laid into their places, and whatever runs stand there, all
-- but these stand behind it
pub record Passed (text : List ℕ) (runs done : ℕ) (left speeds turns : List ℕ) : Type 0 where
  pub rows : List ℕ × List ℕ
  pub are : AreRuns done rows
  pub stands : text ≡ rows_form rows ++ left
  pub behind : (all : List ℕ × List ℕ) → AreRuns runs all → (rest : List ℕ) → text ≡ rows_form all ++ rest
      → (others : List ℕ × List ℕ) × AreRuns (runs - done) others × (left ≡ rows_form others ++ rest)
  pub speeds_laid : speeds ≡ in_places rows.0
  pub turns_laid : turns ≡ in_places rows.1

-- none at first
pub passed_none : {text : List ℕ} (runs : ℕ) → Passed text runs 0 text (in_places []) (in_places [])
unfolding run_texts flatten all_speeds
passed_none runs = record {
  rows = ([], []);
  are = record { speeds = refl; turns = refl; right = refl; small = λ k. omega arith };
  stands = refl;
  behind = λ all are rest is. (all, rw (sub-zero runs) are, is);
  speeds_laid = refl;
  turns_laid = refl;
}

module _ {text : List ℕ} {runs done : ℕ} {left speeds turns : List ℕ} (passed : Passed text runs done left speeds turns) where
  -- one more is left, the first of those that stand behind
  next_run : done < runs → (all : List ℕ × List ℕ) → AreRuns runs all → (rest : List ℕ) → text ≡ rows_form all ++ rest
      → (run : ℕ × ℕ) × (others : List ℕ × List ℕ) × IsRun run × AreRuns (runs - (done + 1)) others × (left ≡ run_form run ++ (rows_form others ++ rest))
  next_run more all are rest is =
      let (these, are-left, stands) = passed.behind all are rest is in
      let one : runs - done ≡ suc (runs - (done + 1)) = omega arith in
      first these (rw one at are-left) stands
    where
      first : (these : List ℕ × List ℕ) → AreRuns (suc (runs - (done + 1))) these → left ≡ rows_form these ++ rest
          → (run : ℕ × ℕ) × (others : List ℕ × List ℕ) × IsRun run × AreRuns (runs - (done + 1)) others × (left ≡ run_form run ++ (rows_form others ++ rest))
      first ([], turns) are stands = absurd (omega (arith, are.speeds))
      first (speed ∷ speeds, []) are stands = absurd (omega (arith, are.turns))
      first (speed ∷ speeds, turn ∷ turns) are stands =
          let (right, others) = first_are (runs - (done + 1)) are in
          ((speed, turn), (speeds, turns), right, others, stands ∙ first_form speed turn speeds turns rest)

  module _ (more : done < runs) where
    -- no run stands there
    pub passed_stuck : Nowhere run_form IsRun left → Nowhere rows_form (AreRuns runs) text
    passed_stuck nowhere = record {
      none = λ all are rest is.
          let (run, others, right, _, stands) = next_run more all are rest is in
          nowhere.none run right (rows_form others ++ rest) stands;
    }

    -- a run stands there
    pub passed_more : {run : ℕ × ℕ} {past : List ℕ} → Found run_form IsRun left run past
        → Passed text runs (done + 1) past (set speeds done run.0) (set turns done run.1)
    passed_more {run} {past} found =
        let (speeds-before, turns-before) = passed.rows in
        let form = texts_more speeds-before turns-before run.0 run.1 (passed.are.turns ∙ sym passed.are.speeds) in
        record {
          rows = with_run passed.rows run;
          are = are_more done passed.rows run passed.are found.right;
          stands = passed.stands
              ∙ ap (λ l. rows_form passed.rows ++ l) found.stands
              ∙ sym (append_assoc (rows_form passed.rows) (run_form run) past)
              ∙ ap (λ l. l ++ past) (sym form);
          behind = λ all are rest is. past_run rest (next_run more all are rest is);
          speeds_laid = ap (λ l. set l done run.0) passed.speeds_laid ∙ rw (sym passed.are.speeds) (places_more speeds-before run.0);
          turns_laid = ap (λ l. set l done run.1) passed.turns_laid ∙ rw (sym passed.are.turns) (places_more turns-before run.1);
        }
      where
        past_run : (rest : List ℕ)
            → (other : ℕ × ℕ) × (others : List ℕ × List ℕ) × IsRun other × AreRuns (runs - (done + 1)) others × (left ≡ run_form other ++ (rows_form others ++ rest))
            → (others : List ℕ × List ℕ) × AreRuns (runs - (done + 1)) others × (past ≡ rows_form others ++ rest)
        past_run rest (other, others, right, are, is) =
            (others, are, (run_ends.same run other past (rows_form others ++ rest) found.right right (sym found.stands ∙ is)).1)
