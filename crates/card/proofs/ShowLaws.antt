-- What a text shows: the whole of a card as one form, which ends by itself, so that no text shows two cards.
use Prim.Native.Nat.{ℕ, zero, suc, ◌≤◌}
use mathlib.Core.Path.{◌≡◌, refl, sym, ap, ◌∙◌}
use mathlib.Core.List.{List, [], ◌∷◌, ◌++◌, append-nil, flatten}
use native.Mathlib.Omega.{arith}
use borrow.Author.Tests.{eq-eqb}
use lib.ListN.{length, drop_of_length-le}
use Rattle.std.specs.Prelude.{Some, None}
use Rattle.text.specs.Reading.{Found, Nowhere, both, Both}
use Rattle.text.proofs.Forms.{Ends, ends_then, found_then, nowhere_first, nowhere_then}
use Rattle.counter.proofs.RangeTests.{hold_both}
use Rattle.card.specs.Cards.{Card, card, run_texts, text_of, Shows}
use Rattle.card.specs.Doors.{laid_out, Told, shown as told_shown}
use Rattle.card.specs.Inside.{head_form, SmallHead, rows_form, AreRuns, RowsAt}
use Rattle.card.proofs.RunLaws.{in_form_lem}
use Rattle.card.proofs.ReadLaws.{head_ends, run_ends}
use Rattle.card.proofs.RowLaws.{first_are, first_form}

-- so many runs end by themselves
rows_same : (runs : ℕ) (rows others : List ℕ × List ℕ) (xs ys : List ℕ) → AreRuns runs rows → AreRuns runs others
    → rows_form rows ++ xs ≡ rows_form others ++ ys → (rows ≡ others) × (xs ≡ ys)
unfolding run_texts flatten
rows_same zero ([], []) ([], []) xs ys are are' is = (refl, is)
rows_same zero ([], turn ∷ turns) others xs ys are are' is = absurd (omega (arith, are.turns))
rows_same zero (speed ∷ speeds, turns) others xs ys are are' is = absurd (omega (arith, are.speeds))
rows_same zero ([], []) ([], turn ∷ turns) xs ys are are' is = absurd (omega (arith, are'.turns))
rows_same zero ([], []) (speed ∷ speeds, turns) xs ys are are' is = absurd (omega (arith, are'.speeds))
rows_same (suc runs) ([], turns) others xs ys are are' is = absurd (omega (arith, are.speeds))
rows_same (suc runs) (speed ∷ speeds, []) others xs ys are are' is = absurd (omega (arith, are.turns))
rows_same (suc runs) (speed ∷ speeds, turn ∷ turns) ([], turns') xs ys are are' is = absurd (omega (arith, are'.speeds))
rows_same (suc runs) (speed ∷ speeds, turn ∷ turns) (speed' ∷ speeds', []) xs ys are are' is = absurd (omega (arith, are'.turns))
rows_same (suc runs) (speed ∷ speeds, turn ∷ turns) (speed' ∷ speeds', turn' ∷ turns') xs ys are are' is =
    let (right, rest) = first_are runs are in
    let (right', rest') = first_are runs are' in
    let (same, behind) =
    run_ends.same (speed, turn) (speed', turn') (rows_form (speeds, turns) ++ xs) (rows_form (speeds', turns') ++ ys) right right'
    (sym (first_form speed turn speeds turns xs) ∙ is ∙ first_form speed' turn' speeds' turns' ys) in
    let (sames, end) = rows_same runs (speeds, turns) (speeds', turns') xs ys rest rest' behind in
    ((λ i. ((same i).0 ∷ (sames i).0, (same i).1 ∷ (sames i).1)), end)

rows_end : (runs : ℕ) → Ends rows_form (AreRuns runs)
rows_end runs = record { same = rows_same runs }

-- a card in parts, one behind another
abbrev Parts : Type 0
Parts = ((ℕ × ℕ) × ℕ) × (List ℕ × List ℕ)

abbrev parts_of : Card → Parts
parts_of c = (((c.fitted, c.allowed), length c.speeds), (c.speeds, c.turns))

abbrev whole_form : Parts → List ℕ
whole_form = both head_form (λ head. rows_form)

abbrev Whole : Parts → Type 0
Whole = Both SmallHead (λ head. AreRuns head.1)

whole_ends : Ends whole_form Whole
whole_ends = ends_then head_form SmallHead (λ head. rows_form) (λ head. AreRuns head.1) head_ends (λ head. rows_end head.1)

-- what a text that shows a card is
whole_shown : {text : List ℕ} {c : Card} → Shows text c → Whole (parts_of c) × (text ≡ whole_form (parts_of c) ++ [])
unfolding text_of
whole_shown {text} {c} shows =
    let (even, all) = in_form_lem c shows.formed in
    let fits = shows.fits in (
      (
        ((fits.fitted, fits.allowed), fits.runs),
        record { speeds = refl; turns = even; right = all; small = fits.turns },
      ),
      shows.written ∙ sym (append-nil (text_of c)),
    )

text_form : (fitted allowed runs : ℕ) (rows : List ℕ × List ℕ) → length rows.0 ≡ runs
    → whole_form (((fitted, allowed), runs), rows) ≡ text_of (card fitted allowed rows.0 rows.1)
unfolding text_of
text_form fitted allowed runs rows same = rw same

-- no text shows two cards
pub shows_one : {text : List ℕ} {c d : Card} → Shows text c → Shows text d → c ≡ d
shows_one {text} {c} {d} one two =
    let (first, is) = whole_shown one in
    let (second, is') = whole_shown two in
    ap (λ (p : Parts). card p.0.0.0 p.0.0.1 p.1.0 p.1.1) (whole_ends.same (parts_of c) (parts_of d) [] [] first second (sym is ∙ is')).0

-- a text that shows no card: it does not begin with the lines before the runs
pub headless : {text : List ℕ} → Nowhere head_form SmallHead text → (c : Card) → Shows text c → ⊥
headless nowhere c shows =
    let (whole, is) = whole_shown shows in
    (nowhere_first head_form SmallHead (λ head. rows_form) (λ head. AreRuns head.1) nowhere).none (parts_of c) whole [] is

module _ {text : List ℕ} {fitted allowed runs : ℕ} {behind : List ℕ} (head : Found head_form SmallHead text ((fitted, allowed), runs) behind) where
  -- or not so many runs stand behind these
  pub runless : Nowhere rows_form (AreRuns runs) behind → (c : Card) → Shows text c → ⊥
  runless nowhere c shows =
      let (whole, is) = whole_shown shows in
      (nowhere_then head_form SmallHead (λ head. rows_form) (λ head. AreRuns head.1) head head_ends nowhere).none (parts_of c) whole [] is

  module _ {rest speeds turns : List ℕ} (read : RowsAt behind runs rest speeds turns) where
    whole_found : Found whole_form Whole text (((fitted, allowed), runs), read.rows) rest
    whole_found = found_then head_form SmallHead (λ head. rows_form) (λ head. AreRuns head.1) head read.found

    -- or more stands behind the runs
    pub not_all : (length rest ≡ 0 → ⊥) → (c : Card) → Shows text c → ⊥
    not_all more c shows =
        let (whole, is) = whole_shown shows in
        let end = (whole_ends.same (((fitted, allowed), runs), read.rows) (parts_of c) rest [] whole_found.right whole (sym whole_found.stands ∙ is)).1 in
        more (ap length end)

    -- all of the text was read, and it shows the card
    pub all_read : length rest ≡ 0
        → Told text (λ c. Some (laid_out c)) None (Some (record { fitted = fitted; allowed = allowed; runs = runs; speeds = speeds; turns = turns }))
    all_read end =
        let are = read.found.right in
        let short : length rest ≤ 0 = omega arith in
        let none : rest ≡ [] = drop_of_length-le rest short in
        told_shown (card fitted allowed read.rows.0 read.rows.1)
        (record {
          formed = hold_both _ _ (eq-eqb _ _ (are.turns ∙ sym are.speeds)) are.right;
          fits = record { fitted = head.right.0.0; allowed = head.right.0.1; runs = rw are.speeds head.right.1; turns = are.small };
          written = whole_found.stands ∙ ap (λ l. whole_form (((fitted, allowed), runs), read.rows) ++ l) none ∙ append-nil _ ∙ text_form fitted allowed runs read.rows are.speeds;
        })
        (λ i. Some (record { fitted = fitted; allowed = allowed; runs = sym are.speeds i; speeds = read.speeds_laid i; turns = read.turns_laid i }))
