-- The lines of a text: where the first one ends, and that a text of one sign or more has one.
use Rattle.std.proofs.Common.{◌≡◌, ℕ, Bool, true, false, cond, ◌&&◌, eqb, ltb, ◌⊎◌, List, [], ◌∷◌, ◌++◌, get_or, drop, sym, refl, ap, ◌∙◌, subst, inl, inr, true≢false, arith, ne_eqb, eqb-true}
use mathlib.Core.Logic.{⊎_map}
use mathlib.Core.Bool.{and-false}
use mathlib.Core.List.{nil≢cons, head-eq_of_cons-eq, tail-eq_of_cons-eq}
use Rattle.intelhex.specs.Signs.{line_feed, carriage_return, colon, value_of}
use Rattle.intelhex.specs.Lines.{Line, line, onto, lines_of}
use Rattle.intelhex.specs.Faults.{all_digits, colon_and_digits}

-- the two values of a test
pub choose : {C : Type 0} (b : Bool) → (b ≡ true → C) → (b ≡ false → C) → C
choose true yes' no' = yes' refl
choose false yes' no' = no' refl

-- two tests that hold together hold each
pub both : (a b : Bool) → (a && b) ≡ true → (a ≡ true) × (b ≡ true)
both true b h = (refl, h)
both false b h = absurd (true≢false (sym h))

-- no sign is a line feed or a carriage return
abbrev pub Plain : List ℕ → Type 0
Plain [] = Unit
Plain (sign ∷ signs) = (sign ≡ line_feed → ⊥) × (sign ≡ carriage_return → ⊥) × Plain signs

-- plain signs before an end of line are its line
before_end : (signs text : List ℕ) (more : List Line) → Plain signs → lines_of text ≡ line [] true ∷ more
    → lines_of (signs ++ text) ≡ line signs true ∷ more
unfolding lines_of
before_end [] text more plain end = end
before_end (sign ∷ signs) text more plain end =
    rw (ne_eqb sign line_feed plain.0, ne_eqb sign carriage_return plain.1) (ap (onto sign) (before_end signs text more plain.2 end))

-- plain signs and a line feed are the first line
pub line_feed_lem : (signs rest : List ℕ) → Plain signs → lines_of (signs ++ line_feed ∷ rest) ≡ line signs true ∷ lines_of rest
unfolding lines_of
line_feed_lem signs rest plain = before_end signs (line_feed ∷ rest) (lines_of rest) plain refl

-- a carriage return before the line feed belongs to the end
pub line_return : (signs rest : List ℕ) → Plain signs → lines_of (signs ++ carriage_return ∷ line_feed ∷ rest) ≡ line signs true ∷ lines_of rest
unfolding lines_of
line_return signs rest plain = before_end signs (carriage_return ∷ line_feed ∷ rest) (lines_of rest) plain refl

-- there is a first line
abbrev pub Some : List Line → Type 0
Some lines = (first : Line) × (more : List Line) × (lines ≡ first ∷ more)

-- a sign put before some lines gives a first line, and so does a choice between lines that have one
onto_some : (sign : ℕ) (lines : List Line) → Some (onto sign lines)
onto_some sign [] = (_, _, refl)
onto_some sign (first ∷ more) = (_, _, refl)

cond_some : (b : Bool) (xs ys : List Line) → Some xs → Some ys → Some (cond b xs ys)
cond_some true xs ys x y = x
cond_some false xs ys x y = y

-- a text of one sign or more has a first line
pub some_line : (sign : ℕ) (text : List ℕ) → Some (lines_of (sign ∷ text))
unfolding lines_of
some_line sign [] =
    rw (and-false (eqb sign carriage_return)) (cond_some (eqb sign line_feed) _ _ (_, _, refl) (_, _, refl))
some_line sign (next ∷ text) =
    cond_some (eqb sign line_feed) _ _ (_, _, refl)
    (cond_some (eqb sign carriage_return && eqb next line_feed) _ _ (some_line next text) (onto_some sign (lines_of (next ∷ text))))

-- a text starts with some signs and the end of their line, and the other lines are those of the rest
abbrev pub Ended : List ℕ → List ℕ → List Line → Type 0
Ended text signs more =
    (rest : List ℕ) × ((text ≡ signs ++ line_feed ∷ rest) ⊎ (text ≡ signs ++ carriage_return ∷ line_feed ∷ rest)) × (more ≡ lines_of rest)

-- one sign more before the first line
ended_onto : (sign : ℕ) (text signs : List ℕ) (more lines : List Line) → ((xs : List ℕ) → lines ≡ line xs true ∷ more → Ended text xs more)
    → onto sign lines ≡ line signs true ∷ more → Ended (sign ∷ text) signs more
ended_onto sign text signs more [] shorter same = absurd (true≢false (sym (ap (λ (l : Line). l.ended) (head-eq_of_cons-eq same))))
ended_onto sign text signs more (first ∷ others) shorter same =
    let head : line (sign ∷ first.signs) first.ended ≡ line signs true = head-eq_of_cons-eq same in
    let shorts : Ended text first.signs more = shorter first.signs (λ t. line first.signs (head t).ended ∷ tail-eq_of_cons-eq same t) in
    subst (λ (xs : List ℕ). Ended (sign ∷ text) xs more) (ap (λ (l : Line). l.signs) head)
    (shorts.0, ⊎_map (ap (λ (xs : List ℕ). sign ∷ xs)) (ap (λ (xs : List ℕ). sign ∷ xs)) shorts.1, shorts.2)

-- the line is empty
ended_here : (text signs : List ℕ) (more : List Line) (rest : List ℕ) → ((text ≡ line_feed ∷ rest) ⊎ (text ≡ carriage_return ∷ line_feed ∷ rest))
    → line [] true ∷ lines_of rest ≡ line signs true ∷ more → Ended text signs more
ended_here text signs more rest starts same =
    subst (λ (xs : List ℕ). Ended text xs more) (ap (λ (l : Line). l.signs) (head-eq_of_cons-eq same))
    (rest, starts, sym (tail-eq_of_cons-eq same))

-- a text with a line feed first
feed_first : (text : List ℕ) → get_or text 0 0 ≡ line_feed → text ≡ line_feed ∷ drop 1 text
feed_first [] first = absurd (omega arith)
feed_first (sign ∷ text) first = ap (λ (s : ℕ). s ∷ text) first

-- a first line that is ended stands at the start of the text, before its end
pub ended_line : (text signs : List ℕ) (more : List Line) → lines_of text ≡ line signs true ∷ more → Ended text signs more
unfolding lines_of
ended_line [] signs more same = absurd (nil≢cons same)
ended_line (sign ∷ text) signs more same =
    choose (eqb sign line_feed)
    (λ t. ended_here (sign ∷ text) signs more text (inl (ap (λ (s : ℕ). s ∷ text) (eqb-true sign line_feed t))) (rw t at same))
    (λ f. choose (eqb sign carriage_return && eqb (get_or text 0 0) line_feed)
    (λ t.
    let starts : text ≡ line_feed ∷ drop 1 text = feed_first text (eqb-true _ _ (both (eqb sign carriage_return) _ t).1) in
    ended_here (sign ∷ text) signs more (drop 1 text) (inr (λ i. eqb-true sign carriage_return (both _ _ t).0 i ∷ starts i))
    (sym (ap lines_of starts) ∙ rw (f, t) at same))
    (λ g. ended_onto sign text signs more (lines_of text) (λ xs. ended_line text xs more) (rw (f, g) at same)))

-- a digit is neither a line feed nor a carriage return
plain_digits : (signs : List ℕ) → all_digits signs ≡ true → Plain signs
unfolding all_digits value_of
plain_digits [] digits = tt
plain_digits (sign ∷ signs) digits =
    let first : ltb (value_of sign) 16 ≡ true = (both _ _ digits).0 in
    (λ e. true≢false (sym (rw e at first)), λ e. true≢false (sym (rw e at first)), plain_digits signs (both (ltb (value_of sign) 16) _ digits).1)

-- and a colon is neither
pub digits_plain : (signs : List ℕ) → colon_and_digits signs ≡ true → Plain signs
unfolding colon_and_digits
digits_plain [] digits = tt
digits_plain (sign ∷ signs) digits =
    let first : sign ≡ colon = eqb-true sign colon (both _ _ digits).0 in
    (λ e. omega arith, λ e. omega arith, plain_digits signs (both (eqb sign colon) _ digits).1)
