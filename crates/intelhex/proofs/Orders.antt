-- The records of a text that is read may stand in any order.
use Rattle.std.proofs.Common.{◌≡◌, ℕ, suc, ◌<◌, true, false, List, [], ◌∷◌, ◌++◌, length, get_or, sym, refl, ap, ◌∙◌, arith, length-append, ext_get_or}
use lib.ListN.{get_or-append}
use Rattle.intelhex.specs.declared.Answer.{Answer}
use Rattle.intelhex.specs.Lines.{Line, line, lines_of}
use Rattle.intelhex.specs.Doors.{outcome, read_of}
use Rattle.intelhex.specs.Covered.{has, how_often}
use Rattle.intelhex.proofs.LineLaws.{choose}
use Rattle.intelhex.proofs.ReadLaws.{read_bytes}
use Rattle.intelhex.proofs.Covered.{each, Left, holds_byte}
use Rattle.intelhex.proofs.Goods.{Good, GoodEnd, Every, GoodText, often_append, good_parts, good_text, read_good}

-- the same lines in another order: the first one stands somewhere among the others
abbrev pub Reordered : List Line → List Line → Type 0
Reordered [] others = others ≡ []
Reordered (line ∷ lines) others = (front : List Line) × (back : List Line) × (others ≡ front ++ line ∷ back) × Reordered lines (front ++ back)

-- they have an address as often
often_reordered : (a : ℕ) (lines others : List Line) → Reordered lines others → how_often a others ≡ how_often a lines
unfolding how_often
often_reordered a [] others none = rw none refl
often_reordered a (line ∷ lines) others (front, back, split, more) =
    rw split
    (omega (arith, often_append a front (line ∷ back), often_append a front back, often_reordered a lines (front ++ back) more))

module _ (P : Line → Type 0) where
  -- what holds of every line holds with one more among them
  every_among : (line : Line) (front back : List Line) → P line → Every P (front ++ back) → Every P (front ++ line ∷ back)
  every_among line [] back here all = each P line back here all
  every_among line (first ∷ front) back here all =
      each P first (front ++ line ∷ back) (all 0 (omega arith)) (every_among line front back here (λ k inside. all (suc k) (omega arith)))

  -- and so in another order
  every_reordered : (lines others : List Line) → Every P lines → Reordered lines others → Every P others
  every_reordered [] others all none = rw none all
  every_reordered (line ∷ lines) others all (front, back, split, more) =
      rw split
      (every_among line front back (all 0 (omega arith))
      (every_reordered lines (front ++ back) (λ k inside. all (suc k) (omega arith)) more))

  -- and of the first ones
  every_front : (lines others : List Line) → Every P (lines ++ others) → Every P lines
  every_front lines others all k inside =
      rw (get_or-append lines others (line [] false) k inside) at (all k (omega (arith, inside, length-append lines others)))

-- an address that lines have once is one of a line
one_has : (a : ℕ) (lines : List Line) → how_often a lines ≡ 1
    → (k : ℕ) × (k < length lines) × (has a (get_or lines k (line [] false)).signs ≡ true)
unfolding how_often
one_has a [] once = absurd (omega arith)
one_has a (line ∷ lines) once =
    choose (has a line.signs) (λ hit. (0, omega arith, hit))
    (λ miss. let (k, inside, hit) = one_has a lines (omega (arith, rw miss at once)) in (suc k, omega (arith, inside), hit))

-- the bytes of every line are left in the image
lines_left : (text before : List ℕ) (lines : List Line) (last : Line) → lines_of text ≡ lines ++ (last ∷ [])
    → (read_of text before).answer.code ≡ 0 → (a : ℕ) → Every (Left (read_of text before).left a) lines
lines_left text before lines last split fine a =
    every_front (Left (read_of text before).left a) lines (last ∷ []) (rw split at (holds_byte text before fine a))

-- where a text is read, a text of the same data lines in another order, and a good end record, is read as the same image
pub any_order : (text other before : List ℕ) (lines others : List Line) (last end : Line) → lines_of text ≡ lines ++ (last ∷ [])
    → lines_of other ≡ others ++ (end ∷ []) → Reordered lines others → GoodEnd end → (read_of text before).answer.code ≡ 0
    → read_of other before ≡ read_of text before
any_order text other before lines others last end split parts order closing fine =
    let (goods, same, once) = good_parts text before fine lines last split in
    let (long, least, most, bytes) = read_bytes text before fine in
    let again : (a : ℕ) → a < length before → how_often a others ≡ 1 = λ a inside. often_reordered a lines others order ∙ once a inside in
    let good : GoodText (length before) (lines_of other) = record {
      front = others;
      last = end;
      split = parts;
      end = closing;
      once = again;
      goods = every_reordered (Good (length before)) lines others goods order;
    } in
    let says = good_text other before least most good in
    let read : (read_of other before).answer.code ≡ 0 = ap (λ (x : Answer). x.code) says in
    let (other-long, _, _, _) = read_bytes other before read in
    let equal = ext_get_or 0 (read_of other before).left (read_of text before).left (other-long ∙ sym long)
    (λ a inside.
    let (k, near, hit) = one_has a others (again a (omega (arith, other-long, inside))) in
    lines_left other before others end parts read a k near hit
    ∙ sym (every_reordered (Left (read_of text before).left a) lines others (lines_left text before lines last split fine a) order k near hit)) in
    let answers = says ∙ sym (good_text text before least most (read_good text before fine)) in
    λ t. outcome (answers t) (equal t)
