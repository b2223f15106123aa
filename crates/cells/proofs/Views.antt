-- Laws of what a function can say of its work, cited wherever code is proved against a piece of work.
use Prim.Native.Nat.{ℕ, ◌+◌}
use mathlib.Core.Path.{◌≡◌, sym, ap, ◌∙◌}
use native.Mathlib.Nat.{add_assoc}
use lib.ListN.{length, length-append}
use Rattle.cells.specs.Chip.{Chip}
use Rattle.cells.specs.Run.{Run, Seen, seen, view, plus, ◌then◌, ◌giving◌}

-- work behind work
pub plus_plus : {A : Type 0} (w t x y : ℕ) (v : Seen A) → plus w t (plus x y v) ≡ plus (w + x) (t + y) v
plus_plus w t x y v = simp add_assoc

-- one piece and then another: what the second says, behind the first's writes and tries
pub view_then : {A B : Type 0} (r : Run A) (q : Run B) → view (r then q) ≡ plus (length r.log) r.tried (view q)
view_then r q = simp length-append

-- the same over what a function has said of its piece, `v`
module _ {A : Type 0} (r : Run A) {v : Seen A} (e : v ≡ view r) where
  -- and then another piece, on the chip as the first left it
  pub said_then : {B : Type 0} (q : Chip → Run B) → view (r then q r.after) ≡ plus v.writes v.tried (view (q v.after))
  said_then q = rw e (view_then r (q r.after))

  -- with another answer
  pub said_giving : {B : Type 0} (x : B) → view (r giving x) ≡ seen x v.writes v.tried v.after
  said_giving x = rw e

  -- its answer
  pub said_answer : {x : A} → v.answer ≡ x → r.answer ≡ x
  said_answer h = sym (ap (λ (w : Seen A). w.answer) e) ∙ h

  -- the chip afterwards
  pub said_after : v.after ≡ r.after
  said_after = ap (λ (w : Seen A). w.after) e
