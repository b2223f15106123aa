-- Laws of work that may be cut.
--   Starts                    a log starts with another
--   cut_enough, cut_then, cut_first  power for every write, for all of a first piece, or not even for that
--   Left, left_..             what is left of a piece of work, behind so many writes and tries
--   said_..                   the same over what a function has said of a first piece
--   said_plain                with power for every write it has said it of the plain work
--   says_one                  there is one way to say it
use Prim.Native.Nat.{ℕ, zero, suc, ◌+◌, ◌-◌, ◌≤◌}
use mathlib.Core.Path.{◌≡◌, refl, sym, ap, ◌∙◌}
use mathlib.Core.Bool.{true≢false}
use mathlib.Core.List.{List, [], ◌∷◌, ◌++◌, append-nil}
use native.Mathlib.Nat.{sub-zero, zero-add, add-zero}
use native.Mathlib.Omega.{arith}
use lib.ListN.{length}
use Rattle.cells.specs.Chip.{Chip, write_at}
use Rattle.cells.specs.Run.{Write, Run, Seen, seen, still, view, plus, ◌then◌, ◌giving◌}
use Rattle.cells.specs.Log.{write_all}
use Rattle.cells.specs.Cut.{Cut, Cut.whole, Cut.lost, tear, cut, later, sight, Says}
use Rattle.std.proofs.Common.{Result, Ok, Err}
use Rattle.cells.specs.declared.mains.PowerLost.{PowerLost}
use Rattle.cells.proofs.Views.{plus_plus, view_then}

-- ## Logs

module _ {A : Type 0} (b : ℕ) where
  -- power for every write
  tear_enough : (n : ℕ) (l : List Write) (v : Seen A) (s : Chip) → length l ≤ n → tear n b l v s ≡ whole v
  unfolding tear
  tear_enough n [] v s h = refl
  tear_enough zero (w ∷ l) v s h = absurd (omega arith)
  tear_enough (suc n) (w ∷ l) v s h = tear_enough n l v (write_at w.at w.byte s) (omega arith)

  -- what is whole had it
  tear_whole : (n : ℕ) (l : List Write) (u : Seen A) {v : Seen A} (s : Chip) → tear n b l u s ≡ whole v → (length l ≤ n) × (v ≡ u)
  unfolding tear
  tear_whole n [] u s e = (omega arith, cc)
  tear_whole zero (w ∷ l) u s e = absurd (true≢false cc)
  tear_whole (suc n) (w ∷ l) u s e = let rest = tear_whole n l u (write_at w.at w.byte s) e in (omega (arith, rest.0), rest.1)

  -- a log behind a log that has power for all its writes
  tear_behind : (n : ℕ) (l m : List Write) (v : Seen A) (s : Chip) → length l ≤ n → tear n b (l ++ m) v s ≡ tear (n - length l) b m v (write_all l s)
  unfolding tear write_all
  tear_behind n [] m v s h = rw sub-zero
  tear_behind zero (w ∷ l) m v s h = absurd (omega arith)
  tear_behind (suc n) (w ∷ l) m v s h =
      let e : suc n - suc (length l) ≡ n - length l = omega arith in
      rw e (tear_behind n l m v (write_at w.at w.byte s) (omega arith))

  -- behind work that took so many writes and tries
  tear_later : (w t n : ℕ) (l : List Write) (v : Seen A) (s : Chip) → tear n b l (plus w t v) s ≡ later w t (tear n b l v s)
  unfolding tear
  tear_later w t n [] v s = refl
  tear_later w t zero (x ∷ l) v s = refl
  tear_later w t (suc n) (x ∷ l) v s = tear_later w t n l v (write_at x.at x.byte s)

-- a log that is cut is cut whatever comes behind it
tear_first : {A B : Type 0} (b n : ℕ) (l m : List Write) (u : Seen A) (v : Seen B) (s : Chip) {a : ℕ} {t : Chip} → tear n b l u s ≡ lost a t → tear n b (l ++ m) v s ≡ lost a t
unfolding tear
tear_first b n [] m u v s e = absurd (true≢false cc)
tear_first b zero (w ∷ l) m u v s e = cc
tear_first b (suc n) (w ∷ l) m u v s e = tear_first b n l m u v (write_at w.at w.byte s) e

-- ## Work

-- a log that starts with another
abbrev pub Starts : List Write → List Write → Type 0
Starts l k = (m : List Write) × (k ≡ l ++ m)

module _ (l : List Write) where
  pub starts_same : Starts l l
  starts_same = ([], sym (append-nil l))

  pub starts_append : (m : List Write) → Starts l (l ++ m)
  starts_append m = (m, refl)

-- one work behind another, and a third
pub later_later : {A : Type 0} (w t x y : ℕ) (c : Cut A) → later w t (later x y c) ≡ later (w + x) (t + y) c
later_later w t x y (whole v) = ap whole (plus_plus w t x y v)
later_later w t x y (lost a s) = refl

-- behind no work
pub later_none : {A : Type 0} (c : Cut A) → later 0 0 c ≡ c
later_none (whole v) = simp zero-add
later_none (lost a s) = refl

module _ {A : Type 0} (n b : ℕ) (r : Run A) (s : Chip) where
  -- power for every write: the plain work
  pub cut_enough : length r.log ≤ n → cut n b r s ≡ whole (view r)
  cut_enough h = tear_enough b n r.log (view r) s h

  -- power for all of a first piece: the second has what is left
  pub cut_then : {B : Type 0} (q : Run B) → length r.log ≤ n → r.after ≡ write_all r.log s
      → cut n b (r then q) s ≡ later (length r.log) r.tried (cut (n - length r.log) b q r.after)
  cut_then q h logged =
      ap (λ (v : Seen _). tear n b (r.log ++ q.log) v s) (view_then r q)
      ∙ tear_behind b n r.log q.log _ s h
      ∙ ap (tear (n - length r.log) b q.log _) (sym logged)
      ∙ tear_later b (length r.log) r.tried (n - length r.log) q.log (view q) r.after

-- work that is cut in its first piece
pub cut_first : {A B : Type 0} (n b : ℕ) (r : Run A) (q : Run B) (s : Chip) {a : ℕ} {t : Chip} → Starts r.log q.log → cut n b r s ≡ lost a t → cut n b q s ≡ lost a t
cut_first n b r q s (m, starts) e =
    ap (λ (log : List Write). tear n b log (view q) s) starts ∙ tear_first b n r.log m (view r) (view q) s e

-- ## For code: over what a function has said of a piece, `v`, and of where the power was lost, `l`

-- what is left of a piece of work that started on s: q, from the chip u on, behind so many writes and tries
pub record Left {A : Type 0} (w t n b : ℕ) (r : Run A) (s : Chip) (q : Run A) (u : Chip) : Type 0 where
  pub few : w ≤ n
  pub so : cut n b r s ≡ later w t (cut (n - w) b q u)

module _ {A : Type 0} {n b : ℕ} {r : Run A} {s : Chip} where
  -- at first, all of it
  pub left_all : Left 0 0 n b r s r s
  left_all = record { few = omega arith; so = rw sub-zero (sym (later_none (cut n b r s))) }

  module _ {w t : ℕ} {q : Run A} {u : Chip} (left : Left w t n b r s q u) where
    -- what is left of what is left
    pub left_on : {x y : ℕ} {o : Run A} {z : Chip} → Left x y (n - w) b q u o z → Left (w + x) (t + y) n b r s o z
    left_on {x} {y} {o} {z} more =
        let e : n - w - x ≡ n - (w + x) = omega arith in
        record {
          few = omega (arith, left.few, more.few);
          so = left.so ∙ ap (later w t) more.so ∙ later_later w t x y (cut (n - w - x) b o z) ∙ ap (λ (m : ℕ). later (w + x) (t + y) (cut m b o z)) e;
        }

    -- what is said of it is said of the whole, behind those writes and tries
    pub left_says : {x : Cut A} → Says x (n - w) b q u → Says (later w t x) n b r s
    left_says e = record { so = ap (later w t) e.so ∙ sym left.so }

-- work for which there is power
pub says_enough : {A : Type 0} {n b : ℕ} {r : Run A} {s : Chip} {v : Seen A} → length r.log ≤ n → v ≡ view r → Says (whole v) n b r s
says_enough {n = n} {b = b} {r = r} {s = s} h e = record { so = ap whole e ∙ sym (cut_enough n b r s h) }

-- work that is none
pub says_still : {A : Type 0} {n b : ℕ} {x : A} {s : Chip} → Says (whole (seen x 0 0 s)) n b (still x s) s
says_still = says_enough (omega arith) refl

-- the power was lost, and so it is of all that starts with the piece
pub said_lost : {A B : Type 0} {n b : ℕ} {r : Run A} {q : Run B} {s : Chip} {a : ℕ} {t : Chip} → Says (lost a t) n b r s → Starts r.log q.log → Says (lost a t) n b q s
said_lost {n = n} {b = b} {r = r} {q = q} {s = s} e starts = record { so = sym (cut_first n b r q s starts (sym e.so)) }

-- the same by other names
pub said_as : {A : Type 0} {n b m d : ℕ} {r : Run A} {s : Chip} {x : Cut A} → Says x n b r s → n ≡ m → b ≡ d → Says x m d r s
said_as e p q = rw (← p, ← q) e

module _ {A : Type 0} {n b : ℕ} {r : Run A} {s : Chip} {v : Seen A} (e : Says (whole v) n b r s) where
  said_both : (length r.log ≤ n) × (v ≡ view r)
  said_both = tear_whole b n r.log (view r) s (sym e.so)

  -- it was not, and the piece is whole
  pub said_view : v ≡ view r
  said_view = said_both.1

  pub said_enough : v.writes ≤ n
  said_enough = rw said_view said_both.0

  -- and so it is with another answer
  pub said_ends : {B : Type 0} {x : B} → Says (whole (seen x v.writes v.tried v.after)) n b (r giving x) s
  said_ends = says_enough said_both.0 (rw said_view)

  -- and then another piece, on the chip as the first left it
  pub said_left : {B : Type 0} (q : Chip → Run B) → r.after ≡ write_all r.log s
      → Left v.writes v.tried n b (r then q r.after) s (q v.after) v.after
  said_left q logged = record { few = said_enough; so = rw said_view (cut_then n b r s (q r.after) said_both.0 logged) }

-- nothing is left
pub left_none : {A : Type 0} {w t n b : ℕ} {r q : Run A} {s z : Chip} → Left w t n b r s q z → {x : A} → q ≡ still x z → Says (whole (seen x w t z)) n b r s
left_none {w = w} {t = t} left {x} e = rw (add-zero w, add-zero t) at (left_says (rw e at left) (says_still {x = x}))

-- where there is power for every write, what is said is said of the plain work
pub said_plain : {A : Type 0} {n b : ℕ} {r : Run A} {s : Chip} {x : Cut A} → Says x n b r s → length r.log ≤ n → x ≡ whole (view r)
said_plain {n = n} {b = b} {r = r} {s = s} e h = e.so ∙ cut_enough n b r s h

-- ## One answer

-- there is one way to say it, where no two things are shown alike
pub says_one :
    {A B : Type 0} (shows : B → Chip → Seen A) → ((x y : B) (t u : Chip) → shows x t ≡ shows y u → (x ≡ y) × (t ≡ u))
    → {n b : ℕ} {r : Run A} {s : Chip} (x y : Result B PowerLost) (t u : Chip)
    → Says (sight shows x t) n b r s → Says (sight shows y u) n b r s → (x ≡ y) × (t ≡ u)
says_one shows apart (Ok x) (Ok y) t u one other =
    let e : whole (shows x t) ≡ whole (shows y u) = one.so ∙ sym other.so in
    let same = apart x y t u cc in
    (ap Ok same.0, same.1)
says_one shows apart (Err l) (Err m) t u one other =
    let e : lost l.at t ≡ lost m.at u = one.so ∙ sym other.so in
    let place : l.at ≡ m.at = cc in
    (ap Err (λ i. record { at = place i }), cc)
says_one shows apart (Ok x) (Err m) t u one other = let e : whole (shows x t) ≡ lost m.at u = one.so ∙ sym other.so in absurd (true≢false cc)
says_one shows apart (Err l) (Ok y) t u one other = let e : lost l.at t ≡ whole (shows y u) = one.so ∙ sym other.so in absurd (true≢false cc)
