-- Laws of logs: what their writes keep, and how the lives fall by them.
use Prim.Native.Nat.{ℕ, ◌+◌, ◌-◌, ◌≤◌}
use mathlib.Core.Path.{◌≡◌, refl, sym, ap, subst, ◌∙◌}
use mathlib.Core.Bool.{Bool, true, false, cond}
use mathlib.Core.List.{List, [], ◌∷◌, ◌++◌}
use native.Mathlib.Nat.{add_assoc, zero-add}
use native.Mathlib.Decide.{ℕ_discrete, dec_le}
use native.Mathlib.Omega.{arith}
use borrow.Author.Tests.{le-leb, lt-leb}
use lib.Dec.{leb}
use lib.ListN.{length}
use Rattle.cells.specs.Chip.{Chip, life_at, write_at, Kept}
use Rattle.cells.specs.Run.{Write, write, Run, run, still, ◌then◌, ◌giving◌}
use Rattle.cells.specs.Log.{write_all, asked_in, asked_of, Every, Every.none, Every.more, Within}
use Rattle.cells.proofs.Writes.{kept_same, kept_then, kept_wider, write_laws}

-- ## The writes of a log

-- a log behind a log
pub write_all_append : (l m : List Write) (s : Chip) → write_all (l ++ m) s ≡ write_all m (write_all l s)
unfolding write_all
write_all_append [] m s = refl
write_all_append (w ∷ l) m s = write_all_append l m (write_at w.at w.byte s)

module _ {Place : ℕ → Type 0} where
  -- a log behind a log, both in the place
  pub every_append : {l m : List Write} → Every Place l → Every Place m → Every Place (l ++ m)
  every_append none f = f
  every_append (more p e) f = more p (every_append e f)

  -- what is in a place is in a wider one
  pub every_wider : {Wider : ℕ → Type 0} {l : List Write} → ((c : ℕ) → Place c → Wider c) → Every Place l → Every Wider l
  every_wider f none = none
  every_wider f (more {w} p e) = more (f w.at p) (every_wider f e)

  -- what the writes of a log keep
  pub write_all_kept : {l : List Write} (s : Chip) → Every Place l → Kept Place s (write_all l s)
  unfolding write_all
  write_all_kept s none = kept_same s
  write_all_kept s (more {w} p e) =
      kept_then
      (kept_wider (λ c q. subst Place (sym q) p) (write_laws w.at w.byte s).kept)
      (write_all_kept (write_at w.at w.byte s) e)

-- ## How many writes were asked of some cells

-- a write counts as one at most
one_most : (t u : Bool) → cond t (cond u 1 0) 0 ≤ 1
one_most true true = omega arith
one_most true false = omega arith
one_most false u = omega arith

module _ (lo hi : ℕ) where
  -- of no writes, none
  pub asked_none : asked_in lo hi [] ≡ 0
  unfolding asked_in
  asked_none = refl

  -- one more, of a cell among them
  pub asked_here : (w : Write) (l : List Write) → lo ≤ w.at → w.at ≤ hi → asked_in lo hi (w ∷ l) ≡ 1 + asked_in lo hi l
  unfolding asked_in
  asked_here w l p q = rw (le-leb lo w.at p, le-leb w.at hi q)

  -- one more, of another cell
  pub asked_elsewhere : (w : Write) (l : List Write) → (lo ≤ w.at → w.at ≤ hi → ⊥) → asked_in lo hi (w ∷ l) ≡ asked_in lo hi l
  unfolding asked_in
  asked_elsewhere w l n = go (dec_le lo w.at) (dec_le w.at hi)
    where
      go : Dec (lo ≤ w.at) → Dec (w.at ≤ hi) → cond (leb lo w.at) (cond (leb w.at hi) 1 0) 0 + asked_in lo hi l ≡ asked_in lo hi l
      go (yes p) (yes q) = absurd (n p q)
      go (yes p) (no q) = rw (le-leb lo w.at p, lt-leb w.at hi (omega arith), zero-add)
      go (no p) q = rw (lt-leb lo w.at (omega arith), zero-add)

  -- of a log behind a log, the sum
  pub asked_append : (l m : List Write) → asked_in lo hi (l ++ m) ≡ asked_in lo hi l + asked_in lo hi m
  unfolding asked_in
  asked_append [] m = sym (zero-add _)
  asked_append (w ∷ l) m = rw (asked_append l m, add_assoc)

  -- all of them, where every write was asked of such a cell
  pub asked_all : {l : List Write} → Every (λ c. (lo ≤ c) × (c ≤ hi)) l → asked_in lo hi l ≡ length l
  asked_all none = asked_none
  asked_all (more {w} {ws} p e) = let h = asked_all e in let k = asked_here w ws p.0 p.1 in omega arith

  -- none, where none was
  pub asked_apart : {l : List Write} → Every (λ c. lo ≤ c → c ≤ hi → ⊥) l → asked_in lo hi l ≡ 0
  asked_apart none = asked_none
  asked_apart (more {w} {ws} p e) = asked_elsewhere w ws p ∙ asked_apart e

  -- never more than there are
  pub asked_most : (l : List Write) → asked_in lo hi l ≤ length l
  unfolding asked_in
  asked_most [] = omega arith
  asked_most (w ∷ l) = let h = asked_most l in let o = one_most (leb lo w.at) (leb w.at hi) in omega arith

-- one write, and what a log behind it leaves of a life
life_step : (w : Write) (l : List Write) (s : Chip) (a : ℕ) → life_at (write_at w.at w.byte s) a - asked_of a l ≡ life_at s a - asked_of a (w ∷ l)
life_step w l s a = go (ℕ_discrete w.at a)
  where
    t : Chip
    t = write_at w.at w.byte s

    go : Dec (w.at ≡ a) → life_at t a - asked_of a l ≡ life_at s a - asked_of a (w ∷ l)
    go (yes e) =
        let k = asked_here a a w l (omega arith) (omega arith) in
        let f = ap (life_at t) (sym e) ∙ (write_laws w.at w.byte s).life ∙ ap (λ (c : ℕ). life_at s c - 1) e in
        omega arith
    go (no n) =
        let k = asked_elsewhere a a w l (λ p q. n (omega arith)) in
        let f = (write_laws w.at w.byte s).kept.life a (λ q. n (sym q)) in
        omega arith

-- a life falls by one with each write asked of its cell, while it lasts
pub life_falls : (l : List Write) (s : Chip) (a : ℕ) → life_at (write_all l s) a ≡ life_at s a - asked_of a l
unfolding write_all
life_falls [] s a = let z = asked_none a a in omega arith
life_falls (w ∷ l) s a = life_falls l (write_at w.at w.byte s) a ∙ life_step w l s a

-- ## Work within a place

module _ {A : Type 0} {Place : ℕ → Type 0} where
  -- no work
  pub within_still : (x : A) (s : Chip) → Within Place s (still x s)
  unfolding write_all
  within_still x s = record { logged = refl; places = none }

  -- one write is its own log
  pub within_write : (x : A) (a b : ℕ) (s : Chip) → Place a → Within Place s (run x (write a b ∷ []) 0 (write_at a b s))
  unfolding write_all
  within_write x a b s p = record { logged = refl; places = more p none }

  -- work within a place is within a wider one
  pub within_wider : {Wider : ℕ → Type 0} {s : Chip} {r : Run A} → ((c : ℕ) → Place c → Wider c) → Within Place s r → Within Wider s r
  within_wider f i = record { logged = i.logged; places = every_wider f i.places }

  -- either of two pieces
  pub within_cond : (t : Bool) {s : Chip} {x y : Run A} → Within Place s x → Within Place s y → Within Place s (cond t x y)
  within_cond true i j = i
  within_cond false i j = j

  -- all else is kept
  pub within_kept : {s : Chip} {r : Run A} → Within Place s r → Kept Place s r.after
  within_kept {s} i = rw i.logged (write_all_kept s i.places)

  -- each life falls by the writes asked of its cell, while it lasts
  pub within_life : {s : Chip} {r : Run A} → Within Place s r → (a : ℕ) → life_at r.after a ≡ life_at s a - asked_of a r.log
  within_life {s} {r} i a = rw i.logged (life_falls r.log s a)

module _ {A B : Type 0} {Place : ℕ → Type 0} {s : Chip} {r : Run A} where
  -- the same work with another answer
  pub within_giving : (x : B) → Within Place s r → Within Place s (r giving x)
  within_giving x i = record { logged = i.logged; places = i.places }

  -- one piece and then another
  pub within_then : {q : Run B} → Within Place s r → Within Place r.after q → Within Place s (r then q)
  within_then {q} i j = record {
    logged = j.logged ∙ ap (write_all q.log) i.logged ∙ sym (write_all_append r.log q.log s);
    places = every_append i.places j.places;
  }
