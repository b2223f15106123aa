-- What is left of a chip when the mains were lost in some write of a log (document 02, P6).
--   Torn                      the chip after the first writes of a log and one torn write, wherever it fell
--   TornAt, tear_torn         work that is cut leaves such a chip, and work that is not is whole
--   torn_kept                 it keeps what the log keeps
--   torn_life                 no cell has lost more life than the log asks of it
--   torn_append               of two logs, one behind the other, the torn write fell in the one or in the other
use Prim.Native.Nat.{ℕ, zero, suc, ◌+◌, ◌-◌, ◌≤◌}
use mathlib.Core.Path.{◌≡◌, refl, sym, ap, subst, ◌∙◌}
use mathlib.Core.List.{List, [], ◌∷◌, ◌++◌}
use mathlib.Core.Logic.{◌⊎◌, inl, inr}
use native.Mathlib.Decide.{ℕ_discrete}
use native.Mathlib.Omega.{arith}
use Rattle.cells.specs.Chip.{Chip, life_at, write_at, Kept}
use Rattle.cells.specs.Run.{Write, Seen}
use Rattle.cells.specs.Log.{write_all, asked_of, Every, Every.more, Every.none}
use Rattle.cells.specs.Cut.{Cut, Cut.whole, Cut.lost, tear}
use Rattle.cells.proofs.Writes.{kept_then, kept_wider, write_laws}
use Rattle.cells.proofs.Logs.{asked_here, asked_elsewhere}

-- the write at the head of the log stored byte b in place of its own, or it was made and one behind it did
pub data Torn (b : ℕ) : List Write → Chip → Chip → Type 0 where
  here : {w : Write} {ws : List Write} {s : Chip} → Torn b (w ∷ ws) s (write_at w.at b s)
  later : {w : Write} {ws : List Write} {s t : Chip} → Torn b ws (write_at w.at w.byte s) t → Torn b (w ∷ ws) s t

-- work was cut at an address, and this is the chip it left
pub record TornAt {A : Type 0} (b : ℕ) (l : List Write) (s : Chip) (c : Cut A) : Type 0 where
  pub address : ℕ
  pub left : Chip
  pub comes : c ≡ lost address left
  pub torn : Torn b l s left

pub tear_torn : {A : Type 0} (n b : ℕ) (l : List Write) (v : Seen A) (s : Chip) → (tear n b l v s ≡ whole v) ⊎ TornAt b l s (tear n b l v s)
unfolding tear
tear_torn n b [] v s = inl refl
tear_torn zero b (w ∷ ws) v s = inr (record { address = w.at; left = write_at w.at b s; comes = refl; torn = here })
tear_torn (suc n) b (w ∷ ws) v s = go (tear_torn n b ws v (write_at w.at w.byte s))
  where
    t : Chip
    t = write_at w.at w.byte s

    go : (tear n b ws v t ≡ whole v) ⊎ TornAt b ws t (tear n b ws v t) → (tear n b ws v t ≡ whole v) ⊎ TornAt b (w ∷ ws) s (tear n b ws v t)
    go (inl e) = inl e
    go (inr x) = inr (record { address = x.address; left = x.left; comes = x.comes; torn = later x.torn })

-- one write to a cell of the place
one_kept : {Place : ℕ → Type 0} (a c : ℕ) (s : Chip) → Place a → Kept Place s (write_at a c s)
one_kept {Place} a c s p = kept_wider (λ d q. subst Place (sym q) p) (write_laws a c s).kept

pub torn_kept : {b : ℕ} {Place : ℕ → Type 0} {l : List Write} {s t : Chip} → Every Place l → Torn b l s t → Kept Place s t
torn_kept none x = elim x [ ]
torn_kept {b} (more p e) (here {w} {ws} {s}) = one_kept w.at b s p
torn_kept (more p e) (later {w} {ws} {s} {t} torn) = kept_then (one_kept w.at w.byte s p) (torn_kept e torn)

-- one write, whatever its byte, takes at most one life
one_life : (w : Write) (l : List Write) (c : ℕ) (s : Chip) (a : ℕ) → life_at s a + asked_of a l ≤ life_at (write_at w.at c s) a + asked_of a (w ∷ l)
one_life w l c s a = go (ℕ_discrete w.at a)
  where
    t : Chip
    t = write_at w.at c s

    go : Dec (w.at ≡ a) → life_at s a + asked_of a l ≤ life_at t a + asked_of a (w ∷ l)
    go (yes e) =
        let k = asked_here a a w l (omega arith) (omega arith) in
        let f = ap (life_at t) (sym e) ∙ (write_laws w.at c s).life ∙ ap (λ (x : ℕ). life_at s x - 1) e in
        omega arith
    go (no n) =
        let k = asked_elsewhere a a w l (λ p q. n (omega arith)) in
        let f = (write_laws w.at c s).kept.life a (λ q. n (sym q)) in
        omega arith

pub torn_life : {b : ℕ} {l : List Write} {s t : Chip} → Torn b l s t → (a : ℕ) → life_at s a ≤ life_at t a + asked_of a l
torn_life {b} (here {w} {ws} {s}) a = let h = one_life w ws b s a in omega arith
torn_life (later {w} {ws} {s} {t} torn) a = let h = one_life w ws w.byte s a in let h' = torn_life torn a in omega arith

pub torn_append : {b : ℕ} (l : List Write) {m : List Write} {s t : Chip} → Torn b (l ++ m) s t → Torn b l s t ⊎ Torn b m (write_all l s) t
unfolding write_all
torn_append [] torn = inr torn
torn_append (w ∷ l) here = inl here
torn_append {b} (w ∷ l) {m} {s} {t} (later torn) = go (torn_append l torn)
  where
    go : Torn b l (write_at w.at w.byte s) t ⊎ Torn b m (write_all l (write_at w.at w.byte s)) t → Torn b (w ∷ l) s t ⊎ Torn b m (write_all l (write_at w.at w.byte s)) t
    go (inl x) = inl (later x)
    go (inr x) = inr x
