-- Work that asks each cell for at most one write.
--   asked_place               a cell that was asked is in the place of the log
--   asked_outside             a cell outside it was not
--   Once                      each cell was asked at most once
--   once_none, once_append    of no writes; of two logs in places that do not meet
--   once_put, once_row        a put, and bytes put at neighbouring cells
use Rattle.std.proofs.Common.{Option}
use Prim.Native.Nat.{ℕ, ◌+◌, ◌≤◌}
use mathlib.Core.Path.{◌≡◌, refl, subst}
use mathlib.Core.Bool.{Bool, true, false}
use mathlib.Core.List.{List, [], ◌∷◌, ◌++◌}
use native.Mathlib.Decide.{ℕ_discrete, dec_le}
use native.Mathlib.Omega.{arith}
use Rattle.cells.specs.Chip.{Chip}
use Rattle.cells.specs.Run.{Run, Write}
use Rattle.cells.specs.Log.{asked_of, Every, Every.none, Every.more}
use Rattle.cells.specs.Put.{put_at}
use Rattle.cells.specs.Row.{put_row}
use Rattle.cells.proofs.Logs.{asked_none, asked_elsewhere, asked_append, asked_most}
use Rattle.cells.proofs.Puts.{put_within, put_cost}
use Rattle.cells.proofs.Rows.{row_within, row_on, row_stop}

abbrev pub Once : List Write → Type 0
Once l = (a : ℕ) → asked_of a l ≤ 1

module _ {Place : ℕ → Type 0} (a : ℕ) where
  pub asked_place : {l : List Write} → Every Place l → 1 ≤ asked_of a l → Place a
  asked_place none h = let z = asked_none a a in absurd (omega arith)
  asked_place (more {w} {ws} p e) h = go (ℕ_discrete w.at a) (asked_place e)
    where
      go : Dec (w.at ≡ a) → (1 ≤ asked_of a ws → Place a) → Place a
      go (yes q) rest = subst Place q p
      go (no d) rest = rest (let z = asked_elsewhere a a w ws (λ l u. d (omega arith)) in omega arith)

  -- a cell outside the place was not asked
  pub asked_outside : {l : List Write} → Every Place l → (Place a → ⊥) → asked_of a l ≡ 0
  asked_outside {l} e n = go (dec_le 1 (asked_of a l))
    where
      go : Dec (1 ≤ asked_of a l) → asked_of a l ≡ 0
      go (yes h) = absurd (n (asked_place e h))
      go (no h) = omega arith

pub once_none : Once []
once_none a = let z = asked_none a a in omega arith

pub once_append : {P Q : ℕ → Type 0} {l m : List Write} → Every P l → Every Q m → ((a : ℕ) → P a → Q a → ⊥) → Once l → Once m → Once (l ++ m)
once_append {P} {Q} {l} {m} e f apart one other a = go (dec_le 1 (asked_of a l))
  where
    go : Dec (1 ≤ asked_of a l) → asked_of a (l ++ m) ≤ 1
    go (yes h) =
        let none = asked_outside a f (apart a (asked_place a e h)) in
        let h' = one a in
        omega (arith, asked_append a a l m)
    go (no h) = let h' = other a in omega (arith, asked_append a a l m)

pub once_put : (a b : ℕ) (s : Chip) → Once (put_at a b s).log
once_put a b s c = let h = asked_most c c (put_at a b s).log in let h' = put_cost a b s in omega arith

pub once_row : (bs : List ℕ) (a : ℕ) (s : Chip) → Once (put_row bs a s).log
unfolding put_row
once_row [] a s = once_none
once_row (b ∷ bs) a s = go (put_at a b s).answer refl (once_row bs (a + 1) (put_at a b s).after)
  where
    rest : Run (Option ℕ)
    rest = put_row bs (a + 1) (put_at a b s).after

    go : (t : Bool) → (put_at a b s).answer ≡ t → Once rest.log → Once (put_row (b ∷ bs) a s).log
    go true e once =
        rw (row_on b bs a s e)
        (once_append (put_within a b s).places (row_within bs (a + 1) (put_at a b s).after).places (λ c q i. let h = i.0 in omega arith) (once_put a b s) once)
    go false e once = rw (row_stop b bs a s e) (once_put a b s)
