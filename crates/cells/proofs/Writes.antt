-- Laws of a write, and of what a chip keeps.
use Prim.Native.Nat.{ℕ, ◌-◌, ◌≤◌, ◌<◌}
use mathlib.Core.Path.{◌≡◌, refl, sym, ◌∙◌}
use native.Mathlib.Decide.{dec_le}
use native.Mathlib.Omega.{arith}
use borrow.Author.Tests.{lt-ltb, le-ltb}
use lib.ListN.{length, set, length-set, get_or-eq_default}
use lib.Seq.{get_or-set_same, get_or-set_other}
use Rattle.cells.specs.Chip.{Chip, chip, cell_at, life_at, write_at, Paired, Kept}

-- ## What a chip keeps

module _ {Place : ℕ → Type 0} where
  -- a chip keeps itself
  pub kept_same : (s : Chip) → Kept Place s s
  kept_same s = record { cells_length = refl; lives_length = refl; cell = λ c n. refl; life = λ c n. refl }

  -- what each of two steps keeps, both keep
  pub kept_then : {s t u : Chip} → Kept Place s t → Kept Place t u → Kept Place s u
  kept_then k l = record {
    cells_length = l.cells_length ∙ k.cells_length;
    lives_length = l.lives_length ∙ k.lives_length;
    cell = λ c n. l.cell c n ∙ k.cell c n;
    life = λ c n. l.life c n ∙ k.life c n;
  }

  -- what is kept outside a place is kept outside a wider one
  pub kept_wider : {Wider : ℕ → Type 0} {s t : Chip} → ((c : ℕ) → Place c → Wider c) → Kept Place s t → Kept Wider s t
  kept_wider f k = record {
    cells_length = k.cells_length;
    lives_length = k.lives_length;
    cell = λ c n. k.cell c (λ p. n (f c p));
    life = λ c n. k.life c (λ p. n (f c p));
  }

  -- as many lives as cells, still
  pub kept_paired : {s t : Chip} → Kept Place s t → Paired s → Paired t
  kept_paired k p = k.lives_length ∙ p ∙ sym k.cells_length

-- ## A write

-- what a write keeps, what it changes, and what it costs
pub record WriteLaws (a b : ℕ) (s : Chip) : Type 0 where
  pub kept : Kept (λ c. c ≡ a) s (write_at a b s)
  pub worn : life_at s a ≡ 0 → write_at a b s ≡ s
  pub stored : 1 ≤ life_at s a → a < length s.cells → cell_at (write_at a b s) a ≡ b
  pub life : life_at (write_at a b s) a ≡ life_at s a - 1

-- a cell with life is one of the lives
pub alive_inside : (s : Chip) (a : ℕ) → 1 ≤ life_at s a → a < length s.lives
alive_inside s a h = go (dec_le (length s.lives) a)
  where
    go : Dec (length s.lives ≤ a) → a < length s.lives
    go (yes o) = let z = get_or-eq_default s.lives 0 o in absurd (omega arith)
    go (no n) = omega arith

module _ (a b : ℕ) (s : Chip) where
  -- a worn cell changes nothing
  write_worn : life_at s a ≡ 0 → write_at a b s ≡ s
  unfolding write_at
  write_worn e = rw (le-ltb 0 (life_at s a) (omega arith))

  -- a cell with life stores the byte and loses one
  write_live : 1 ≤ life_at s a → write_at a b s ≡ chip (set s.cells a b) (set s.lives a (life_at s a - 1))
  unfolding write_at
  write_live h = rw (lt-ltb 0 (life_at s a) h)

  -- all that is claimed
  pub write_laws : WriteLaws a b s
  write_laws = go (dec_le 1 (life_at s a))
    where
      go : Dec (1 ≤ life_at s a) → WriteLaws a b s
      go (yes h) = record {
        kept = rw (write_live h) (record {
          cells_length = simp length-set;
          lives_length = simp length-set;
          cell = λ c n. get_or-set_other s.cells a c b 0 n;
          life = λ c n. get_or-set_other s.lives a c (life_at s a - 1) 0 n;
        });
        worn = write_worn;
        stored = λ _ o. rw (write_live h) (get_or-set_same s.cells a b 0 o);
        life = rw (write_live h) (get_or-set_same s.lives a (life_at s a - 1) 0 (alive_inside s a h));
      }
      go (no n) = let e : life_at s a ≡ 0 = omega arith in record {
        kept = rw (write_worn e) (kept_same s);
        worn = write_worn;
        stored = λ h o. absurd (n h);
        life = rw (write_worn e) (omega arith);
      }
