-- Laws of a put: what it keeps, what it changes, what it costs.
use Prim.Native.Nat.{ℕ, ◌-◌, ◌≤◌}
use mathlib.Core.Path.{◌≡◌, refl, sym}
use mathlib.Core.Bool.{Bool, true, false, true≢false}
use mathlib.Core.List.{[], ◌∷◌}
use mathlib.Core.Logic.{◌⊎◌, inl, inr}
use native.Mathlib.Decide.{ℕ_discrete, dec_le}
use native.Mathlib.Omega.{arith}
use borrow.Author.Tests.{eq-eqb, ne_eqb, eqb-true}
use lib.Dec.{eqb}
use lib.ListN.{length}
use Rattle.cells.specs.Chip.{Chip, cell_at, life_at, write_at, Paired, Kept}
use Rattle.cells.specs.Run.{Run, Seen, write, run, still, view}
use Rattle.cells.specs.Log.{Within}
use Rattle.cells.specs.Put.{put_at, read_back}
use Rattle.cells.specs.Cut.{Cut.whole, Cut.lost, tear, Says}
use Rattle.cells.proofs.Writes.{write_laws, alive_inside}
use Rattle.cells.proofs.Cuts.{says_enough}
use Rattle.cells.proofs.Logs.{within_still, within_write, within_kept}

-- ## What is claimed

-- a cell that does not take the byte: it is worn, and reads another
pub record Refuses (a b : ℕ) (s : Chip) : Type 0 where
  pub worn : life_at s a ≡ 0
  pub other : cell_at s a ≡ b → ⊥

-- what a put keeps, what it changes, and what it costs
pub record PutLaws (a b : ℕ) (s : Chip) : Type 0 where
  pub within : Within (λ c. c ≡ a) s (put_at a b s)
  pub kept : Kept (λ c. c ≡ a) s (put_at a b s).after
  pub held : (put_at a b s).answer ≡ true → cell_at (put_at a b s).after a ≡ b
  pub failed : (put_at a b s).answer ≡ false → Refuses a b s
  pub unchanged : (put_at a b s).answer ≡ false → put_at a b s ≡ run false (write a b ∷ []) 0 s
  pub there : cell_at s a ≡ b → put_at a b s ≡ still true s
  pub taken : (cell_at s a ≡ b → ⊥) → 1 ≤ life_at s a → put_at a b s ≡ run true (write a b ∷ []) 0 (write_at a b s)
  pub alive : 1 ≤ life_at s a → (put_at a b s).answer ≡ true
  pub worn : life_at s a ≡ 0 → (put_at a b s).answer ≡ eqb (cell_at s a) b
  pub life : life_at (put_at a b s).after a ≡ life_at s a - length (put_at a b s).log
  pub asked : ((put_at a b s).log ≡ []) ⊎ ((put_at a b s).log ≡ write a b ∷ [])
  pub cost : length (put_at a b s).log ≤ 1
  pub tried : (put_at a b s).tried ≡ 0

-- ## Its proof

module _ (a b : ℕ) (s : Chip) where
  -- a put of what is there asks nothing and changes nothing
  pub put_there : cell_at s a ≡ b → put_at a b s ≡ still true s
  unfolding put_at
  put_there e = rw (eq-eqb (cell_at s a) b e)

  -- a put of anything else is one write, and the cell read back
  pub put_asks : (cell_at s a ≡ b → ⊥) → put_at a b s ≡ read_back a b (write_at a b s)
  unfolding put_at
  put_asks n = rw (ne_eqb (cell_at s a) b n)

  -- whatever holds in both cases holds of a put
  pub put_either : (P : Run Bool → Type 0) → (cell_at s a ≡ b → P (still true s)) → ((cell_at s a ≡ b → ⊥) → P (read_back a b (write_at a b s))) → P (put_at a b s)
  put_either P f g = go (ℕ_discrete (cell_at s a) b)
    where
      go : Dec (cell_at s a ≡ b) → P (put_at a b s)
      go (yes e) = rw (put_there e) (f e)
      go (no n) = rw (put_asks n) (g n)

  -- a put asks at most one write
  pub put_cost : length (put_at a b s).log ≤ 1
  put_cost = put_either (λ r. length r.log ≤ 1) (λ e. omega arith) (λ n. omega arith)

  -- a put tries no spare
  pub put_tried : (put_at a b s).tried ≡ 0
  put_tried = put_either (λ r. r.tried ≡ 0) (λ e. refl) (λ n. refl)

  -- a put that fails has asked one write
  pub put_failed : (put_at a b s).answer ≡ false → (put_at a b s).log ≡ write a b ∷ []
  put_failed = put_either (λ r. r.answer ≡ false → r.log ≡ write a b ∷ []) (λ e f. cc) (λ n f. refl)

  -- a put touches its cell alone
  pub put_within : Within (λ c. c ≡ a) s (put_at a b s)
  put_within = put_either (Within (λ c. c ≡ a) s) (λ e. within_still true s) (λ n. within_write _ a b s refl)

  -- a put that holds leaves the byte
  pub put_held : (put_at a b s).answer ≡ true → cell_at (put_at a b s).after a ≡ b
  put_held = put_either (λ r. r.answer ≡ true → cell_at r.after a ≡ b) (λ e h. e) (λ n h. eqb-true _ b h)

  module _ (p : Paired s) where
    -- whatever holds in the three cases holds of a put: the byte is there, or the cell takes it, or refuses it
    pub put_cases :
        (P : Run Bool → Type 0)
        → (cell_at s a ≡ b → P (still true s))
        → ((cell_at s a ≡ b → ⊥) → 1 ≤ life_at s a → P (run true (write a b ∷ []) 0 (write_at a b s)))
        → (Refuses a b s → P (run false (write a b ∷ []) 0 s))
        → P (put_at a b s)
    put_cases P f g h = put_either P f (λ n. go n (dec_le 1 (life_at s a)))
      where
        go : (cell_at s a ≡ b → ⊥) → Dec (1 ≤ life_at s a) → P (read_back a b (write_at a b s))
        go n (yes l) =
            let i = alive_inside s a l in
            let e = (write_laws a b s).stored l (omega arith) in
            rw (eq-eqb _ b e) (g n l)
        go n (no l) =
            let w : life_at s a ≡ 0 = omega arith in
            rw ((write_laws a b s).worn w, ne_eqb _ b n) (h (record { worn = w; other = n }))

    -- all that is claimed, where there are as many lives as cells
    pub put_laws : PutLaws a b s
    put_laws = record {
      within = put_within;
      kept = within_kept put_within;
      held = put_held;
      failed = put_cases (λ r. r.answer ≡ false → Refuses a b s) (λ e f. absurd (true≢false f)) (λ n l f. absurd (true≢false f)) (λ r f. r);
      unchanged = put_cases (λ r. r.answer ≡ false → r ≡ run false (write a b ∷ []) 0 s) (λ e f. absurd (true≢false f)) (λ n l f. absurd (true≢false f)) (λ r f. refl);
      there = put_there;
      taken = λ n l. put_cases (λ r. r ≡ run true (write a b ∷ []) 0 (write_at a b s)) (λ e. absurd (n e)) (λ _ _. refl) (λ r. let z = r.worn in absurd (omega arith));
      alive = λ l. put_cases (λ r. r.answer ≡ true) (λ e. refl) (λ n k. refl) (λ r. let z = r.worn in absurd (omega arith));
      worn = λ w. put_cases (λ r. r.answer ≡ eqb (cell_at s a) b) (λ e. sym (eq-eqb _ b e)) (λ n l. absurd (omega arith)) (λ r. sym (ne_eqb _ b r.other));
      life = put_either (λ r. life_at r.after a ≡ life_at s a - length r.log) (λ e. omega arith) (λ n. (write_laws a b s).life);
      asked = put_either (λ r. (r.log ≡ []) ⊎ (r.log ≡ write a b ∷ [])) (λ e. inl refl) (λ n. inr refl);
      cost = put_cost;
      tried = put_tried;
    }

-- ## For code that puts: over what is said of it, `v`

module _ (a b : ℕ) (s : Chip) where
  -- what is said of a put that has written and read back
  pub put_back : {t : Chip} → t ≡ write_at a b s → (cell_at s a ≡ b → ⊥) → view (read_back a b t) ≡ view (put_at a b s)
  put_back e n = rw (e, put_asks a b s n)

  -- a put says of at most one write
  pub put_few : {v : Seen Bool} → v ≡ view (put_at a b s) → v.writes ≤ 1
  put_few e = rw e (put_cost a b s)

-- for code that puts on mains that can be lost
module _ {n x : ℕ} (a b : ℕ) {s : Chip} where
  -- no power is left for the write that is asked
  pub put_torn : {t : Chip} → n ≡ 0 → (cell_at s a ≡ b → ⊥) → t ≡ write_at a x s → Says (lost a t) n x (put_at a b s) s
  unfolding tear
  put_torn z d e = record { so = rw (z, put_asks a b s d, e) }

  -- there is power, or no write is asked
  pub put_whole : {v : Seen Bool} → (n ≡ 0 → cell_at s a ≡ b) → v ≡ view (put_at a b s) → Says (whole v) n x (put_at a b s) s
  put_whole h = says_enough (go (ℕ_discrete n 0))
    where
      go : Dec (n ≡ 0) → length (put_at a b s).log ≤ n
      go (yes z) = rw (put_there a b s (h z)) (omega arith)
      go (no d) = let few = put_cost a b s in omega arith
