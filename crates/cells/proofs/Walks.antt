-- Laws of a walk along a row of cells: what it keeps, what it changes, what it costs.
--   asks_each                 each cell of a row is asked
--   try_put                   a cell tried is a put, counted
use Rattle.std.proofs.Common.{Option, Some, None}
use Prim.Native.Nat.{ℕ, zero, suc, ◌+◌, ◌-◌, ◌≤◌, ◌<◌}
use mathlib.Core.Path.{◌≡◌, refl, ap, ◌∙◌}
use mathlib.Core.Bool.{Bool, true, false}
use mathlib.Core.List.{[], ◌∷◌, ◌++◌}
use native.Mathlib.Nat.{sub-zero, sub_self}
use native.Mathlib.Numerals.{one-add}
use native.Mathlib.Omega.{arith}
use lib.ListN.{length, length-append}
use Rattle.cells.specs.declared.row.Way.{Way}
use Rattle.cells.specs.declared.row.Way.TheVariants.{Up, Down}
use Rattle.cells.specs.Chip.{Chip, life_at, Paired, Kept}
use Rattle.cells.specs.Run.{still, write, Run, run, Seen, seen, view, ◌then◌, ◌giving◌}
use Rattle.cells.specs.Log.{asked_of, Within}
use Rattle.cells.specs.Put.{put_at}
use Rattle.cells.specs.Row.{next, nth, InRow, try_at, walk, asks}
use Rattle.cells.specs.Cut.{Cut.whole, Cut.lost, Says}
use Rattle.cells.proofs.Views.{said_answer}
use Rattle.cells.proofs.Cuts.{Starts, starts_same, starts_append, Left, says_enough, said_lost, said_view, said_enough, said_ends, said_left}
use Rattle.cells.proofs.Logs.{asked_here, asked_append, within_still, within_wider, within_cond, within_giving, within_then, within_kept}
use Rattle.cells.proofs.Addresses.{nth_zero, nth_next, nth_suc, in_first, in_longer}
use Rattle.cells.proofs.Puts.{Refuses, put_within, put_cost, put_failed, put_laws}

-- ## What is claimed

-- a walk misses: each of its cells was asked and refuses the byte, and the chip is as it was
pub record Missed (n : ℕ) (way : Way) (a b : ℕ) (s : Chip) : Type 0 where
  pub refused : (j : ℕ) → j < n → Refuses (nth way a j) b s
  pub comes : walk n way a b s ≡ run None (asks n way a b) n s

-- a walk hits: the cells before were asked and refuse the byte, and the put there, on the chip as it was, holds
pub record Hit (n : ℕ) (way : Way) (a b : ℕ) (s : Chip) : Type 0 where
  pub index : ℕ
  pub inside : index < n
  pub refused : (j : ℕ) → j < index → Refuses (nth way a j) b s
  pub held : (put_at (nth way a index) b s).answer ≡ true
  pub comes :
      walk n way a b s
      ≡ run
      (Some (nth way a index))
      (asks index way a b ++ (put_at (nth way a index) b s).log)
      (index + 1)
      (put_at (nth way a index) b s).after

-- what a walk comes to
pub data Walking (n : ℕ) (way : Way) (a b : ℕ) (s : Chip) : Type 0 where
  missed : Missed n way a b s → Walking n way a b s
  hit : Hit n way a b s → Walking n way a b s

-- what a walk keeps, what it changes, and what it costs
pub record WalkLaws (n : ℕ) (way : Way) (a b : ℕ) (s : Chip) : Type 0 where
  pub within : Within (InRow n way a) s (walk n way a b s)
  pub kept : Kept (InRow n way a) s (walk n way a b s).after
  pub walking : Walking n way a b s
  pub first : 1 ≤ n → 1 ≤ life_at s a → walk n way a b s ≡ try_at a b s giving Some a
  pub cost : length (walk n way a b s).log ≤ (walk n way a b s).tried
  pub tried : (walk n way a b s).tried ≤ n

-- ## Its proof

-- one write for each cell
pub asks_length : (n : ℕ) (way : Way) (a b : ℕ) → length (asks n way a b) ≡ n
unfolding asks
asks_length zero way a b = refl
asks_length (suc n) way a b = ap suc (asks_length n way (next way a) b)

-- each cell of the row is asked
pub asks_each : (n : ℕ) (way : Way) (a b j : ℕ) → j < n → 1 ≤ asked_of (nth way a j) (asks n way a b)
unfolding asks
asks_each zero way a b j l = absurd (omega arith)
asks_each (suc n) way a b zero l = rw nth_zero (let h = asked_here a a (write a b) (asks n way (next way a) b) (omega arith) (omega arith) in omega arith)
asks_each (suc n) way a b (suc j) l =
    let c = nth way (next way a) j in
    let h = asks_each n way (next way a) b j (omega arith) in
    rw (← nth_suc) (let h' = asked_append c c (write a b ∷ []) (asks n way (next way a) b) in omega arith)

-- the neighbour is the next cell of the row
pub next_nth : (way : Way) (a : ℕ) → next way a ≡ nth way a 1
unfolding next
next_nth Up a = refl
next_nth Down a = refl

-- a walk over no cell
pub walk_none : (way : Way) (a b : ℕ) (s : Chip) → walk 0 way a b s ≡ still None s
unfolding walk
walk_none way a b s = refl

module _ (n : ℕ) (way : Way) (a b : ℕ) (s : Chip) where
  -- a walk whose first put holds ends there
  pub walk_hit : (put_at a b s).answer ≡ true → walk (suc n) way a b s ≡ try_at a b s giving Some a
  unfolding walk try_at
  walk_hit h = rw h

  -- a walk whose first put fails goes on with the neighbour
  pub walk_miss : (put_at a b s).answer ≡ false → walk (suc n) way a b s ≡ try_at a b s then walk n way (next way a) b (put_at a b s).after
  unfolding walk try_at
  walk_miss h = rw h

  -- whatever holds in both cases holds of a walk
  walk_either :
      (P : Run (Option ℕ) → Type 0)
      → ((put_at a b s).answer ≡ true → P (try_at a b s giving Some a))
      → ((put_at a b s).answer ≡ false → P (try_at a b s then walk n way (next way a) b (put_at a b s).after))
      → P (walk (suc n) way a b s)
  walk_either P f g = go (put_at a b s).answer refl
    where
      go : (t : Bool) → (put_at a b s).answer ≡ t → P (walk (suc n) way a b s)
      go true h = rw (walk_hit h) (f h)
      go false h = rw (walk_miss h) (g h)

  -- a cell tried is a cell of the row
  try_within : Within (InRow (suc n) way a) s (try_at a b s)
  unfolding try_at
  try_within =
      let w = put_within a b s in
      within_wider (λ c e. rw e (in_first n way a)) (record { logged = w.logged; places = w.places })

  -- a hit at the first cell
  hit_first : (put_at a b s).answer ≡ true → Walking (suc n) way a b s
  unfolding asks try_at
  hit_first h = hit (record {
    index = 0;
    inside = omega arith;
    refused = λ j l. absurd (omega arith);
    held = rw nth_zero h;
    comes = rw (walk_hit h, nth_zero);
  })

  module _ (f : (put_at a b s).answer ≡ false) (p : Paired s) where
    -- the chip is as it was, so the walk goes on from there
    goes : walk (suc n) way a b s ≡ run false (write a b ∷ []) 1 s then walk n way (next way a) b s
    unfolding try_at
    goes = rw (walk_miss f, (put_laws a b s p).unchanged f)

    -- the first cell refuses the byte, as those behind it do
    refused_too : {m : ℕ} → ((j : ℕ) → j < m → Refuses (nth way (next way a) j) b s) → (j : ℕ) → j < suc m → Refuses (nth way a j) b s
    refused_too r zero l = rw nth_zero ((put_laws a b s p).failed f)
    refused_too r (suc j) l = rw nth_suc at (r j (omega arith))

    -- a walk that misses or hits from the neighbour on does so from here on
    passed : Walking n way (next way a) b s → Walking (suc n) way a b s
    unfolding asks
    passed (missed m) = missed (record { refused = refused_too m.refused; comes = rw (goes, m.comes, one-add) })
    passed (hit m) = hit (record {
      index = suc m.index;
      inside = omega arith;
      refused = refused_too m.refused;
      held = rw (← nth_suc) m.held;
      comes = let e : 1 + (m.index + 1) ≡ suc m.index + 1 = omega arith in rw (goes, ← nth_suc, m.comes, e);
    })

-- a walk misses, or hits its first cell that takes the byte
pub walking : (n : ℕ) (way : Way) (a b : ℕ) (s : Chip) → Paired s → Walking n way a b s
unfolding walk asks
walking zero way a b s p = missed (record { refused = λ j l. absurd (omega arith); comes = refl })
walking (suc n) way a b s p = go (walking n way (next way a) b s p) (put_at a b s).answer refl
  where
    go : Walking n way (next way a) b s → (t : Bool) → (put_at a b s).answer ≡ t → Walking (suc n) way a b s
    go w true h = hit_first n way a b s h
    go w false h = passed n way a b s h p w

-- a walk touches the cells of its row alone
pub walk_within : (n : ℕ) (way : Way) (a b : ℕ) (s : Chip) → Within (InRow n way a) s (walk n way a b s)
unfolding walk
walk_within zero way a b s = within_still None s
walk_within (suc n) way a b s =
    let rest = walk_within n way (next way a) b (try_at a b s).after in
    within_cond (try_at a b s).answer
    (within_giving (Some a) (try_within n way a b s))
    (within_then (try_within n way a b s) (within_wider (in_longer n way a) rest))

-- a walk whose first cell has life ends there
walk_first : (n : ℕ) (way : Way) (a b : ℕ) (s : Chip) → Paired s → 1 ≤ n → 1 ≤ life_at s a → walk n way a b s ≡ try_at a b s giving Some a
walk_first zero way a b s p h l = absurd (omega arith)
walk_first (suc n) way a b s p h l = walk_hit n way a b s ((put_laws a b s p).alive l)

-- a walk asks at most one write of each cell tried, and tries no more than there are
pub walk_cost : (n : ℕ) (way : Way) (a b : ℕ) (s : Chip) → (length (walk n way a b s).log ≤ (walk n way a b s).tried) × ((walk n way a b s).tried ≤ n)
unfolding walk try_at
walk_cost zero way a b s = (omega arith, omega arith)
walk_cost (suc n) way a b s =
    let first = put_cost a b s in
    let rest = walk_cost n way (next way a) b (put_at a b s).after in
    walk_either n way a b s
    (λ r. (length r.log ≤ r.tried) × (r.tried ≤ suc n))
    (λ h. (first, omega arith))
    (λ h. (rw length-append (omega arith), omega arith))

-- all that is claimed, where there are as many lives as cells
pub walk_laws : (n : ℕ) (way : Way) (a b : ℕ) (s : Chip) → Paired s → WalkLaws n way a b s
walk_laws n way a b s p = record {
  within = walk_within n way a b s;
  kept = within_kept (walk_within n way a b s);
  walking = walking n way a b s p;
  first = walk_first n way a b s p;
  cost = (walk_cost n way a b s).0;
  tried = (walk_cost n way a b s).1;
}

-- ## For code that walks: over what is said of its put

-- what is left of a walk of so many cells when j of them have been passed over
abbrev pub walk_left : ℕ → Way → ℕ → ℕ → ℕ → Chip → Run (Option ℕ)
walk_left cells way a b j s = walk (cells - j) way (nth way a j) b s

module _ (cells : ℕ) (way : Way) (a b : ℕ) where
  -- at first, all of it
  pub walk_left_all : (s : Chip) → walk_left cells way a b 0 s ≡ walk cells way a b s
  walk_left_all s = rw (nth_zero, sub-zero)

  -- at the end, nothing
  pub walk_left_none : (j : ℕ) (s : Chip) → j ≡ cells → walk_left cells way a b j s ≡ still None s
  unfolding walk
  walk_left_none j s e = rw (e, sub_self)

  module _ (j at : ℕ) (s : Chip) (inside : j < cells) (here : at ≡ nth way a j) where
    -- there is a cell left
    more : walk_left cells way a b j s ≡ walk (suc (cells - (j + 1))) way at b s
    more = let count : cells - j ≡ suc (cells - (j + 1)) = omega arith in rw (count, ← here)

    starts : Starts (put_at at b s).log (walk_left cells way a b j s).log
    unfolding try_at
    starts = rw more (walk_either (cells - (j + 1)) way at b s (λ r. Starts (put_at at b s).log r.log) (λ h. starts_same (put_at at b s).log)
        (λ h. starts_append (put_at at b s).log _))

    -- the power was lost
    pub walk_left_lost : {n x y : ℕ} {t : Chip} → Says (lost y t) n x (put_at at b s) s → Says (lost y t) n x (walk_left cells way a b j s) s
    walk_left_lost e = said_lost e starts

    module _ {n x : ℕ} {v : Seen Bool} (e : Says (whole v) n x (put_at at b s) s) where
      -- what is said of the put, as a cell tried
      tried : Says (whole (seen v.answer v.writes 1 v.after)) n x (try_at at b s) s
      unfolding try_at
      tried = let said = said_view e in says_enough (rw said at (said_enough e)) (rw said)

      -- the put at the j-th cell held
      pub walk_left_held : v.answer ≡ true → Says (whole (seen (Some at) v.writes 1 v.after)) n x (walk_left cells way a b j s) s
      walk_left_held h =
          rw (more, walk_hit (cells - (j + 1)) way at b s (said_answer (put_at at b s) (said_view e) h)) (said_ends tried)

      -- the put at the j-th cell failed
      pub walk_left_passed : v.answer ≡ false → Left 1 1 n x (walk_left cells way a b j s) s (walk_left cells way a b (j + 1) v.after) v.after
      unfolding try_at
      walk_left_passed h =
          let said = said_view e in
          let failed = said_answer (put_at at b s) said h in
          let one : v.writes ≡ 1 = ap (λ (w : Seen Bool). w.writes) said ∙ ap length (put_failed at b s failed) in
          rw (more, walk_miss (cells - (j + 1)) way at b s failed, ← nth_next, ← here)
          (rw one at (said_left tried (walk (cells - (j + 1)) way (next way at) b) (try_within 0 way at b s).logged))

-- a walk says of at most a write and a try for each cell
pub walk_few : (n : ℕ) (way : Way) (a b : ℕ) (s : Chip) {v : Seen (Option ℕ)} → v ≡ view (walk n way a b s) → (v.writes ≤ v.tried) × (v.tried ≤ n)
walk_few n way a b s e = rw e (walk_cost n way a b s)

-- a cell tried is a put, counted
pub try_put : (a b : ℕ) (s : Chip) → try_at a b s ≡ run (put_at a b s).answer (put_at a b s).log 1 (put_at a b s).after
unfolding try_at
try_put a b s = refl
