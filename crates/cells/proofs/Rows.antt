-- Laws of bytes put at neighbouring cells: what it keeps, what it changes, what it costs.
use Rattle.std.proofs.Common.{Option, Some, None}
use Prim.Native.Nat.{ℕ, zero, suc, ◌+◌, ◌≤◌, ◌<◌}
use mathlib.Core.Path.{◌≡◌, refl, sym, ap, ◌∙◌}
use mathlib.Core.Bool.{Bool, true, false, true≢false}
use mathlib.Core.List.{List, [], ◌∷◌, ◌++◌, append_assoc}
use native.Mathlib.Nat.{zero-add, add-zero, add_assoc}
use native.Mathlib.Numerals.{add-one, one-add}
use native.Mathlib.Omega.{arith}
use lib.ListN.{length, get_or, drop, length-append}
use lib.Seq.{drop-cons, drop-length}
use Rattle.cells.specs.declared.row.Way.TheVariants.{Up}
use Rattle.cells.specs.Chip.{Chip, cell_at, life_at, Paired, Kept}
use Rattle.cells.specs.Run.{Run, Seen, seen, still, ◌then◌, ◌giving◌}
use Rattle.cells.specs.Log.{Within}
use Rattle.cells.specs.Put.{put_at}
use Rattle.cells.specs.Row.{next, put_row, InRow}
use Rattle.cells.specs.Cut.{Cut.whole, Cut.lost, Says}
use Rattle.cells.proofs.Views.{said_answer}
use Rattle.cells.proofs.Cuts.{Starts, starts_same, starts_append, Left, said_lost, said_view, said_ends, said_left}
use Rattle.cells.proofs.Writes.{kept_paired}
use Rattle.cells.proofs.Logs.{within_still, within_wider, within_cond, within_giving, within_then, within_kept}
use Rattle.cells.proofs.Addresses.{in_first, in_longer}
use Rattle.cells.proofs.Puts.{Refuses, put_there, put_within, put_cost, put_tried, put_held, put_laws}

-- ## What is claimed

-- a row stops at x: the cell there refuses its byte
pub record RowStopped (bs : List ℕ) (a : ℕ) (s : Chip) (x : ℕ) : Type 0 where
  pub index : ℕ
  pub inside : index < length bs
  pub here : x ≡ a + index
  pub refused : Refuses x (get_or bs index 0) s

-- what a row keeps, what it changes, and what it costs
pub record RowLaws (bs : List ℕ) (a : ℕ) (s : Chip) : Type 0 where
  pub within : Within (InRow (length bs) Up a) s (put_row bs a s)
  pub kept : Kept (InRow (length bs) Up a) s (put_row bs a s).after
  pub held : (put_row bs a s).answer ≡ None → (j : ℕ) → j < length bs → cell_at (put_row bs a s).after (a + j) ≡ get_or bs j 0
  pub failed : (x : ℕ) → (put_row bs a s).answer ≡ Some x → RowStopped bs a s x
  pub there : ((j : ℕ) → j < length bs → cell_at s (a + j) ≡ get_or bs j 0) → put_row bs a s ≡ still None s
  pub alive : ((j : ℕ) → j < length bs → 1 ≤ life_at s (a + j)) → (put_row bs a s).answer ≡ None
  pub cost : length (put_row bs a s).log ≤ length bs
  pub tried : (put_row bs a s).tried ≡ 0

-- ## Its proof

-- a row of no byte
pub row_none : (a : ℕ) (s : Chip) → put_row [] a s ≡ still None s
unfolding put_row
row_none a s = refl

module _ (b : ℕ) (bs : List ℕ) (a : ℕ) (s : Chip) where
  -- a row whose first put holds goes on with the next byte
  pub row_on : (put_at a b s).answer ≡ true → put_row (b ∷ bs) a s ≡ put_at a b s then put_row bs (a + 1) (put_at a b s).after
  unfolding put_row
  row_on h = rw h

  -- a row whose first put fails ends there
  pub row_stop : (put_at a b s).answer ≡ false → put_row (b ∷ bs) a s ≡ put_at a b s giving Some a
  unfolding put_row
  row_stop h = rw h

  -- whatever holds in both cases holds of a row
  row_either :
      (P : Run (Option ℕ) → Type 0)
      → ((put_at a b s).answer ≡ true → P (put_at a b s then put_row bs (a + 1) (put_at a b s).after))
      → ((put_at a b s).answer ≡ false → P (put_at a b s giving Some a))
      → P (put_row (b ∷ bs) a s)
  row_either P f g = go (put_at a b s).answer refl
    where
      go : (t : Bool) → (put_at a b s).answer ≡ t → P (put_row (b ∷ bs) a s)
      go true h = rw (row_on h) (f h)
      go false h = rw (row_stop h) (g h)

-- a row touches its cells alone
pub row_within : (bs : List ℕ) (a : ℕ) (s : Chip) → Within (InRow (length bs) Up a) s (put_row bs a s)
unfolding put_row next
row_within [] a s = within_still None s
row_within (b ∷ bs) a s =
    let first : Within (InRow (suc (length bs)) Up a) s (put_at a b s) = within_wider (λ c e. rw e (in_first (length bs) Up a)) (put_within a b s) in
    within_cond (put_at a b s).answer
    (within_then first (within_wider (in_longer (length bs) Up a) (row_within bs (a + 1) (put_at a b s).after)))
    (within_giving (Some a) first)

-- a row tries no spare
pub row_tried : (bs : List ℕ) (a : ℕ) (s : Chip) → (put_row bs a s).tried ≡ 0
unfolding put_row
row_tried [] a s = refl
row_tried (b ∷ bs) a s =
    let first = put_tried a b s in
    let rest = row_tried bs (a + 1) (put_at a b s).after in
    row_either b bs a s (λ r. r.tried ≡ 0) (λ h. omega arith) (λ h. first)

-- a row asks at most one write a byte
pub row_cost : (bs : List ℕ) (a : ℕ) (s : Chip) → length (put_row bs a s).log ≤ length bs
unfolding put_row
row_cost [] a s = omega arith
row_cost (b ∷ bs) a s =
    let first = put_cost a b s in
    let rest = row_cost bs (a + 1) (put_at a b s).after in
    row_either b bs a s (λ r. length r.log ≤ suc (length bs)) (λ h. rw length-append (omega arith)) (λ h. omega arith)

-- the first byte stays while the rest are put
row_first : (b : ℕ) (bs : List ℕ) (a : ℕ) (s : Chip) → (put_at a b s).answer ≡ true → cell_at (put_row bs (a + 1) (put_at a b s).after).after a ≡ b
row_first b bs a s h = (within_kept (row_within bs (a + 1) (put_at a b s).after)).cell a (λ i. omega arith) ∙ put_held a b s h

-- a row that all holds leaves its bytes
pub row_held : (bs : List ℕ) (a : ℕ) (s : Chip) → (put_row bs a s).answer ≡ None → (j : ℕ) → j < length bs → cell_at (put_row bs a s).after (a + j) ≡ get_or bs j 0
row_held [] a s = λ e j l. absurd (omega arith)
row_held (b ∷ bs) a s =
    row_either b bs a s
    (λ r. r.answer ≡ None → (j : ℕ) → j < suc (length bs) → cell_at r.after (a + j) ≡ get_or (b ∷ bs) j 0)
    (λ h e. go h (row_held bs (a + 1) (put_at a b s).after e))
    (λ h e j l. cc)
  where
    rest : Run (Option ℕ)
    rest = put_row bs (a + 1) (put_at a b s).after

    go : (put_at a b s).answer ≡ true → ((j : ℕ) → j < length bs → cell_at rest.after (a + 1 + j) ≡ get_or bs j 0) → (j : ℕ) → j < suc (length bs) → cell_at rest.after (a + j) ≡ get_or (b ∷ bs) j 0
    go h f zero l = rw add-zero (row_first b bs a s h)
    go h f (suc j) l = let e : a + suc j ≡ a + 1 + j = omega arith in rw e (f j (omega arith))

-- nowhere is no address
nowhere≢at : (x : ℕ) → None ≡ Some x → ⊥
nowhere≢at x e = true≢false cc

-- what refuses a byte behind a put elsewhere refused it before
still_refuses : (a b x c : ℕ) (s : Chip) → (x ≡ a → ⊥) → Refuses x c (put_at a b s).after → Refuses x c s
still_refuses a b x c s n r =
    let k = within_kept (put_within a b s) in
    record { worn = sym (k.life x n) ∙ r.worn; other = λ e. r.other (k.cell x n ∙ e) }

-- a row fails where a cell refuses its byte
pub row_failed : (bs : List ℕ) (a : ℕ) (s : Chip) → Paired s → (x : ℕ) → (put_row bs a s).answer ≡ Some x → RowStopped bs a s x
unfolding put_row
row_failed [] a s p x = λ e. absurd (nowhere≢at x e)
row_failed (b ∷ bs) a s p x =
    row_either b bs a s
    (λ r. r.answer ≡ Some x → RowStopped (b ∷ bs) a s x)
    (λ h e. go (row_failed bs (a + 1) (put_at a b s).after (kept_paired (within_kept (put_within a b s)) p) x e))
    (λ h e. let same : a ≡ x = cc in record { index = 0; inside = omega arith; here = omega arith; refused = rw same at ((put_laws a b s p).failed h) })
  where
    go : RowStopped bs (a + 1) (put_at a b s).after x → RowStopped (b ∷ bs) a s x
    go t = record {
      index = suc t.index;
      inside = omega arith;
      here = omega arith;
      refused = still_refuses a b x (get_or bs t.index 0) s (omega arith) t.refused;
    }

-- a row of what is there asks nothing and changes nothing
pub row_there : (bs : List ℕ) (a : ℕ) (s : Chip) → ((j : ℕ) → j < length bs → cell_at s (a + j) ≡ get_or bs j 0) → put_row bs a s ≡ still None s
unfolding put_row
row_there [] a s f = refl
row_there (b ∷ bs) a s f =
    let here : cell_at s a ≡ b = rw add-zero at (f 0 (omega arith)) in
    let others = row_there bs (a + 1) s (λ j l. rw (add_assoc, one-add) (f (suc j) (omega arith))) in
    rw (put_there a b s here, others)

-- a row all of whose cells have life holds
pub row_alive : (bs : List ℕ) (a : ℕ) (s : Chip) → Paired s → ((j : ℕ) → j < length bs → 1 ≤ life_at s (a + j)) → (put_row bs a s).answer ≡ None
unfolding put_row
row_alive [] a s p f = refl
row_alive (b ∷ bs) a s p f =
    let k = within_kept (put_within a b s) in
    let here : 1 ≤ life_at s a = rw add-zero at (f 0 (omega arith)) in
    let rest = row_alive bs (a + 1) (put_at a b s).after (kept_paired k p) (λ j l. rw (k.life (a + 1 + j) (omega arith), add_assoc, one-add) (f (suc j) (omega arith))) in
    rw ((put_laws a b s p).alive here) rest

-- ## A row in two pieces

module _ (cs : List ℕ) where
  -- behind a row that holds, the second piece is put at the cells that come next
  abbrev Behind : List ℕ → ℕ → Chip → Type 0
  Behind bs a s = (put_row bs a s).answer ≡ None → put_row (bs ++ cs) a s ≡ put_row bs a s then put_row cs (a + length bs) (put_row bs a s).after

  pub row_behind : (bs : List ℕ) (a : ℕ) (s : Chip) → Behind bs a s
  unfolding put_row
  row_behind [] a s = λ e. rw (add-zero, zero-add)
  row_behind (b ∷ bs) a s = go (put_at a b s).answer refl (row_behind bs (a + 1) (put_at a b s).after)
    where
      go : (t : Bool) → (put_at a b s).answer ≡ t → Behind bs (a + 1) (put_at a b s).after → Behind (b ∷ bs) a s
      go true h later = rw h (λ e. let sum : a + suc (length bs) ≡ a + 1 + length bs = omega arith in rw (sum, later e, append_assoc, add_assoc (put_at a b s).tried _ _))
      go false h later = rw h (λ e. cc)

  -- a row that stops is all there is
  abbrev Alone : ℕ → List ℕ → ℕ → Chip → Type 0
  Alone x bs a s = (put_row bs a s).answer ≡ Some x → put_row (bs ++ cs) a s ≡ put_row bs a s

  pub row_alone : (x : ℕ) (bs : List ℕ) (a : ℕ) (s : Chip) → Alone x bs a s
  unfolding put_row
  row_alone x [] a s = λ e. absurd (nowhere≢at x e)
  row_alone x (b ∷ bs) a s = go (put_at a b s).answer refl (row_alone x bs (a + 1) (put_at a b s).after)
    where
      go : (t : Bool) → (put_at a b s).answer ≡ t → Alone x bs (a + 1) (put_at a b s).after → Alone x (b ∷ bs) a s
      go true h later = rw h (λ e. rw (later e))
      go false h later = rw h (λ e. refl)

-- all that is claimed, where there are as many lives as cells
pub row_laws : (bs : List ℕ) (a : ℕ) (s : Chip) → Paired s → RowLaws bs a s
row_laws bs a s p = record {
  within = row_within bs a s;
  kept = within_kept (row_within bs a s);
  held = row_held bs a s;
  failed = row_failed bs a s p;
  there = row_there bs a s;
  alive = row_alive bs a s p;
  cost = row_cost bs a s;
  tried = row_tried bs a s;
}

-- ## For code that puts a row: over what is said of its put

-- what is left of a row when i of its bytes have been put
abbrev pub row_left : List ℕ → ℕ → ℕ → Chip → Run (Option ℕ)
row_left bytes a i s = put_row (drop i bytes) (a + i) s

module _ (bytes : List ℕ) (a : ℕ) where
  -- at first, all of it
  pub row_left_all : (s : Chip) → row_left bytes a 0 s ≡ put_row bytes a s
  row_left_all s = rw add-zero

  -- at the end, nothing
  pub row_left_none : (i : ℕ) (s : Chip) → i ≡ length bytes → row_left bytes a i s ≡ still None s
  unfolding put_row
  row_left_none i s e = rw (e, drop-length bytes)

  module _ (i : ℕ) (s : Chip) (inside : i < length bytes) where
    -- there is a byte left
    more : row_left bytes a i s ≡ put_row (get_or bytes i 0 ∷ drop (i + 1) bytes) (a + i) s
    more = rw (drop-cons bytes i 0, add-one)

    starts : Starts (put_at (a + i) (get_or bytes i 0) s).log (row_left bytes a i s).log
    starts =
        rw more
        (row_either (get_or bytes i 0) (drop (i + 1) bytes) (a + i) s (λ r. Starts (put_at (a + i) (get_or bytes i 0) s).log r.log)
        (λ h. starts_append (put_at (a + i) (get_or bytes i 0) s).log _)
        (λ h. starts_same (put_at (a + i) (get_or bytes i 0) s).log))

    -- the power was lost
    pub row_left_lost : {n x y : ℕ} {t : Chip} → Says (lost y t) n x (put_at (a + i) (get_or bytes i 0) s) s → Says (lost y t) n x (row_left bytes a i s) s
    row_left_lost e = said_lost e starts

    module _ {n x : ℕ} {v : Seen Bool} (e : Says (whole v) n x (put_at (a + i) (get_or bytes i 0) s) s) where
      -- a put tries no spare
      untried : v.tried ≡ 0
      untried = ap (λ (w : Seen Bool). w.tried) (said_view e) ∙ put_tried (a + i) (get_or bytes i 0) s

      -- the put of the byte numbered i held
      pub row_left_held : v.answer ≡ true → Left v.writes 0 n x (row_left bytes a i s) s (row_left bytes a (i + 1) v.after) v.after
      row_left_held h =
          rw (more, row_on (get_or bytes i 0) (drop (i + 1) bytes) (a + i) s (said_answer (put_at (a + i) (get_or bytes i 0) s) (said_view e) h), ← add_assoc a i 1)
          (rw untried at (said_left e (put_row (drop (i + 1) bytes) (a + i + 1)) (put_within (a + i) (get_or bytes i 0) s).logged))

      -- the put of the byte numbered i failed
      pub row_left_failed : v.answer ≡ false → Says (whole (seen (Some (a + i)) v.writes 0 v.after)) n x (row_left bytes a i s) s
      row_left_failed h =
          rw (more, row_stop (get_or bytes i 0) (drop (i + 1) bytes) (a + i) s (said_answer (put_at (a + i) (get_or bytes i 0) s) (said_view e) h))
          (rw untried at (said_ends e {x = Some (a + i)}))
