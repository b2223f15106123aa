-- What is said of a first opening on mains that can be lost, one law a turn: over what functions have said of its pieces, `v`.
--   ready_same                a chip of the same lengths is as ready
--   whole_fits, narrow_fits   the gaps of a first opening fit the image
--   take_left, take_left_..   what is left of taking addresses
--   served_some, served_all   whether it served every slot
--   Taking, taking_..         how a taking stands between two turns, and its end
--   turn_..                   one turn of it
--   mark_works, mark_tried    the mark
--   opening_lost, opening_stopped, opening_left  the whole, by how its taking ended
--   map_tried                 putting the map tries no spare
use Rattle.std.proofs.Common.{◌≡◌, ℕ, suc, ◌+◌, ◌-◌, ◌%◌, ◌<◌, ◌≤◌, Bool, true, false, List, [], ◌∷◌, ◌++◌, length, take, sym, refl, ap, subst, ◌∙◌, append_assoc, append-nil, zero-add, arith, length-append, le-ltb, lt-ltb, Err}
use native.Mathlib.Nat.{sub-zero, sub_self}
use Rattle.code.specs.Codes.{code_of}
use Rattle.cells.specs.declared.mains.Mains.{Mains}
use Rattle.cells.specs.Chip.{Chip, Paired}
use Rattle.cells.specs.Run.{Run, Seen, run, seen, still, ◌then◌, ◌giving◌}
use Rattle.cells.specs.Put.{put_at}
use Rattle.cells.specs.Row.{put_row}
use Rattle.cells.specs.Cut.{Cut, Cut.whole, Cut.lost, Says}
use Rattle.cells.proofs.Views.{said_answer, said_after}
use Rattle.cells.proofs.Writes.{kept_paired}
use Rattle.cells.proofs.Logs.{within_kept}
use Rattle.cells.proofs.Puts.{put_within, put_tried, put_laws}
use Rattle.cells.proofs.Walks.{try_put}
use Rattle.cells.proofs.Rows.{row_tried}
use Rattle.cells.proofs.Cuts.{Starts, starts_same, starts_append, Left, left_on, left_says, left_none, said_lost, said_view, said_enough, said_ends, said_left}
use Rattle.counter.specs.declared.map.Kind.{Kind}
use Rattle.counter.specs.declared.map.Kind.TheVariants.{High, Low}
use Rattle.counter.specs.declared.places.Places.{Places}
use Rattle.counter.specs.declared.spares.Gap.{Gap}
use Rattle.counter.specs.declared.opening.Takings.{Takings}
use Rattle.counter.specs.declared.verdict.Refusal.TheVariants.{NoSpare}
use Rattle.counter.specs.Layout.{Layout, slots}
use Rattle.counter.specs.Slots.{kind_of}
use Rattle.counter.specs.Map.{offset_in, offset_of, mark_bytes, pointer_bytes}
use Rattle.counter.specs.Spares.{whole_area, narrow, next_of, spares_of}
use Rattle.counter.specs.Verdict.{◌and_then◌, Work, complete}
use Rattle.counter.specs.Store.{mapped}
use Rattle.counter.specs.Opening.{Taken, taken, take_from, put_pointers, put_mark, untried, first_opening}
use Rattle.counter.specs.Inside.{pointer_row, served, map_row, Next, Took}
use Rattle.counter.proofs.Offsets.{kind_high}
use Rattle.counter.proofs.Gaps.{Free}
use Rattle.counter.proofs.Ready.{Ready, ready_placed, ready_kept}
use Rattle.counter.proofs.Tries.{room, Trying, Trying.missing, Trying.landing, try_laws}
use Rattle.counter.proofs.Behind.{works_lost}
use Rattle.counter.proofs.StoreViews.{GapFits}
use Rattle.counter.proofs.PointerRows.{pointers_row, row_more}
use Rattle.counter.proofs.NextSpares.{next_free, next_room, narrow_behind, spares_none, spares_held, spares_passed}
use Rattle.counter.proofs.Takes.{AllTaken, take_laws}
use Rattle.counter.proofs.Openings.{map_laws}
use Rattle.counter.proofs.WorkSteps.{opening_on, opening_ends}

-- ## Settings

-- a chip of the same lengths is as ready
pub ready_same : {layout : Layout} {p : Places} {s t : Chip} → Ready layout p s → length t.cells ≡ length s.cells → length t.lives ≡ length s.lives → Ready layout p t
ready_same ready e f = record { paired = f ∙ ready.paired ∙ sym e; long = rw e ready.long; good = rw e ready.good }

-- ## Gaps

pub whole_fits : {layout : Layout} {p : Places} {s : Chip} → Ready layout p s → GapFits (length s.cells) (whole_area p)
unfolding whole_area
whole_fits ready = let placed = ready_placed ready in record { first = placed.start_low; reach = omega arith; ordered = omega arith; inside = omega arith }

narrow_fits : {size a : ℕ} {g : Gap} (kind : Kind) → GapFits size g → Free kind g a → GapFits size (narrow kind a g)
unfolding narrow
narrow_fits High fits free = let h = free.reach refl in record { first = omega arith; reach = omega arith; ordered = omega arith; inside = fits.inside }
narrow_fits Low fits free = record { first = fits.first; reach = fits.reach; ordered = omega arith; inside = omega arith }

-- ## Addresses taken

-- what is left of the taking for n slots when the first k have these addresses
unfoldable pub take_left : ℕ → ℕ → List ℕ → Gap → Chip → Run Taken
take_left n k xs g s = let r = take_from (n - k) k g s in run (taken r.answer.work (xs ++ r.answer.addresses)) r.log 0 r.after

module _ (n : ℕ) where
  -- at first, all of it
  pub take_left_all : (g : Gap) (s : Chip) → take_left n 0 [] g s ≡ untried (take_from n 0 g s)
  unfolding take_left
  take_left_all g s = rw sub-zero

  -- every slot has its address
  take_left_none : (k : ℕ) (xs : List ℕ) (g : Gap) (s : Chip) → k ≡ n → take_left n k xs g s ≡ still (taken complete xs) s
  unfolding take_left take_from
  take_left_none k xs g s e = rw (e, sub_self, append-nil)

  module _ (k : ℕ) (xs : List ℕ) (g : Gap) (s : Chip) (inside : k < n) where
    more : n - k ≡ suc (n - (k + 1))
    more = omega arith

    -- no spare is left for the next
    take_left_roomless : spares_of (kind_of k) g ≡ 0 → take_left n k xs g s ≡ still (taken (Err (NoSpare k)) xs) s
    unfolding take_left take_from
    take_left_roomless none = rw (more, spares_none k g (code_of 0) s none, append-nil xs)

    module _ (some : 0 < spares_of (kind_of k) g) (paired : Paired s) where
      abbrev at : ℕ
      at = next_of (kind_of k) g

      abbrev first : Run Bool
      first = put_at at (code_of 0) s

      abbrev left : Gap
      left = narrow (kind_of k) at g

      -- the next address holds, and is taken
      held : first.answer ≡ true → take_left n k xs g s ≡ first then take_left n (k + 1) (xs ++ at ∷ []) left first.after
      unfolding take_left take_from
      held h = rw (more, spares_held k g (code_of 0) s some h, try_put, put_tried, append_assoc)

      -- it fails, and is passed over
      passed : first.answer ≡ false → take_left n k xs g s ≡ first then take_left n k xs left first.after
      passed h = go (try_laws k left (code_of 0) first.after (kept_paired (put_laws at (code_of 0) s paired).kept paired)).trying
        where
          go : Trying k left (code_of 0) first.after → take_left n k xs g s ≡ first then take_left n k xs left first.after
          go (missing t) = unfold take_left take_from in rw (more, spares_passed k g (code_of 0) s some h, try_put, t.nowhere, put_tried, append_assoc first.log)
          go (landing t) = unfold take_left take_from in rw (more, spares_passed k g (code_of 0) s some h, try_put, t.here, narrow_behind (kind_of k) g _ t.place t.free, put_tried, append_assoc first.log)

      -- so it starts with that put
      starts : Starts first.log (take_left n k xs g s).log
      starts = go first.answer refl
        where
          go : (held-or-not : Bool) → first.answer ≡ held-or-not → Starts first.log (take_left n k xs g s).log
          go true h = rw (held h) (starts_append first.log _)
          go false h = rw (passed h) (starts_append first.log _)

      take_left_lost : {m b y : ℕ} {t : Chip} → Says (lost y t) m b first s → Says (lost y t) m b (take_left n k xs g s) s
      take_left_lost e = said_lost e starts

      module _ {m b : ℕ} {v : Seen Bool} (e : Says (whole v) m b first s) where
        none_tried : v.tried ≡ 0
        none_tried = ap (λ (u : Seen Bool). u.tried) (said_view e) ∙ put_tried at (code_of 0) s

        take_left_held : v.answer ≡ true → Left v.writes 0 m b (take_left n k xs g s) s (take_left n (k + 1) (xs ++ at ∷ []) left v.after) v.after
        take_left_held h =
            rw (held (said_answer first (said_view e) h))
            (rw none_tried at (said_left e (take_left n (k + 1) (xs ++ at ∷ []) left) (put_within at (code_of 0) s).logged))

        take_left_passed : v.answer ≡ false → Left v.writes 0 m b (take_left n k xs g s) s (take_left n k xs left v.after) v.after
        take_left_passed h =
            rw (passed (said_answer first (said_view e) h))
            (rw none_tried at (said_left e (take_left n k xs left) (put_within at (code_of 0) s).logged))

module _ (layout : Layout) (k : ℕ) where
  pub served_some : k < slots layout → served layout k ≡ Err (NoSpare k)
  served_some inside = rw (lt-ltb k (slots layout) inside)

  pub served_all : slots layout ≤ k → served layout k ≡ complete
  served_all all = rw (le-ltb k (slots layout) all)

-- when the first k slots have their addresses, laid as pointers in an array up to an index, at so many writes: the chip, and what is left to be taken
pub record Taking (n power torn : ℕ) (g₀ : Gap) (s₀ s : Chip) (bytes : List ℕ) (end : ℕ) (g : Gap) (w k : ℕ) : Type 0 where
  pub addresses : List ℕ
  pub many : length addresses ≡ k
  pub row : take end bytes ≡ pointer_row addresses 0
  pub place : end + 2 ≡ offset_of k
  pub most : k ≤ n
  pub size : length bytes ≡ 33
  pub cells_kept : length s.cells ≡ length s₀.cells
  pub lives_kept : length s.lives ≡ length s₀.lives
  pub fits : GapFits (length s₀.cells) g
  pub rest : Left w 0 power torn (untried (take_from n 0 g₀ s₀)) s₀ (take_left n k addresses g s) s

pub taking_paired : {n power torn : ℕ} {g₀ : Gap} {s₀ s : Chip} {bytes : List ℕ} {end : ℕ} {g : Gap} {w k : ℕ} → Taking n power torn g₀ s₀ s bytes end g w k → Paired s₀ → Paired s
taking_paired taking paired = taking.lives_kept ∙ paired ∙ sym taking.cells_kept

-- the bytes laid are those of the addresses taken
pub taking_row : {n power torn : ℕ} {g₀ : Gap} {s₀ s : Chip} {bytes : List ℕ} {end : ℕ} {g : Gap} {w k : ℕ} (taking : Taking n power torn g₀ s₀ s bytes end g w k)
    → take (offset_of k - 2) bytes ≡ pointer_row taking.addresses 0
taking_row {end = end} {k = k} taking = let same : offset_of k - 2 ≡ end = omega (arith, taking.place) in rw same taking.row

-- what a taking comes to
abbrev takings : List ℕ → ℕ → ℕ → Takings
takings bytes count writes = record { bytes = bytes; count = count; writes = writes }

-- the end of it: every slot has its address, or no spare is left for the next
module _ (layout : Layout) (p : Places) {mains : Mains} {s₀ s : Chip} {bytes : List ℕ} {end : ℕ} {g : Gap} {w k : ℕ} (taking : Taking (slots layout) mains.power mains.torn (whole_area p) s₀ s bytes end g w k) where
  pub taking_done : slots layout ≤ k → Took layout p (takings bytes k w) s mains s₀
  taking_done all =
      record {
        few = taking.most;
        size = taking.size;
        addresses = taking.addresses;
        row = taking_row taking;
        says = let most = taking.most in rw (served_all layout k all) (left_none taking.rest (take_left_none (slots layout) k taking.addresses g s (omega arith)));
      }

  pub taking_roomless : k < slots layout → spares_of (kind_of k) g ≡ 0 → Took layout p (takings bytes k w) s mains s₀
  taking_roomless inside none =
      record {
        few = taking.most;
        size = taking.size;
        addresses = taking.addresses;
        row = taking_row taking;
        says = rw (served_some layout k inside) (left_none taking.rest (take_left_roomless (slots layout) k taking.addresses g s inside none));
      }

-- one turn: the next address is tried
module _ {n power torn : ℕ} {g₀ : Gap} {s₀ s : Chip} {bytes : List ℕ} {end : ℕ} {g : Gap} {w k : ℕ}
    (taking : Taking n power torn g₀ s₀ s bytes end g w k) (inside : k < n) {a : ℕ} {left : Gap} (next : Next (kind_of k) g a left) where
  free : Free (kind_of k) g a
  free = rw next.here (next_free (kind_of k) g next.some)

  left_fits : GapFits (length s₀.cells) left
  left_fits = rw next.leaves (narrow_fits (kind_of k) taking.fits free)

  pub turn_inside : a < length s.cells
  turn_inside = let to = free.to in let fits = taking.fits in let kept = taking.cells_kept in omega arith

  pub turn_less : room left < room g
  turn_less = rw (next.leaves, next.here) (next_room (kind_of k) g next.some)

  -- a High address is a byte
  pub turn_reach : 3 ≤ k % 8 → a ≤ 255
  turn_reach h = free.reach (kind_high k h)

  module _ (paired : Paired s) {b : ℕ} (byte : b ≡ code_of 0) where
    pub turn_lost : {y : ℕ} {t : Chip} → Says (lost y t) (power - w) torn (put_at a b s) s → Says (lost y t) power torn (untried (take_from n 0 g₀ s₀)) s₀
    turn_lost e = left_says taking.rest (take_left_lost n k taking.addresses g s inside next.some paired (rw (next.here, byte) at e))

    module _ {v : Seen Bool} (e : Says (whole v) (power - w) torn (put_at a b s) s) where
      put_said : Says (whole v) (power - w) torn (put_at (next_of (kind_of k) g) (code_of 0) s) s
      put_said = rw (next.here, byte) at e

      leaves : left ≡ narrow (kind_of k) (next_of (kind_of k) g) g
      leaves = rw next.here at next.leaves

      pub turn_enough : w + v.writes ≤ power
      turn_enough = omega (arith, said_enough e, taking.rest.few)

      cells_after : length v.after.cells ≡ length s₀.cells
      cells_after = rw (said_view e) ((within_kept (put_within a b s)).cells_length ∙ taking.cells_kept)

      lives_after : length v.after.lives ≡ length s₀.lives
      lives_after = rw (said_view e) ((within_kept (put_within a b s)).lives_length ∙ taking.lives_kept)

      -- it holds, and its bytes are laid
      pub turn_held : {more : List ℕ} {to : ℕ} → v.answer ≡ true → length more ≡ 33 → to + 2 ≡ offset_of (k + 1)
          → take to more ≡ take end bytes ++ pointer_bytes (kind_of k) a → Taking n power torn g₀ s₀ v.after more to left (w + v.writes) (k + 1)
      turn_held h size place laid =
          record {
            addresses = taking.addresses ++ (next_of (kind_of k) g ∷ []);
            many = rw length-append (omega (arith, taking.many));
            row = laid ∙ rw (row_more taking.addresses (next_of (kind_of k) g) 0, zero-add, taking.many, taking.row, ← next.here);
            place = place;
            most = omega arith;
            size = size;
            cells_kept = cells_after;
            lives_kept = lives_after;
            fits = left_fits;
            rest = rw leaves (left_on taking.rest (take_left_held n k taking.addresses g s inside next.some paired put_said h));
          }

      pub turn_passed : v.answer ≡ false → Taking n power torn g₀ s₀ v.after bytes end left (w + v.writes) k
      turn_passed h =
          record {
            addresses = taking.addresses;
            many = taking.many;
            row = taking.row;
            place = taking.place;
            most = taking.most;
            size = taking.size;
            cells_kept = cells_after;
            lives_kept = lives_after;
            fits = left_fits;
            rest = rw leaves (left_on taking.rest (take_left_passed n k taking.addresses g s inside next.some paired put_said h));
          }

-- ## The map

-- a row put is the mark
pub mark_works : (layout : Layout) (p : Places) {n b : ℕ} {s : Chip} {y : Cut Work} → Says y n b (put_row mark_bytes p.map s giving mapped (put_row mark_bytes p.map s).answer) s → Says y n b (put_mark layout p s) s
unfolding put_mark
mark_works layout p e = e

-- it tries no spare, nor does the row of all pointers
pub mark_tried : (layout : Layout) (p : Places) (s : Chip) → (put_mark layout p s).tried ≡ 0
unfolding put_mark
mark_tried layout p s = row_tried mark_bytes p.map s

-- ## The whole

module _ (layout : Layout) (p : Places) (s : Chip) where
  abbrev taking : Run Taken
  taking = untried (take_from (slots layout) 0 (whole_area p) s)

  -- the taking as a piece of the opening
  abbrev took : Run Work
  took = taking giving taking.answer.work

  -- the map put behind it
  abbrev mapping : List ℕ → Chip → Run Work
  mapping addresses t = put_pointers addresses 0 layout p t and_then put_mark layout p

  -- the power was lost
  pub opening_lost : {n b a : ℕ} {t : Chip} → Says (lost a t) n b taking s → Says (lost a t) n b (first_opening layout p s) s
  unfolding first_opening
  opening_lost {n} {b} {a} {t} e =
      let torn : Says (lost a t) n b took s = said_lost e (starts_same taking.log) in
      works_lost torn (mapping taking.answer.addresses)

  module _ {n b : ℕ} {v : Seen Taken} (e : Says (whole v) n b taking s) where
    answered : taking.answer ≡ v.answer
    answered = said_answer taking (said_view e) refl

    -- what is said of it as a piece of the opening
    said : Says (whole (seen v.answer.work v.writes v.tried v.after)) n b took s
    said = rw answered (said_ends e)

    -- no spare was left for a slot
    pub opening_stopped : {k : ℕ} → v.answer.work ≡ Err (NoSpare k) → Says (whole (seen (Err (NoSpare k)) v.writes v.tried v.after)) n b (first_opening layout p s) s
    opening_stopped h = rw (opening_ends layout p s (ap (λ (x : Taken). x.work) answered ∙ h)) (rw h at said)

    module _ (ready : Ready layout p s) (h : v.answer.work ≡ complete) where
      done : taking.answer.work ≡ complete
      done = ap (λ (x : Taken). x.work) answered ∙ h

      all : AllTaken (slots layout) 0 (whole_area p) (take_from (slots layout) 0 (whole_area p) s)
      all = (take_laws (slots layout) 0 (whole_area p) s ready.paired).all done

      taken_many : length v.answer.addresses ≡ slots layout
      taken_many = rw (← answered) all.many

      mapped_ready : Ready layout p v.after
      mapped_ready =
          rw (said_after taking (said_view e)) (ready_kept ready (within_kept (take_laws (slots layout) 0 (whole_area p) s ready.paired).within))

      -- the addresses put as pointers, as one row of bytes
      as_row : {bytes : List ℕ} → bytes ≡ pointer_row v.answer.addresses 0 → put_pointers v.answer.addresses 0 layout p v.after ≡ map_row bytes (p.map + 2) v.after
      unfolding offset_of offset_in
      as_row row = pointers_row layout v.answer.addresses 0 p v.after ∙ ap (λ (row : List ℕ). map_row row (p.map + 2) v.after) (sym row)

      -- every slot has its address, and the map comes
      pub opening_left : {bytes : List ℕ} → bytes ≡ pointer_row v.answer.addresses 0
          → Left v.writes v.tried n b (first_opening layout p s) s (map_row bytes (p.map + 2) v.after and_then put_mark layout p) v.after
      opening_left {bytes} row =
          subst (λ (r : Run Work). Left v.writes v.tried n b (first_opening layout p s) s (r and_then put_mark layout p) v.after) (as_row row)
          (rw (opening_on layout p s done, ← answered)
          (said_left said (mapping taking.answer.addresses) (take_laws (slots layout) 0 (whole_area p) s ready.paired).within.logged))

      -- which tries no spare
      pub map_tried : {bytes : List ℕ} → bytes ≡ pointer_row v.answer.addresses 0 → (map_row bytes (p.map + 2) v.after and_then put_mark layout p).tried ≡ 0
      map_tried row = subst (λ (r : Run Work). (r and_then put_mark layout p).tried ≡ 0) (as_row row) (map_laws mapped_ready v.answer.addresses taken_many).tried
