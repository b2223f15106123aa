-- Spares tried: what it keeps, what it changes, what it costs.
--   room                      the cells between the pointers of the two kinds
--   spares_room               the spares are no more than the room
--   asked_spares              the byte asked of each spare of a gap, in order
--   Missing                   no spare holds: each was asked and refuses, and the chip is as it was
--   Landing                   a spare holds: the chip is that one put from the start
--   Trying, TryLaws, try_laws
--   try_nowhere               no spare holds exactly where each refuses
use Rattle.std.proofs.Common.{◌≡◌, ℕ, ◌+◌, ◌-◌, ◌<◌, ◌≤◌, ◌↔◌, List, length, sym, ap, ◌∙◌, true≢false, arith, length-append, ne_eqb, Option, Some, None}
use Rattle.cells.specs.Chip.{Chip, cell_at, Paired, Kept}
use Rattle.cells.specs.Run.{Write, Run, run}
use Rattle.cells.specs.Log.{Within}
use Rattle.cells.specs.Row.{nth, InRow, asks}
use Rattle.cells.proofs.Logs.{within_wider}
use Rattle.cells.proofs.Puts.{Refuses, put_laws}
use Rattle.cells.proofs.Walks.{Missed, Hit, Walking, Walking.missed, Walking.hit, walk_laws, asks_length}
use Rattle.counter.specs.declared.map.Kind.{Kind}
use Rattle.counter.specs.declared.map.Kind.TheVariants.{High, Low}
use Rattle.counter.specs.declared.spares.Gap.{Gap}
use Rattle.counter.specs.Slots.{kind_of}
use Rattle.counter.specs.Spares.{narrow, way_of, next_of, spares_of}
use Rattle.counter.specs.Store.{try_spares}
use Rattle.counter.proofs.Gaps.{Free, walked_free, free_walked}

abbrev pub room : Gap → ℕ
room g = g.low - g.high

-- the byte asked of each spare that a gap leaves for slot k, in order
abbrev pub asked_spares : ℕ → Gap → ℕ → List Write
asked_spares k g b = asks (spares_of (kind_of k) g) (way_of (kind_of k)) (next_of (kind_of k) g) b

pub record Missing (k : ℕ) (g : Gap) (b : ℕ) (s : Chip) : Type 0 where
  pub nowhere : (try_spares k g b s).answer ≡ None
  pub same : (try_spares k g b s).after ≡ s
  pub refused : (a : ℕ) → Free (kind_of k) g a → Refuses a b s
  pub comes : try_spares k g b s ≡ run None (asked_spares k g b) (spares_of (kind_of k) g) s
  pub cost : length (try_spares k g b s).log ≤ room g

pub record Landing (k : ℕ) (g : Gap) (b : ℕ) (s : Chip) : Type 0 where
  pub place : ℕ
  pub here : (try_spares k g b s).answer ≡ Some place
  pub free : Free (kind_of k) g place
  pub kept : Kept (λ c. c ≡ place) s (try_spares k g b s).after
  pub held : cell_at (try_spares k g b s).after place ≡ b
  pub takes : Refuses place b s → ⊥
  pub tried : 1 ≤ (try_spares k g b s).tried
  pub cost : length (try_spares k g b s).log + room (narrow (kind_of k) place g) ≤ room g

pub data Trying (k : ℕ) (g : Gap) (b : ℕ) (s : Chip) : Type 0 where
  missing : Missing k g b s → Trying k g b s
  landing : Landing k g b s → Trying k g b s

pub record TryLaws (k : ℕ) (g : Gap) (b : ℕ) (s : Chip) : Type 0 where
  pub within : Within (Free (kind_of k) g) s (try_spares k g b s)
  pub trying : Trying k g b s

-- the cells of the walk are the free ones
row_free : (kind : Kind) (g : Gap) (c : ℕ) → InRow (spares_of kind g) (way_of kind) (next_of kind g) c → Free kind g c
unfolding spares_of way_of next_of
row_free High g c i = let h = i.0 in let h' = i.1 in record { from = omega arith; to = omega arith; reach = λ e. omega arith }
row_free Low g c i =
    let h = i.0 in
    let h' = i.1 in
    record { from = omega arith; to = omega arith; reach = λ e. absurd (true≢false cc) }

-- the spares are no more than the room
pub spares_room : (kind : Kind) (g : Gap) → spares_of kind g ≤ room g
unfolding spares_of
spares_room High g = omega arith
spares_room Low g = omega arith

-- what the j-th spare leaves when it is taken
room_left : (kind : Kind) (g : Gap) (j : ℕ) → j < spares_of kind g → j + 1 + room (narrow kind (nth (way_of kind) (next_of kind g) j) g) ≤ room g
unfolding spares_of way_of next_of narrow
room_left High g j h = omega arith
room_left Low g j h = omega arith

module _ (k : ℕ) (g : Gap) (b : ℕ) (s : Chip) (paired : Paired s) where
  landed : Hit (spares_of (kind_of k) g) (way_of (kind_of k)) (next_of (kind_of k) g) b s → Landing k g b s
  unfolding try_spares
  landed m =
      let a = nth (way_of (kind_of k)) (next_of (kind_of k) g) m.index in
      let put = put_laws a b s paired in
      record {
        place = a;
        here = ap (λ (r : Run (Option ℕ)). r.answer) m.comes;
        free = walked_free (kind_of k) g m.index m.inside;
        kept = rw m.comes put.kept;
        held = rw m.comes (put.held m.held);
        takes = λ r. let e = sym m.held ∙ put.worn r.worn ∙ ne_eqb _ b r.other in true≢false cc;
        tried = rw m.comes (omega arith);
        cost = let h = room_left (kind_of k) g m.index m.inside in let c = put.cost in rw (m.comes, length-append, asks_length) (omega arith);
      }

  missed_all : Missed (spares_of (kind_of k) g) (way_of (kind_of k)) (next_of (kind_of k) g) b s → Missing k g b s
  unfolding try_spares
  missed_all m =
      record {
        nowhere = ap (λ (r : Run (Option ℕ)). r.answer) m.comes;
        same = ap (λ (r : Run (Option ℕ)). r.after) m.comes;
        refused = λ a f. let j = free_walked (kind_of k) g a f in rw j.2 at (m.refused j.0 j.1);
        comes = m.comes;
        cost = let h = spares_room (kind_of k) g in rw (m.comes, asks_length) h;
      }

  try_in : Within (Free (kind_of k) g) s (try_spares k g b s)
  unfolding try_spares
  try_in = within_wider (row_free (kind_of k) g) (walk_laws (spares_of (kind_of k) g) (way_of (kind_of k)) (next_of (kind_of k) g) b s paired).within

  pub try_laws : TryLaws k g b s
  try_laws = record { within = try_in; trying = go (walk_laws (spares_of (kind_of k) g) (way_of (kind_of k)) (next_of (kind_of k) g) b s paired).walking }
    where
      go : Walking (spares_of (kind_of k) g) (way_of (kind_of k)) (next_of (kind_of k) g) b s → Trying k g b s
      go (missed m) = missing (missed_all m)
      go (hit m) = landing (landed m)

-- no spare holds exactly where each refuses
pub try_nowhere :
    (k : ℕ) (g : Gap) (b : ℕ) (s : Chip) → Paired s
    → ((try_spares k g b s).answer ≡ None) ↔ ((a : ℕ) → Free (kind_of k) g a → Refuses a b s)
try_nowhere k g b s paired = go (try_laws k g b s paired).trying
  where
    go : Trying k g b s → ((try_spares k g b s).answer ≡ None) ↔ ((a : ℕ) → Free (kind_of k) g a → Refuses a b s)
    go (missing m) = (λ e. m.refused, λ f. m.nowhere)
    go (landing m) = (λ e. absurd (true≢false cc), λ f. absurd (m.takes (f m.place m.free)))
