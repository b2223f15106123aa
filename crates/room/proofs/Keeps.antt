-- The ends that are handed through the calls.
--   kept_open_gives, kept_step_gives, kept_trial_open_gives, kept_trial_step_gives
--                             a kept door gives what the plain one or its trial gives, whatever ends it is passed
--   ends_kept                 from a first opening on they are those of the map, behind any calls
--   room_kept                 so the room that they leave is the one counted from the whole map
use Prim.Native.Nat.{ℕ}
use mathlib.Core.Path.{◌≡◌, refl, sym, ap, ◌∙◌}
use mathlib.Core.Bool.{Bool, true, false, cond}
use mathlib.Core.List.{List, [], ◌∷◌}
use mathlib.Core.Logic.{◌⊎◌, inl, inr}
use native.Mathlib.Omega.{arith}
use Rattle.std.proofs.lemmas.Bool.Decides.{nat_tests}
use Rattle.cells.specs.Chip.{Chip}
use Rattle.counter.specs.declared.ends.Ends.{Ends}
use Rattle.counter.specs.declared.layout.Layout.{Layout}
use Rattle.counter.specs.declared.places.Places.{Places}
use Rattle.counter.specs.declared.verdict.Answer.{Answer}
use Rattle.counter.specs.Ends.{ends_of}
use Rattle.counter.specs.Verdict.{Outcome}
use Rattle.counter.specs.Doors.{open_of, step_of}
use Rattle.counter.specs.Trials.{trial_open_of, trial_step_of}
use Rattle.room.specs.Room.{room_of, left_of}
use Rattle.room.specs.Kept.{may_have_moved, ends_after, kept_open_of, kept_step_of, kept_trial_open_of, kept_trial_step_of}
use Rattle.room.specs.Calls.{Manner, Manner.plain, Manner.trial, Call, Call.opening, Call.step, Call.read, Call.map_part, State, opened, stepped, called, calls}
use Rattle.counter.proofs.EndLaws.{ends_same}
use Rattle.counter.proofs.DoorAnswers.{trial_step_either}
use Rattle.counter.proofs.StepMaps.{step_unmoved}
use Rattle.room.proofs.Rooms.{left_counted}

-- ## What a kept door gives

module _ (layout : Layout) (p : Places) (s : Chip) where
  pub kept_open_gives : (kept_open_of layout p s).gives ≡ open_of layout p s
  unfolding kept_open_of
  kept_open_gives = refl

  pub kept_step_gives : (before : Ends) → (kept_step_of layout p before s).gives ≡ step_of layout p s
  unfolding kept_step_of
  kept_step_gives before = refl

  module _ (power torn : ℕ) where
    pub kept_trial_open_gives : (kept_trial_open_of layout p power torn s).gives ≡ trial_open_of layout p power torn s
    unfolding kept_trial_open_of
    kept_trial_open_gives = refl

    pub kept_trial_step_gives : (before : Ends) → (kept_trial_step_of layout p power torn before s).gives ≡ trial_step_of layout p power torn s
    unfolding kept_trial_step_of
    kept_trial_step_gives before = refl

-- ## The ends behind a call

-- where no pointer may have moved, no spare was tried, and the call did not end with 11
no_tries : (says : Answer) → may_have_moved says ≡ false → says.tried ≡ 0
unfolding may_have_moved
no_tries says e = grind (arith, nat_tests)

not_lost : (says : Answer) → may_have_moved says ≡ false → says.code ≡ 11 → ⊥
unfolding may_have_moved
not_lost says e h = grind (arith, nat_tests)

module _ (layout : Layout) (p : Places) where
  -- the ends behind an outcome are those of its map, given those before it
  abbrev Keeps : Chip → Outcome → Type 0
  Keeps s o = ends_after layout p (ends_of layout p s.cells) o.says o.leaves.cells ≡ ends_of layout p o.leaves.cells

  keeps : (s : Chip) (o : Outcome) → (may_have_moved o.says ≡ false → ends_of layout p s.cells ≡ ends_of layout p o.leaves.cells) → Keeps s o
  unfolding ends_after
  keeps s o same = go (may_have_moved o.says) refl
    where
      go : (t : Bool) → may_have_moved o.says ≡ t → cond t (ends_of layout p o.leaves.cells) (ends_of layout p s.cells) ≡ ends_of layout p o.leaves.cells
      go true e = refl
      go false e = same e

  step_keeps : (s : Chip) → Keeps s (step_of layout p s)
  step_keeps s = keeps s (step_of layout p s) (λ e. let still = step_unmoved layout p s (no_tries _ e) in sym (ends_same layout p _ _ still.long still.map))

  trial_step_keeps : (s : Chip) (power torn : ℕ) → Keeps s (trial_step_of layout p power torn s)
  trial_step_keeps s power torn = go (trial_step_either layout p s power torn)
    where
      go : (trial_step_of layout p power torn s ≡ step_of layout p s) ⊎ ((trial_step_of layout p power torn s).says.code ≡ 11) → Keeps s (trial_step_of layout p power torn s)
      go (inl same) = rw same (step_keeps s)
      go (inr lost) = keeps s (trial_step_of layout p power torn s) (λ e. absurd {0} (not_lost _ e lost))

  -- ## And behind a list of calls

  -- what the caller has are the ends of the map
  abbrev Right : State → Type 0
  Right t = t.ends ≡ ends_of layout p t.chip.cells

  opened_right : (manner : Manner) (s : Chip) → Right (opened layout p manner s)
  unfolding kept_open_of kept_trial_open_of
  opened_right plain s = refl
  opened_right (trial power torn) s = refl

  stepped_right : (manner : Manner) (t : State) → Right t → Right (stepped layout p manner t)
  unfolding kept_step_of kept_trial_step_of
  stepped_right plain t right = rw right (step_keeps t.chip)
  stepped_right (trial power torn) t right = rw right (trial_step_keeps t.chip power torn)

  called_right : (call : Call) (t : State) → Right t → Right (called layout p call t)
  called_right (opening manner) t right = opened_right manner t.chip
  called_right (step manner) t right = stepped_right manner t right
  called_right read t right = right
  called_right (map_part copy) t right = right

  calls_right : (list : List Call) (t : State) → Right t → Right (calls layout p list t)
  unfolding calls
  calls_right [] t right = right
  calls_right (call ∷ rest) t right = calls_right rest (called layout p call t) (called_right call t right)

  module _ (first : Manner) (s : Chip) (rest : List Call) where
    abbrev behind : State
    behind = calls layout p rest (opened layout p first s)

    pub ends_kept : behind.ends ≡ ends_of layout p behind.chip.cells
    ends_kept = calls_right rest (opened layout p first s) (opened_right first s)

    pub room_kept : left_of behind.ends ≡ room_of layout p behind.chip.cells
    room_kept = ap left_of ends_kept ∙ left_counted layout p behind.chip.cells
