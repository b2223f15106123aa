-- Calls on a chip, one behind another, on the same settings and each with the ends that the last one left (document 02, P8).
use Rattle.std.specs.Prelude.{ℕ, List, [], ◌∷◌}
use Rattle.cells.specs.Chip.{Chip}
use Rattle.counter.specs.declared.ends.Ends.{Ends}
use Rattle.counter.specs.declared.layout.Layout.{Layout}
use Rattle.counter.specs.declared.places.Places.{Places}
use Rattle.room.specs.Kept.{KeptOutcome, kept_open_of, kept_step_of, kept_trial_open_of, kept_trial_step_of}

-- how a door is called: plainly, or as a trial, with its power and its torn byte
pub data Manner : Type 0 where
  plain : Manner
  trial : ℕ → ℕ → Manner

-- a call: an opening, a step, a read, or a map part of a copy
pub data Call : Type 0 where
  opening : Manner → Call
  step : Manner → Call
  read : Call
  map_part : ℕ → Call

-- what the caller has between two calls: the chip, and the ends
pub record State : Type 0 where
  pub chip : Chip
  pub ends : Ends

abbrev pub left : KeptOutcome → State
left r = record { chip = r.gives.leaves; ends = r.ends }

abbrev pub opened : Layout → Places → Manner → Chip → State
opened layout p plain s = left (kept_open_of layout p s)
opened layout p (trial power torn) s = left (kept_trial_open_of layout p power torn s)

abbrev pub stepped : Layout → Places → Manner → State → State
stepped layout p plain t = left (kept_step_of layout p t.ends t.chip)
stepped layout p (trial power torn) t = left (kept_trial_step_of layout p power torn t.ends t.chip)

-- what a call leaves; a read and a map part change no cell, and have no ends to keep
abbrev pub called : Layout → Places → Call → State → State
called layout p (opening manner) t = opened layout p manner t.chip
called layout p (step manner) t = stepped layout p manner t
called layout p read t = t
called layout p (map_part copy) t = t

-- what a list of calls leaves, the first of the list first
unfoldable pub calls : Layout → Places → List Call → State → State
calls layout p [] t = t
calls layout p (call ∷ rest) t = calls layout p rest (called layout p call t)
