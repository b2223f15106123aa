-- A byte written where a slot's cell is, since that cell has life and reads another byte.
--   slot_written              storing the slot is that write
--   written_map, written_ready, written_sound  the map stays, and the chip stays fit
--   written_data, written_life  so do the other slots' bytes and lives
use Rattle.counter.specs.Verdict.{complete}
use Rattle.std.proofs.Common.{Ok}
use Prim.Native.Nat.{ℕ, ◌≤◌, ◌<◌}
use mathlib.Core.Path.{◌≡◌, ap, ◌∙◌}
use mathlib.Core.Bool.{Bool}
use mathlib.Core.List.{[], ◌∷◌}
use Rattle.cells.specs.Chip.{Chip, life_at, write_at, Kept}
use Rattle.cells.specs.Run.{Run, write, run, ◌giving◌}
use Rattle.cells.proofs.Writes.{kept_wider, write_laws}
use Rattle.cells.proofs.Puts.{put_laws}
use Rattle.counter.specs.declared.places.Places.{Places}
use Rattle.counter.specs.declared.layout.Layout.{Layout}
use Rattle.counter.specs.Layout.{slots}
use Rattle.counter.specs.Map.{map_in}
use Rattle.counter.specs.Store.{store_slot}
use Rattle.counter.proofs.SoundPointers.{Sound}
use Rattle.counter.proofs.Ready.{pointers, data_of, Ready, ready_kept, map_kept}
use Rattle.counter.proofs.Moves.{slot_alive}

module _ {layout : Layout} {p : Places} {s : Chip} (ready : Ready layout p s) (sound : Sound (slots layout) p (pointers layout p s)) (k : ℕ) (l : k < slots layout) (b : ℕ) where
  abbrev written : Chip
  written = write_at (pointers layout p s k) b s

  pub slot_written :
      (data_of layout p s k ≡ b → ⊥) → 1 ≤ life_at s (pointers layout p s k)
      → store_slot layout p k b s ≡ run complete (write (pointers layout p s k) b ∷ []) 0 written
  slot_written other alive =
      slot_alive layout p k b s ready.paired alive
      ∙ ap (λ (r : Run Bool). r giving complete) ((put_laws (pointers layout p s k) b s ready.paired).taken other alive)

  kept : Kept (λ a. a ≡ pointers layout p s k) s written
  kept = (write_laws (pointers layout p s k) b s).kept

  pub written_map : map_in layout p written.cells ≡ map_in layout p s.cells
  written_map = map_kept ready (kept_wider (λ a e. rw e (sound.inside k l)) kept)

  pub written_ready : Ready layout p written
  written_ready = ready_kept ready kept

  pub written_sound : Sound (slots layout) p (pointers layout p written)
  written_sound = rw written_map sound

  pub written_data : (j : ℕ) → j < slots layout → (j ≡ k → ⊥) → data_of layout p written j ≡ data_of layout p s j
  written_data j h d = rw written_map (kept.cell (pointers layout p s j) (sound.apart j k h l d))

  pub written_life : (j : ℕ) → j < slots layout → (j ≡ k → ⊥) → life_at written (pointers layout p written j) ≡ life_at s (pointers layout p s j)
  written_life j h d = rw written_map (kept.life (pointers layout p s j) (sound.apart j k h l d))
