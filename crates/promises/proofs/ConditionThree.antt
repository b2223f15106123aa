-- Condition 3 of the order, at the two copies of this delivery. What the theorems say is defined in specs/Runs.antt; for any
-- number of copies they are `fresh_lasts` and `run_bound`.
--   wear, wear_words          its sentence on ample lives: a blank image with n + 1 good writes in each cell lasts for n
--                             steps, and each nibble's cell is written as often as the powers of 16 say
--   data_writes_lem           its sentence on any lives: the data writes of the steps up to the first refused one
use Prim.Native.Nat.{ℕ, ◌+◌, ◌-◌, ◌*◌, ◌≤◌, ◌<◌}
use mathlib.Core.Path.{◌≡◌}
use native.Mathlib.Omega.{arith}
use lib.ListN.{length}
use Rattle.cells.specs.Chip.{Chip, life_at}
use Rattle.counter.specs.declared.places.Places.{Places}
use Rattle.counter.specs.Layout.{two}
use Rattle.counter.specs.Doors.{last_count, open_run, open_of}
use Rattle.promises.specs.Runs.{steps_after, Fresh, Lasts, data_writes, area_cells, data_bound}
use Rattle.counter.proofs.Settings.{length_good_lem}
use Rattle.counter.proofs.DoorAnswers.{code_good, open_is}
use Rattle.promises.proofs.Wear.{fresh_lasts}
use Rattle.promises.proofs.RunBounds.{run_bound}

module _ (n : ℕ) (p : Places) (s : Chip) where
  -- n is below 2 ^ 32, since the count has 32 bits: the step behind the last count is refused 7, whatever the lives
  pub wear : n ≤ last_count → Fresh n two p s → Lasts n two p s
  wear few fresh = fresh_lasts fresh (omega arith) few

  -- the same for every n, since a cell whose life is a number of 32 bits has no n + 1 good writes for a greater one
  pub wear_words : ((a : ℕ) → a < length s.cells → life_at s a ≤ last_count) → Fresh n two p s → Lasts n two p s
  wear_words words fresh =
      let long = length_good_lem two (length s.cells) fresh.long in
      let most = words 0 (omega arith) in
      let least = fresh.lasting 0 (omega arith) in
      wear (omega arith) fresh

  -- for any chip that was opened, blank or not; the steps made are as many as the answers, and n is as far as they may go
  pub data_writes_lem :
      (open_of two p s).says.code ≡ 0
      → data_writes p (steps_after n two p s).log ≤ 2 * length (steps_after n two p s).answer + area_cells p - 16
  unfolding data_bound
  data_writes_lem e =
      let good = code_good (open_run two p s).answer (length (open_run two p s).log) (open_run two p s).tried (rw (open_is two p s) at e) in
      run_bound n two p s (omega arith) good.2
