-- A fresh chip as one to be opened first: it has no mark, its cells have life, and none of its area reads 80.
--   fresh_ready, fresh_alive, fresh_unwritten
use Prim.Native.Nat.{ℕ, ◌+◌}
use mathlib.Core.Path.{◌≡◌, ◌∙◌}
use mathlib.Core.Bool.{false}
use native.Mathlib.Omega.{arith}
use Rattle.code.proofs.CodeLaws.{code_zero}
use Rattle.cells.specs.Chip.{Chip}
use Rattle.counter.specs.declared.places.Places.{Places}
use Rattle.counter.specs.declared.layout.Layout.{Layout}
use Rattle.counter.specs.Map.{map_in, byte_at, marked}
use Rattle.counter.specs.Spares.{whole_area}
use Rattle.counter.proofs.MapBytes.{map_byte, mark_none}
use Rattle.counter.proofs.Ready.{Ready, ready_placed, inside_cell, own_cell}
use Rattle.counter.proofs.Fitted.{tests_ready}
use Rattle.counter.proofs.Openings.{whole_inside}
use Rattle.promises.specs.Runs.{Fresh}
use Rattle.promises.proofs.CalmTakes.{Unwritten}
use Rattle.promises.proofs.FirstOpenings.{UnmarkedAlive}

module _ {n : ℕ} {layout : Layout} {p : Places} {s : Chip} (fresh : Fresh n layout p s) where
  pub fresh_ready : Ready layout p s
  fresh_ready = tests_ready fresh.lives fresh.long fresh.places

  no_mark : marked (map_in layout p s.cells) ≡ false
  no_mark =
      let fits = (ready_placed fresh_ready).map_fits in
      let first : byte_at (map_in layout p s.cells) 0 ≡ 0xFF = map_byte layout p s.cells 0 (omega arith) ∙ fresh.blank (p.map + 0) (omega arith) in
      mark_none _ (λ e. omega arith)

  pub fresh_alive : UnmarkedAlive (n + 1) layout p s
  fresh_alive = record { ready = fresh_ready; unmarked = no_mark; lasting = λ a own. fresh.lasting a (own_cell fresh_ready own) }

  pub fresh_unwritten : Unwritten (whole_area p) s
  fresh_unwritten c i e = let h = fresh.blank c (inside_cell fresh_ready (whole_inside p c i)) in omega (arith, code_zero)
