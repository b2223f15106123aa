-- Pointers and mark put where every cell of the map has life: done, and no cell is asked more than one write.
--   Calmly                    map bytes put so, in a place
--   calm_points               the pointers of the slots from k on
--   points_calm               those of all slots
--   calm_maps                 all pointers, then the mark
use Rattle.std.proofs.Common.{Ok}
use Prim.Native.Nat.{ℕ, ◌+◌, ◌≤◌, ◌<◌}
use mathlib.Core.Path.{◌≡◌, ap, ◌∙◌}
use mathlib.Core.List.{List}
use native.Mathlib.Omega.{arith}
use lib.ListN.{length}
use Rattle.cells.specs.declared.row.Way.TheVariants.{Up}
use Rattle.cells.specs.Chip.{Chip, life_at, Paired}
use Rattle.cells.specs.Run.{Run, ◌then◌}
use Rattle.cells.specs.Log.{Every}
use Rattle.cells.specs.Row.{InRow}
use Rattle.cells.proofs.Logs.{every_wider, within_kept, within_life}
use Rattle.cells.proofs.Rows.{row_laws}
use Rattle.counter.specs.declared.places.Places.{Places}
use Rattle.counter.specs.Map.{mark_bytes, offset_of}
use Rattle.counter.specs.Verdict.{◌and_then◌, Work, complete}
use Rattle.counter.specs.Opening.{put_pointers, put_mark}
use Rattle.counter.specs.Inside.{pointer_row, map_row}
use Rattle.cells.proofs.AskedOnce.{asked_outside, Once, once_append, once_row}
use Rattle.counter.specs.declared.layout.Layout.{Layout}
use Rattle.counter.specs.Layout.{slots, map_cells}
use Rattle.counter.proofs.Offsets.{offset_first, offset_most}
use Rattle.counter.proofs.Ready.{Ready, InMap, ready_kept}
use Rattle.counter.proofs.Pointers.{done_mapped}
use Rattle.counter.proofs.PointerRows.{pointers_row, mark_row, row_length}
use Rattle.counter.proofs.Stores.{done_then}
use Rattle.counter.proofs.Openings.{PointsLaws, points_laws, map_laws}

pub record Calmly (Place : ℕ → Type 0) (r : Run Work) : Type 0 where
  pub done : r.answer ≡ complete
  pub places : Every Place r.log
  pub once : Once r.log

-- the cells of the map from byte j on have life
abbrev pub LiveFrom : ℕ → Layout → Places → Chip → Type 0
LiveFrom j layout p s = (c : ℕ) → p.map + j ≤ c → c < p.map + map_cells layout → 1 ≤ life_at s c

-- a cell of the map from byte j on
abbrev pub Behind : ℕ → Places → ℕ → Type 0
Behind j p c = p.map + j ≤ c

-- a row of map bytes put in cells that have life
row_calm :
    (bytes : List ℕ) (a : ℕ) (s : Chip) → Paired s → ((j : ℕ) → j < length bytes → 1 ≤ life_at s (a + j))
    → Calmly (InRow (length bytes) Up a) (map_row bytes a s)
row_calm bytes a s paired alive =
    let laws = row_laws bytes a s paired in
    record { done = done_mapped _ (laws.alive alive); places = laws.within.places; once = once_row bytes a s }

pub calm_points :
    {layout : Layout} {p : Places} (addresses : List ℕ) (k : ℕ) (s : Chip) → Ready layout p s → k + length addresses ≤ slots layout
    → LiveFrom (offset_of k) layout p s → Calmly (Behind (offset_of k) p) (put_pointers addresses k layout p s)
calm_points {layout} {p} addresses k s ready fits live =
    let size = row_length addresses k in
    let most = offset_most layout (k + length addresses) fits in
    let calm = row_calm (pointer_row addresses k) (p.map + offset_of k) s ready.paired (λ j l. live _ (omega arith) (omega arith)) in
    rw (pointers_row layout addresses k p s) (record { done = calm.done; places = every_wider (λ c i. i.0) calm.places; once = calm.once })

module _ {layout : Layout} {p : Places} {s : Chip} (ready : Ready layout p s) (addresses : List ℕ) (many : length addresses ≡ slots layout)
    (live : LiveFrom 0 layout p s) where
  abbrev pointing : Run Work
  pointing = put_pointers addresses 0 layout p s

  pub points_calm : Calmly (Behind (offset_of 0) p) pointing
  points_calm = calm_points addresses 0 s ready (omega arith) (λ c from to. live c (omega arith) to)

  points : PointsLaws layout p addresses 0 s pointing
  points = points_laws layout p addresses 0 s ready (omega arith)

  -- the mark's cells are in front of all pointers
  mark_live : (j : ℕ) → j < 2 → 1 ≤ life_at pointing.after (p.map + j)
  mark_live j l =
      let first = offset_first 0 in
      let none = asked_outside (p.map + j) points_calm.places (λ from. omega arith) in
      let h = live (p.map + j) (omega arith) (omega arith) in
      let e = within_life points.within (p.map + j) in
      omega arith

  pub calm_maps : Calmly (InMap layout p) (put_pointers addresses 0 layout p s and_then put_mark layout p)
  calm_maps =
      let mark = row_calm mark_bytes p.map pointing.after (ready_kept ready (within_kept points.within)).paired mark_live in
      let first = offset_first 0 in
      let within = (map_laws ready addresses many).within in
      let then_is = done_then pointing (put_mark layout p) points_calm.done ∙ ap (λ (r : Run Work). pointing then r) (mark_row layout p pointing.after) in
      record {
        done = rw then_is mark.done;
        places = within.places;
        once = rw then_is (once_append points_calm.places mark.places (λ c from i. let to = i.1 in omega arith) points_calm.once mark.once);
      }
