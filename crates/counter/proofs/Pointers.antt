-- An address put as a slot's pointer: what it keeps, what it changes, what it costs.
--   OfPointer                 a cell of slot k's pointer
--   of_map, of_elsewhere      it is a cell of the map, and none of the area
--   mapped_done, done_mapped, mapped_either  how a row of map bytes ends
--   PointerLaws, pointer_laws
use Rattle.counter.specs.Verdict.{complete}
use Rattle.std.proofs.Common.{◌≡◌, ℕ, ◌+◌, ◌<◌, ◌≤◌, ◌⊎◌, sym, refl, ap, ◌∙◌, inl, inr, add_assoc, arith, Option, Some, None, Err}
use native.Mathlib.Decide.{dec_lt}
use Rattle.cells.specs.Chip.{Chip, cell_at}
use Rattle.cells.specs.Log.{Within}
use Rattle.cells.specs.Row.{put_row}
use Rattle.cells.proofs.Logs.{within_wider, within_giving, within_kept}
use Rattle.cells.proofs.Rows.{RowLaws, row_laws}
use Rattle.counter.specs.declared.places.Places.{Places}
use Rattle.counter.specs.declared.verdict.Refusal.TheVariants.{MapByte}
use Rattle.counter.specs.Layout.{Layout, slots}
use Rattle.counter.specs.Slots.{kind_of}
use Rattle.counter.specs.Map.{map_in, marked, offset_of, pointer_bytes}
use Rattle.counter.specs.Store.{put_pointer, mapped}
use Rattle.counter.proofs.Offsets.{bytes_of, bytes_length, offset_first, offset_before, offset_inside}
use Rattle.counter.proofs.MapBytes.{map_byte, pointer_same, pointer_put}
use Rattle.counter.proofs.Ready.{pointers, Ready, InMap, byte_kept, mark_kept, apart_map}

pub record OfPointer (p : Places) (k a : ℕ) : Type 0 where
  pub from : p.map + offset_of k ≤ a
  pub to : a < p.map + offset_of k + bytes_of (kind_of k)

-- a row of map bytes is done, or stops at one of them
pub mapped_done : (f : Option ℕ) → mapped f ≡ complete → f ≡ None
unfolding mapped
mapped_done (Some a) e = cc
mapped_done None e = refl

pub done_mapped : (f : Option ℕ) → f ≡ None → mapped f ≡ complete
unfolding mapped
done_mapped f e = rw e

pub mapped_either : (f : Option ℕ) → (mapped f ≡ complete) ⊎ ((a : ℕ) × (mapped f ≡ Err (MapByte a)))
unfolding mapped
mapped_either (Some a) = inr (a, refl)
mapped_either None = inl refl

pub record PointerLaws (layout : Layout) (p : Places) (k a : ℕ) (s : Chip) : Type 0 where
  pub within : Within (OfPointer p k) s (put_pointer layout p k a s)
  pub tried : (put_pointer layout p k a s).tried ≡ 0
  pub held : (put_pointer layout p k a s).answer ≡ complete → pointers layout p (put_pointer layout p k a s).after k ≡ a
  pub others : (j : ℕ) → j < slots layout → (j ≡ k → ⊥) → pointers layout p (put_pointer layout p k a s).after j ≡ pointers layout p s j
  pub mark : marked (map_in layout p (put_pointer layout p k a s).after.cells) ≡ marked (map_in layout p s.cells)
  pub either : ((put_pointer layout p k a s).answer ≡ complete) ⊎ ((x : ℕ) × ((put_pointer layout p k a s).answer ≡ Err (MapByte x)))

module _ {layout : Layout} {p : Places} {s : Chip} (ready : Ready layout p s) (k : ℕ) (l : k < slots layout) where
  pub of_map : {c : ℕ} → OfPointer p k c → InMap layout p c
  of_map o =
      let h = offset_inside layout k l in
      let h₁ = o.from in
      let h₂ = o.to in
      record { from = omega arith; to = omega arith }

  pub of_elsewhere : {c : ℕ} → OfPointer p k c → p.start ≤ c → c ≤ p.end → ⊥
  of_elsewhere o from to = apart_map ready (of_map o) (record { from = from; to = to })

  -- the bytes of another slot's pointer are no cells of this one's
  apart : (j i : ℕ) → (j ≡ k → ⊥) → offset_of j ≤ i → i < offset_of j + bytes_of (kind_of j) → OfPointer p k (p.map + i) → ⊥
  apart j i d from to o = go (dec_lt j k)
    where
      go : Dec (j < k) → ⊥
      go (yes h) = let e = offset_before j k h in let h' = o.from in omega arith
      go (no h) = let e = offset_before k j (omega arith) in let h' = o.to in omega arith

  module _ (a : ℕ) where
    row : RowLaws (pointer_bytes (kind_of k) a) (p.map + offset_of k) s
    row = row_laws (pointer_bytes (kind_of k) a) (p.map + offset_of k) s ready.paired

    put_in : Within (OfPointer p k) s (put_pointer layout p k a s)
    unfolding put_pointer
    put_in =
        let e = bytes_length (kind_of k) a in
        within_giving _ (within_wider (λ c i. record { from = i.0; to = let h = i.1 in omega arith }) row.within)

    put_held : (put_pointer layout p k a s).answer ≡ complete → pointers layout p (put_pointer layout p k a s).after k ≡ a
    unfolding put_pointer
    put_held e =
        let h = offset_inside layout k l in
        let size = bytes_length (kind_of k) a in
        pointer_put _ k a
        (λ i m.
        map_byte layout p _ (offset_of k + i) (omega arith)
        ∙ ap (cell_at (put_row (pointer_bytes (kind_of k) a) (p.map + offset_of k) s).after) (sym (add_assoc p.map (offset_of k) i))
        ∙ row.held (mapped_done _ e) i (omega arith))

    -- the pointers of other slots stay, and the bytes in front of all pointers
    put_others : (j : ℕ) → j < slots layout → (j ≡ k → ⊥) → pointers layout p (put_pointer layout p k a s).after j ≡ pointers layout p s j
    put_others j m d =
        let h = offset_inside layout j m in
        pointer_same _ _ j (λ i from to. byte_kept ready (within_kept put_in) i (omega arith) (apart j i d from to))

    put_mark_lem : marked (map_in layout p (put_pointer layout p k a s).after.cells) ≡ marked (map_in layout p s.cells)
    put_mark_lem = mark_kept ready (within_kept put_in) (λ j m o. let h = offset_first k in let h' = o.from in omega arith)

    pub pointer_laws : PointerLaws layout p k a s
    pointer_laws =
        record {
          within = put_in;
          tried = none;
          held = put_held;
          others = put_others;
          mark = put_mark_lem;
          either = answers;
        }
      where
        none : (put_pointer layout p k a s).tried ≡ 0
        none = unfold put_pointer in row.tried

        answers : ((put_pointer layout p k a s).answer ≡ complete) ⊎ ((x : ℕ) × ((put_pointer layout p k a s).answer ≡ Err (MapByte x)))
        answers = unfold put_pointer in mapped_either (put_row (pointer_bytes (kind_of k) a) (p.map + offset_of k) s).answer
