-- A first opening: what it keeps, what it changes.
--   MapEnded                  how putting the map can end
--   PointsLaws, points_laws   addresses put as pointers, one slot after another
--   OfMark, mark_pointers     one of the mark's two cells; where these alone change, the pointers stay
--   MarkLaws, mark_laws       the mark put
--   MapLaws, map_laws         both, one behind the other
--   Opened                    what a first opening comes to where it is done
--   OpeningLaws, opening_laws the laws of a first opening
--   whole_inside              the whole area is the area
--   zero_code                 the code of 0 is what every slot holds at count 0
use Rattle.std.proofs.Common.{◌≡◌, ℕ, zero, suc, ◌+◌, ◌%◌, ◌<◌, ◌≤◌, true, ◌⊎◌, List, [], ◌∷◌, length, get_or, sym, refl, ap, ◌∙◌, inl, inr, add-zero, zero-add, arith, None, Err}
use Rattle.code.specs.Codes.{code_of}
use Rattle.code.specs.Nibbles.{nibble_of}
use Rattle.cells.specs.declared.row.Way.TheVariants.{Up}
use Rattle.cells.specs.Chip.{Chip, cell_at, Kept}
use Rattle.cells.specs.Run.{Run, ◌then◌, ◌giving◌}
use Rattle.cells.specs.Log.{Within}
use Rattle.cells.specs.Row.{put_row, InRow}
use Rattle.cells.proofs.Logs.{within_still, within_wider, within_giving, within_then, within_kept}
use Rattle.cells.proofs.Rows.{RowLaws, row_laws}
use Rattle.counter.specs.declared.places.Places.{Places}
use Rattle.counter.specs.declared.verdict.Refusal.TheVariants.{NoSpare, MapByte}
use Rattle.counter.specs.Map.{map_in, byte_at, marked, mark_bytes}
use Rattle.counter.specs.Spares.{whole_area}
use Rattle.counter.specs.Verdict.{◌and_then◌, Work, complete}
use Rattle.counter.specs.Store.{slot_code, put_pointer, mapped}
use Rattle.counter.specs.Opening.{Taken, take_from, put_pointers, put_mark, untried, first_opening}
use Rattle.code.proofs.GrayLaws.{gray_zero}
use Rattle.code.proofs.NibbleLaws.{nibble_zero}
use Rattle.counter.specs.Layout.{Layout, slots}
use Rattle.counter.proofs.Offsets.{offset_first, offset_inside}
use Rattle.counter.proofs.SoundPointers.{Inside, Sound, sound_none}
use Rattle.counter.proofs.Gaps.{between_none}
use Rattle.counter.proofs.MapBytes.{map_byte, pointer_same, mark_put}
use Rattle.counter.proofs.Ready.{pointers, data_of, Ready, InMap, Own, ready_kept, byte_kept, apart_map}
use Rattle.counter.proofs.Pointers.{of_map, PointerLaws, pointer_laws, mapped_done, mapped_either}
use Rattle.counter.proofs.Moves.{not_done, Ended, Ended.done, Ended.roomless, Ended.unmapped}
use Rattle.counter.proofs.Stores.{done_then, stopped_then}
use Rattle.counter.proofs.Takes.{InGap, AllTaken, TakeLaws, take_laws}
use Rattle.counter.proofs.WorkSteps.{opening_on, opening_ends}

-- ## Pointers, one slot after another

-- done, or stopped at a map byte
pub data MapEnded (w : Work) : Type 0 where
  put : w ≡ complete → MapEnded w
  failed : (a : ℕ) → w ≡ Err (MapByte a) → MapEnded w

pub record PointsLaws (layout : Layout) (p : Places) (addresses : List ℕ) (k : ℕ) (s : Chip) (r : Run Work) : Type 0 where
  pub within : Within (InMap layout p) s r
  pub tried : r.tried ≡ 0
  pub earlier : (j : ℕ) → j < k → pointers layout p r.after j ≡ pointers layout p s j
  pub pointed : r.answer ≡ complete → (j : ℕ) → j < length addresses → pointers layout p r.after (k + j) ≡ get_or addresses j 0
  pub ended : MapEnded r.answer

module _ (layout : Layout) (p : Places) where
  -- one pointer, and then the rest
  points_then :
      (a : ℕ) (rest : List ℕ) (k : ℕ) (s : Chip) (q : Run Work)
      → Ready layout p s
      → k + suc (length rest) ≤ slots layout
      → (put_pointer layout p k a s).answer ≡ complete
      → PointsLaws layout p rest (k + 1) (put_pointer layout p k a s).after q
      → PointsLaws layout p (a ∷ rest) k s (put_pointer layout p k a s then q)
  points_then a rest k s q ready fits e points =
      record {
        within = within_then (within_wider (λ c o. of_map ready k (omega arith) o) laws.within) points.within;
        tried = let h = laws.tried in let h' = points.tried in omega arith;
        earlier = λ j l. points.earlier j (omega arith) ∙ laws.others j (omega arith) (λ q. omega arith);
        pointed = here;
        ended = points.ended;
      }
    where
      laws : PointerLaws layout p k a s
      laws = pointer_laws ready k (omega arith) a

      here : q.answer ≡ complete → (j : ℕ) → j < suc (length rest) → pointers layout p q.after (k + j) ≡ get_or (a ∷ rest) j 0
      here d zero l = rw add-zero (points.earlier k (omega arith) ∙ laws.held e)
      here d (suc j) l = let h : k + suc j ≡ k + 1 + j = omega arith in rw h (points.pointed d j (omega arith))

  -- a pointer that stops ends it
  points_stop :
      (a : ℕ) (rest : List ℕ) (k : ℕ) (s : Chip) (x : ℕ)
      → Ready layout p s
      → k + suc (length rest) ≤ slots layout
      → (put_pointer layout p k a s).answer ≡ Err (MapByte x)
      → PointsLaws layout p (a ∷ rest) k s (put_pointer layout p k a s)
  points_stop a rest k s x ready fits e =
      let laws = pointer_laws ready k (omega arith) a in
      record {
        within = within_wider (λ c o. of_map ready k (omega arith) o) laws.within;
        tried = laws.tried;
        earlier = λ j l. laws.others j (omega arith) (λ q. omega arith);
        pointed = λ d. not_done (sym e ∙ d);
        ended = failed x e;
      }

  pub points_laws :
      (addresses : List ℕ) (k : ℕ) (s : Chip) → Ready layout p s → k + length addresses ≤ slots layout
      → PointsLaws layout p addresses k s (put_pointers addresses k layout p s)
  unfolding put_pointers
  points_laws [] k s ready fits = record { within = within_still complete s; tried = refl; earlier = λ j l. refl; pointed = λ d j l. absurd (omega arith); ended = put refl }
  points_laws (a ∷ rest) k s ready fits = go laws.either (points_laws rest (k + 1) (put_pointer layout p k a s).after (ready_kept ready (within_kept laws.within)) (omega arith))
    where
      laws : PointerLaws layout p k a s
      laws = pointer_laws ready k (omega arith) a

      go :
          ((put_pointer layout p k a s).answer ≡ complete) ⊎ ((x : ℕ) × ((put_pointer layout p k a s).answer ≡ Err (MapByte x)))
          → PointsLaws layout p rest (k + 1) (put_pointer layout p k a s).after (put_pointers rest (k + 1) layout p (put_pointer layout p k a s).after)
          → PointsLaws layout p (a ∷ rest) k s (put_pointer layout p k a s and_then put_pointers rest (k + 1) layout p)
      go (inl e) points = rw (done_then (put_pointer layout p k a s) _ e) (points_then a rest k s _ ready fits e points)
      go (inr (x, e)) points = rw (stopped_then (put_pointer layout p k a s) _ _ e) (points_stop a rest k s x ready fits e)

-- ## The mark

abbrev pub OfMark : Places → ℕ → Type 0
OfMark p = InRow (length mark_bytes) Up p.map

pub record MarkLaws (layout : Layout) (p : Places) (s : Chip) : Type 0 where
  pub within : Within (InMap layout p) s (put_mark layout p s)
  pub tried : (put_mark layout p s).tried ≡ 0
  pub pointed : (j : ℕ) → j < slots layout → pointers layout p (put_mark layout p s).after j ≡ pointers layout p s j
  pub marks : (put_mark layout p s).answer ≡ complete → marked (map_in layout p (put_mark layout p s).after.cells) ≡ true
  pub ended : MapEnded (put_mark layout p s).answer

module _ {layout : Layout} {p : Places} {s : Chip} (ready : Ready layout p s) where
  pub mark_pointers : {t : Chip} → Kept (OfMark p) s t → (j : ℕ) → j < slots layout → pointers layout p t j ≡ pointers layout p s j
  mark_pointers kept j l =
      let h = offset_first j in
      let h' = offset_inside layout j l in
      pointer_same _ _ j (λ i from to. byte_kept ready kept i (omega arith) (λ o. let u = o.1 in omega arith))

  row : RowLaws mark_bytes p.map s
  row = row_laws mark_bytes p.map s ready.paired

  mark_byte :
      (put_row mark_bytes p.map s).answer ≡ None → (j : ℕ) → j < 2
      → byte_at (map_in layout p (put_row mark_bytes p.map s).after.cells) j ≡ get_or mark_bytes j 0
  mark_byte e j l = map_byte layout p _ j (omega arith) ∙ row.held e j l

  pub mark_laws : MarkLaws layout p s
  unfolding put_mark
  mark_laws =
      record {
        within = within_giving _ (within_wider (λ c i. record { from = i.0; to = let h = i.1 in omega arith }) row.within);
        tried = row.tried;
        pointed = mark_pointers row.kept;
        marks = λ e. mark_put _ (mark_byte (mapped_done _ e) 0 (omega arith)) (mark_byte (mapped_done _ e) 1 (omega arith));
        ended = ends (mapped_either (put_row mark_bytes p.map s).answer);
      }
    where
      ends :
          (mapped (put_row mark_bytes p.map s).answer ≡ complete) ⊎ ((x : ℕ) × (mapped (put_row mark_bytes p.map s).answer ≡ Err (MapByte x)))
          → MapEnded (mapped (put_row mark_bytes p.map s).answer)
      ends (inl e) = put e
      ends (inr (x, e)) = failed x e

-- ## The whole map: all pointers, then the mark

pub record MapLaws (layout : Layout) (p : Places) (addresses : List ℕ) (s : Chip) (r : Run Work) : Type 0 where
  pub within : Within (InMap layout p) s r
  pub tried : r.tried ≡ 0
  pub pointed : r.answer ≡ complete → (j : ℕ) → j < slots layout → pointers layout p r.after j ≡ get_or addresses j 0
  pub marks : r.answer ≡ complete → marked (map_in layout p r.after.cells) ≡ true
  pub ended : MapEnded r.answer

module _ {layout : Layout} {p : Places} {s : Chip} (ready : Ready layout p s) (addresses : List ℕ) (many : length addresses ≡ slots layout) where
  abbrev pointing : Run Work
  pointing = put_pointers addresses 0 layout p s

  points : PointsLaws layout p addresses 0 s pointing
  points = points_laws layout p addresses 0 s ready (omega arith)

  maps_done : pointing.answer ≡ complete → MapLaws layout p addresses s (pointing then put_mark layout p pointing.after)
  maps_done e =
      record {
        within = within_then points.within laws.within;
        tried = let h = points.tried in let h' = laws.tried in omega arith;
        pointed = λ d j l. laws.pointed j l ∙ (rw zero-add at (points.pointed e j (omega arith)));
        marks = laws.marks;
        ended = laws.ended;
      }
    where
      laws : MarkLaws layout p pointing.after
      laws = mark_laws (ready_kept ready (within_kept points.within))

  maps_stop : (x : ℕ) → pointing.answer ≡ Err (MapByte x) → MapLaws layout p addresses s pointing
  maps_stop x e =
      record {
        within = points.within;
        tried = points.tried;
        pointed = λ d. not_done (sym e ∙ d);
        marks = λ d. not_done (sym e ∙ d);
        ended = points.ended;
      }

  pub map_laws : MapLaws layout p addresses s (put_pointers addresses 0 layout p s and_then put_mark layout p)
  map_laws = go points.ended
    where
      go : MapEnded pointing.answer → MapLaws layout p addresses s (pointing and_then put_mark layout p)
      go (put e) = rw (done_then pointing (put_mark layout p) e) (maps_done e)
      go (failed x e) = rw (stopped_then pointing (put_mark layout p) _ e) (maps_stop x e)

-- ## A first opening

-- every slot holds the code of 0, in a sound map with its mark
pub record Opened (layout : Layout) (p : Places) (s : Chip) : Type 0 where
  pub sound : Sound (slots layout) p (pointers layout p s)
  pub marks : marked (map_in layout p s.cells) ≡ true
  pub held : (j : ℕ) → j < slots layout → data_of layout p s j ≡ code_of 0

pub record OpeningLaws (layout : Layout) (p : Places) (s : Chip) (r : Run Work) : Type 0 where
  pub within : Within (Own layout p) s r
  pub tried : r.tried ≡ 0
  pub opened : r.answer ≡ complete → Opened layout p r.after
  pub ended : Ended r.answer

pub whole_inside : (p : Places) (c : ℕ) → InGap (whole_area p) c → Inside p c
unfolding whole_area
whole_inside p c i = let h = i.from in let h' = i.to in record { from = omega arith; to = omega arith }

module _ {layout : Layout} {p : Places} {s : Chip} (ready : Ready layout p s) where
  abbrev taking : Run Taken
  taking = untried (take_from (slots layout) 0 (whole_area p) s)

  takes : TakeLaws (slots layout) 0 (whole_area p) s (take_from (slots layout) 0 (whole_area p) s)
  takes = take_laws (slots layout) 0 (whole_area p) s ready.paired

  taking_within : Within (Own layout p) s (taking giving taking.answer.work)
  taking_within = let w = takes.within in within_wider (λ c i. inr (whole_inside p c i)) (record { logged = w.logged; places = w.places })

  abbrev mapping : Chip → Run Work
  mapping t = put_pointers taking.answer.addresses 0 layout p t and_then put_mark layout p

  module _ (t : AllTaken (slots layout) 0 (whole_area p) (take_from (slots layout) 0 (whole_area p) s)) where
    maps : MapLaws layout p taking.answer.addresses taking.after (mapping taking.after)
    maps = map_laws (ready_kept ready (within_kept taking_within)) taking.answer.addresses t.many

    -- the cells of the area stay while the map is put
    area_kept : (c : ℕ) → Inside p c → cell_at (mapping taking.after).after c ≡ cell_at taking.after c
    area_kept c i = (within_kept maps.within).cell c (λ o. apart_map ready o i)

    opening_opened : (mapping taking.after).answer ≡ complete → Opened layout p (mapping taking.after).after
    opening_opened e =
        record {
          sound = rw zero-add at (t.sound p (pointers layout p (mapping taking.after).after) (λ j l. rw zero-add (maps.pointed e j l)) (between_none p _) (sound_none p _));
          marks = maps.marks e;
          held = λ j l. ap (cell_at (mapping taking.after).after) (maps.pointed e j l) ∙ area_kept _ (whole_inside p _ (t.inside j l)) ∙ t.held j l;
        }

    opening_done : OpeningLaws layout p s ((taking giving taking.answer.work) then mapping taking.after)
    opening_done =
        record {
          within = within_then taking_within (within_wider (λ c i. inl i) maps.within);
          tried = let h = maps.tried in omega arith;
          opened = opening_opened;
          ended = ends maps.ended;
        }
      where
        ends : {w : Work} → MapEnded w → Ended w
        ends (put e) = done e
        ends (failed x e) = unmapped x e

  opening_stop : (k : ℕ) → taking.answer.work ≡ Err (NoSpare k) → OpeningLaws layout p s (taking giving taking.answer.work)
  opening_stop k e = record { within = taking_within; tried = refl; opened = λ d. not_done (sym e ∙ d); ended = roomless k e }

  pub opening_laws : OpeningLaws layout p s (first_opening layout p s)
  opening_laws = go takes.either
    where
      go : (taking.answer.work ≡ complete) ⊎ ((j : ℕ) × (taking.answer.work ≡ Err (NoSpare j))) → OpeningLaws layout p s (first_opening layout p s)
      go (inl e) = rw (opening_on layout p s e) (opening_done (takes.all e))
      go (inr (k, e)) = rw (opening_ends layout p s e) (opening_stop k e)

-- what every slot holds at count 0
pub zero_code : (k : ℕ) → slot_code 0 k ≡ code_of 0
unfolding slot_code
zero_code k = ap code_of (ap (λ (w : ℕ). nibble_of w (k % 8)) gray_zero ∙ nibble_zero (k % 8))
