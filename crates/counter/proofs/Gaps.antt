-- What pointers leave of the area, by the properties that say it all.
--   Between                   the gap that the pointers of the slots below n leave
--   between_none              before any cell is taken
--   between_more              one more address taken
--   between_gap, between_map  the gap of the definitions is such a gap
--   between_ordered           sound pointers leave high at or below low, and both in the area
--   Free                      an address of a kind may be taken from a gap
--   Spare                     the same in the document's words, over the pointers
--   spare_free, free_spare    the two are one
--   OnFrom, free_may, may_free  and the same by the test `may_try`, from the next address on
--   walked_free, free_walked  a walk over the spares goes over just those
--   spares_tried              from the next address on, just the first `spares_of` cells may be tried
--   high_spares, low_spares   how many they are
--   spare_fresh               no pointer is a spare
--   between_unique            a gap is all that its properties say
--   between_moved             a pointer moved to a free cell narrows the gap by it
--   sound_joined              sound pointers, one of them put at a spare
--   gap_more                  the gap of one slot more
use Rattle.std.proofs.Common.{◌≡◌, ℕ, zero, suc, ◌+◌, ◌-◌, ◌<◌, ◌≤◌, min, max, true, ◌&&◌, leb, ◌↔◌, sym, refl, ap, ◌∙◌, true≢false, add-one, arith, ltb-true, lt-ltb, le-leb, leb-true}
use native.Mathlib.Decide.{ℕ_discrete}
use Rattle.cells.specs.Row.{nth}
use Rattle.counter.specs.declared.map.Kind.{Kind}
use Rattle.counter.specs.declared.map.Kind.TheVariants.{High, Low}
use Rattle.counter.specs.declared.places.Places.{Places}
use Rattle.counter.specs.declared.spares.Gap.{Gap}
use Rattle.counter.specs.Slots.{kind_of}
use Rattle.counter.specs.Map.{in_area}
use Rattle.counter.specs.Spares.{gap, whole_area, narrow, gap_to, gap_of, may_try, way_of, next_of, spares_of}
use Rattle.counter.proofs.RangeTests.{both_hold, hold_both}
use Rattle.counter.proofs.SoundPointers.{Inside, Sound}
use Rattle.counter.specs.Layout.{Layout, slots}

-- above every High pointer and the least such from S on; at or below every Low pointer and the greatest such up to E + 1
pub record Between (n : ℕ) (p : Places) (pointer : ℕ → ℕ) (g : Gap) : Type 0 where
  pub start : p.start ≤ g.high
  pub end : g.low ≤ p.end + 1
  pub above : (k : ℕ) → k < n → kind_of k ≡ High → pointer k < g.high
  pub below : (k : ℕ) → k < n → kind_of k ≡ Low → g.low ≤ pointer k
  pub least : (a : ℕ) → p.start ≤ a → ((k : ℕ) → k < n → kind_of k ≡ High → pointer k < a) → g.high ≤ a
  pub greatest : (a : ℕ) → a ≤ p.end + 1 → ((k : ℕ) → k < n → kind_of k ≡ Low → a ≤ pointer k) → a ≤ g.low

pub between_none : (p : Places) (pointer : ℕ → ℕ) → Between 0 p pointer (whole_area p)
unfolding whole_area
between_none p pointer =
    record {
      start = omega arith;
      end = omega arith;
      above = λ k l e. absurd (omega arith);
      below = λ k l e. absurd (omega arith);
      least = λ a l h. l;
      greatest = λ a l h. l;
    }

narrow_high : (a : ℕ) (g : Gap) → narrow High a g ≡ gap (max g.high (a + 1)) g.low
unfolding narrow
narrow_high a g = refl

narrow_low : (a : ℕ) (g : Gap) → narrow Low a g ≡ gap g.high (min g.low a)
unfolding narrow
narrow_low a g = refl

-- the last of the slots below n + 1, or one before it
last : (P : ℕ → Type 0) (n : ℕ) → ((k : ℕ) → k < n → P k) → P n → (k : ℕ) → k < suc n → P k
last P n h e k l = go (ℕ_discrete k n)
  where
    go : Dec (k ≡ n) → P k
    go (yes q) = rw q e
    go (no d) = h k (omega arith)

module _ {n : ℕ} {p : Places} {pointer : ℕ → ℕ} {g : Gap} (b : Between n p pointer g) where
  more_high : (a : ℕ) → kind_of n ≡ High → pointer n ≡ a → Between (suc n) p pointer (gap (max g.high (a + 1)) g.low)
  more_high a kind at =
      record {
        start = let h = b.start in omega arith;
        end = b.end;
        above = last (λ k. kind_of k ≡ High → pointer k < max g.high (a + 1)) n (λ k l e. let h = b.above k l e in omega arith) (λ e. omega arith);
        below = last (λ k. kind_of k ≡ Low → g.low ≤ pointer k) n b.below (λ e. absurd (true≢false cc));
        least = λ c l h. let x = b.least c l (λ k m e. h k (omega arith) e) in let y = h n (omega arith) kind in omega arith;
        greatest = λ c l h. b.greatest c l (λ k m e. h k (omega arith) e);
      }

  more_low : (a : ℕ) → kind_of n ≡ Low → pointer n ≡ a → Between (suc n) p pointer (gap g.high (min g.low a))
  more_low a kind at =
      record {
        start = b.start;
        end = let h = b.end in omega arith;
        above = last (λ k. kind_of k ≡ High → pointer k < g.high) n b.above (λ e. absurd (true≢false cc));
        below = last (λ k. kind_of k ≡ Low → min g.low a ≤ pointer k) n (λ k l e. let h = b.below k l e in omega arith) (λ e. omega arith);
        least = λ c l h. b.least c l (λ k m e. h k (omega arith) e);
        greatest = λ c l h. let x = b.greatest c l (λ k m e. h k (omega arith) e) in let y = h n (omega arith) kind in omega arith;
      }

  pub between_more : (a : ℕ) → pointer n ≡ a → Between (suc n) p pointer (narrow (kind_of n) a g)
  between_more a at = go (kind_of n) refl
    where
      go : (kind : Kind) → kind_of n ≡ kind → Between (suc n) p pointer (narrow (kind_of n) a g)
      go High e = rw (e, narrow_high a g) (more_high a e at)
      go Low e = rw (e, narrow_low a g) (more_low a e at)

pub between_gap : (n : ℕ) (p : Places) (pointer : ℕ → ℕ) → Between n p pointer (gap_to n p pointer)
unfolding gap_to
between_gap zero p pointer = between_none p pointer
between_gap (suc n) p pointer = between_more (between_gap n p pointer) (pointer n) refl

pub between_map : (layout : Layout) (p : Places) (pointer : ℕ → ℕ) → Between (slots layout) p pointer (gap_of layout p pointer)
unfolding gap_of
between_map layout p pointer = between_gap (slots layout) p pointer

-- sound pointers leave a gap that is none or more cells of the area
pub between_ordered :
    {n : ℕ} {p : Places} {pointer : ℕ → ℕ} {g : Gap} → p.start ≤ p.end + 1 → Sound n p pointer
    → Between n p pointer g → g.high ≤ g.low
between_ordered {n} {p} {pointer} {g} fits s b =
    b.least g.low
    (b.greatest p.start fits (λ k l e. (s.inside k l).from))
    (λ k l e. b.greatest (suc (pointer k)) (let h = (s.inside k l).to in omega arith) (λ j m f. s.order k j l m e f))

-- an address of a kind may be taken from a gap
pub record Free (kind : Kind) (g : Gap) (a : ℕ) : Type 0 where
  pub from : g.high ≤ a
  pub to : a < g.low
  pub reach : kind ≡ High → a ≤ 255

-- a spare of a kind: in the area, a High one at most 255 and below every Low pointer, a Low one above every
-- High pointer; and from the next address on, a High one above every High pointer, a Low one below every Low one
pub record Spare (kind : Kind) (n : ℕ) (p : Places) (pointer : ℕ → ℕ) (a : ℕ) : Type 0 where
  pub inside : Inside p a
  pub reach : kind ≡ High → a ≤ 255
  pub above : (k : ℕ) → k < n → kind_of k ≡ High → pointer k < a
  pub below : (k : ℕ) → k < n → kind_of k ≡ Low → a < pointer k

module _ {kind : Kind} {n : ℕ} {p : Places} {pointer : ℕ → ℕ} {g : Gap} {a : ℕ} (b : Between n p pointer g) where
  pub free_spare : Free kind g a → Spare kind n p pointer a
  free_spare f =
      record {
        inside = record { from = let h = b.start in let h' = f.from in omega arith; to = let h = b.end in let h' = f.to in omega arith };
        reach = f.reach;
        above = λ k l e. let h = b.above k l e in let h' = f.from in omega arith;
        below = λ k l e. let h = b.below k l e in let h' = f.to in omega arith;
      }

  pub spare_free : Spare kind n p pointer a → Free kind g a
  spare_free s =
      record {
        from = b.least a s.inside.from s.above;
        to = let h = b.greatest (a + 1) (let h = s.inside.to in omega arith) (λ k l e. let h = s.below k l e in omega arith) in omega arith;
        reach = s.reach;
      }

-- from the next address of a kind on
unfoldable pub OnFrom : Kind → Gap → ℕ → Type 0
OnFrom High g a = g.high ≤ a
OnFrom Low g a = a < g.low

-- the free cells are those from the next address on that may be tried
pub free_may :
    (kind : Kind) {n : ℕ} {p : Places} {pointer : ℕ → ℕ} {g : Gap} {a : ℕ} → Between n p pointer g
    → Free kind g a → OnFrom kind g a × (may_try p kind g a ≡ true)
unfolding OnFrom may_try
free_may High b f =
    let i = (free_spare b f).inside in
    (f.from, hold_both _ _ (hold_both _ _ (hold_both _ _ (le-leb _ _ i.from) (le-leb _ _ i.to)) (le-leb _ _ (f.reach refl))) (lt-ltb _ _ f.to))
free_may Low b f =
    let i = (free_spare b f).inside in
    (f.to, hold_both _ _ (hold_both _ _ (le-leb _ _ i.from) (le-leb _ _ i.to)) (le-leb _ _ f.from))

pub may_free : (kind : Kind) (p : Places) (g : Gap) (a : ℕ) → OnFrom kind g a → may_try p kind g a ≡ true → Free kind g a
unfolding OnFrom may_try
may_free High p g a on may =
    let both = both_hold (in_area p a && leb a 255) _ may in
    record { from = on; to = ltb-true _ _ both.1; reach = λ e. leb-true _ _ (both_hold (in_area p a) _ both.0).1 }
may_free Low p g a on may =
    record { from = leb-true _ _ (both_hold (in_area p a) _ may).1; to = on; reach = λ e. absurd (true≢false cc) }

-- a walk over the spares of a kind goes over the free cells, and over all of them
pub walked_free : (kind : Kind) (g : Gap) (j : ℕ) → j < spares_of kind g → Free kind g (nth (way_of kind) (next_of kind g) j)
unfolding spares_of way_of next_of
walked_free High g j h = record { from = omega arith; to = omega arith; reach = λ e. omega arith }
walked_free Low g j h = record { from = omega arith; to = omega arith; reach = λ e. absurd (true≢false cc) }

pub free_walked : (kind : Kind) (g : Gap) (a : ℕ) → Free kind g a → (j : ℕ) × (j < spares_of kind g) × (nth (way_of kind) (next_of kind g) j ≡ a)
unfolding spares_of way_of next_of
free_walked High g a f = let h = f.from in let h' = f.to in let h'' = f.reach refl in (a - g.high, omega arith, omega arith)
free_walked Low g a f = let h = f.from in let h' = f.to in (g.low - 1 - a, omega arith, omega arith)

-- the j-th cell from the next address on may be tried exactly where j is below `spares_of`
pub spares_tried :
    (kind : Kind) {n : ℕ} {p : Places} {pointer : ℕ → ℕ} {g : Gap} → 1 ≤ p.start → Between n p pointer g
    → (j : ℕ) → (j < spares_of kind g) ↔ (may_try p kind g (nth (way_of kind) (next_of kind g) j) ≡ true)
unfolding spares_of way_of next_of OnFrom may_try
spares_tried High {p = p} {g = g} first b j =
    (λ l. (free_may High b (walked_free High g j l)).1, λ may. let f = may_free High p g (g.high + j) (omega arith) may in let reach = f.reach refl in omega arith)
spares_tried Low {p = p} {g = g} first b j =
    (λ l. (free_may Low b (walked_free Low g j l)).1, λ may. let from = leb-true g.high _ (both_hold (in_area p (g.low - 1 - j)) _ may).1 in omega arith)

pub high_spares : (g : Gap) → spares_of High g ≡ min 256 g.low - g.high
unfolding spares_of
high_spares g = refl

pub low_spares : (g : Gap) → spares_of Low g ≡ g.low - g.high
unfolding spares_of
low_spares g = refl

-- a gap is all that its properties say
pub between_unique :
    {n : ℕ} {p : Places} {pointer : ℕ → ℕ} {g h : Gap} → Between n p pointer g → Between n p pointer h
    → (g.high ≡ h.high) × (g.low ≡ h.low)
between_unique {n} {p} {pointer} {g} {h} b c =
    let x = b.least h.high c.start c.above in
    let y = c.least g.high b.start b.above in
    let z = b.greatest h.low c.end c.below in
    let w = c.greatest g.low b.end b.below in
    (omega arith, omega arith)

-- slot k's pointer moved to a free cell narrows the gap by it
module _ {n k a : ℕ} {p : Places} {f : ℕ → ℕ} {g : Gap} (h : ℕ → ℕ) (b : Between n p f g) (l : k < n) (free : Free (kind_of k) g a) (at : h k ≡ a)
    (others : (j : ℕ) → j < n → (j ≡ k → ⊥) → h j ≡ f j) where
  moved_high : kind_of k ≡ High → Between n p h (gap (max g.high (a + 1)) g.low)
  moved_high kind =
      let from = free.from in
      let start = b.start in
      record {
        start = omega arith;
        end = b.end;
        above = λ j m e. above j m e (ℕ_discrete j k);
        below = λ j m e. rw (others j m (λ q. true≢false cc)) (b.below j m e);
        least = λ c m bound. let x = bound k l kind in omega arith;
        greatest = λ c m bound. b.greatest c m (λ j o e. rw (← others j o (λ q. true≢false cc)) (bound j o e));
      }
    where
      above : (j : ℕ) → j < n → kind_of j ≡ High → Dec (j ≡ k) → h j < max g.high (a + 1)
      above j m e (yes q) = rw (q, at) (omega arith)
      above j m e (no d) = let x = b.above j m e in rw (others j m d) (omega arith)

  moved_low : kind_of k ≡ Low → Between n p h (gap g.high (min g.low a))
  moved_low kind =
      let to = free.to in
      let end = b.end in
      record {
        start = b.start;
        end = omega arith;
        above = λ j m e. rw (others j m (λ q. true≢false cc)) (b.above j m e);
        below = λ j m e. below j m e (ℕ_discrete j k);
        least = λ c m bound. b.least c m (λ j o e. rw (← others j o (λ q. true≢false cc)) (bound j o e));
        greatest = λ c m bound. let x = bound k l kind in omega arith;
      }
    where
      below : (j : ℕ) → j < n → kind_of j ≡ Low → Dec (j ≡ k) → min g.low a ≤ h j
      below j m e (yes q) = rw (q, at) (omega arith)
      below j m e (no d) = let x = b.below j m e in rw (others j m d) (omega arith)

  pub between_moved : Between n p h (narrow (kind_of k) a g)
  between_moved = go (kind_of k) refl
    where
      go : (kind : Kind) → kind_of k ≡ kind → Between n p h (narrow (kind_of k) a g)
      go High e = rw (e, narrow_high a g) (moved_high e)
      go Low e = rw (e, narrow_low a g) (moved_low e)

-- no pointer is a spare, which lies between those of the two kinds
pub spare_fresh : {kind : Kind} {n a : ℕ} {p : Places} {f : ℕ → ℕ} → Spare kind n p f a → (j : ℕ) → j < n → f j ≡ a → ⊥
spare_fresh new j l e = go (kind_of j) refl
  where
    go : (kind : Kind) → kind_of j ≡ kind → ⊥
    go High q = let x = new.above j l q in omega arith
    go Low q = let x = new.below j l q in omega arith

-- the pointers of the slots below n, with slot k's at a spare
module _ {n m k a : ℕ} {p : Places} {f : ℕ → ℕ} (h : ℕ → ℕ) (s : Sound n p f) (new : Spare (kind_of k) n p f a) (at : h k ≡ a)
    (others : (j : ℕ) → j < m → (j ≡ k → ⊥) → (j < n) × (f j ≡ h j)) where
  joined_inside : (j : ℕ) → j < m → Dec (j ≡ k) → Inside p (h j)
  joined_inside j l (yes e) = rw (e, at) new.inside
  joined_inside j l (no d) = let o = others j l d in rw (← o.1) (s.inside j o.0)

  joined_reach : (j : ℕ) → j < m → Dec (j ≡ k) → kind_of j ≡ High → h j ≤ 255
  joined_reach j l (yes e) kind = rw (e, at) (new.reach (rw e at kind))
  joined_reach j l (no d) kind = let o = others j l d in rw (← o.1) (s.reach j o.0 kind)

  joined_apart : (i j : ℕ) → i < m → j < m → Dec (i ≡ k) → Dec (j ≡ k) → (i ≡ j → ⊥) → h i ≡ h j → ⊥
  joined_apart i j l l' (yes e) (yes e') d q = d (e ∙ sym e')
  joined_apart i j l l' (yes e) (no d') d q = let o = others j l' d' in spare_fresh new j o.0 (o.1 ∙ sym q ∙ ap h e ∙ at)
  joined_apart i j l l' (no d') (yes e) d q = let o = others i l d' in spare_fresh new i o.0 (o.1 ∙ q ∙ ap h e ∙ at)
  joined_apart i j l l' (no d₁) (no d₂) d q =
      let o₁ = others i l d₁ in
      let o₂ = others j l' d₂ in
      s.apart i j o₁.0 o₂.0 d (o₁.1 ∙ q ∙ sym o₂.1)

  joined_order : (i j : ℕ) → i < m → j < m → Dec (i ≡ k) → Dec (j ≡ k) → kind_of i ≡ High → kind_of j ≡ Low → h i < h j
  joined_order i j l l' (yes e) (yes e') high low = absurd (true≢false cc)
  joined_order i j l l' (yes e) (no d) high low = let o = others j l' d in rw (e, at, ← o.1) (new.below j o.0 low)
  joined_order i j l l' (no d) (yes e) high low = let o = others i l d in rw (e, at, ← o.1) (new.above i o.0 high)
  joined_order i j l l' (no d₁) (no d₂) high low =
      let o₁ = others i l d₁ in
      let o₂ = others j l' d₂ in
      rw (← o₁.1, ← o₂.1) (s.order i j o₁.0 o₂.0 high low)

  pub sound_joined : Sound m p h
  sound_joined =
      record {
        inside = λ j l. joined_inside j l (ℕ_discrete j k);
        reach = λ j l. joined_reach j l (ℕ_discrete j k);
        apart = λ i j l l'. joined_apart i j l l' (ℕ_discrete i k) (ℕ_discrete j k);
        order = λ i j l l'. joined_order i j l l' (ℕ_discrete i k) (ℕ_discrete j k);
      }

pub gap_more : (k : ℕ) (p : Places) (pointer : ℕ → ℕ) → narrow (kind_of k) (pointer k) (gap_to k p pointer) ≡ gap_to (k + 1) p pointer
unfolding gap_to
gap_more k p pointer = rw (add-one k)
