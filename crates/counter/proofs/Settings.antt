-- Good lengths and place settings, as facts of arithmetic.
--   length_good_lem           what a good length says
--   Placed                    what good place settings say
--   good_placed               the test turned into it
--   map_outside               no map cell is a cell of the area
--   not_placed                the test that fails
--   placed_test               another test of the same
use Rattle.std.proofs.Common.{◌≡◌, ℕ, ◌+◌, ◌-◌, ◌*◌, ◌<◌, ◌≤◌, Bool, true, false, ◌||◌, ltb, leb, ◌⊎◌, sym, refl, inl, inr, arith, ltb-true, lt-ltb, le-leb, leb-true}
use Rattle.counter.specs.declared.places.Places.{Places}
use Rattle.counter.specs.Layout.{Layout, slots, map_cells}
use Rattle.counter.specs.Places.{length_good, places_good}
use Rattle.counter.proofs.RangeTests.{both_hold, one_holds, never}

pub record Placed (layout : Layout) (n : ℕ) (p : Places) : Type 0 where
  pub map_low : 1 ≤ p.map
  pub start_low : 1 ≤ p.start
  pub map_fits : p.map + map_cells layout ≤ n
  pub end_fits : p.end < n
  pub start_reaches : p.start ≤ 256 - 5 * layout.copies
  pub large : p.start + slots layout ≤ p.end + 1
  pub apart : (p.map + map_cells layout ≤ p.start) ⊎ (p.end < p.map)

pub good_placed : (layout : Layout) (n : ℕ) (p : Places) → places_good layout n p ≡ true → Placed layout n p
unfolding places_good
good_placed layout n p h =
    let h₁ = both_hold _ (leb (p.map + map_cells layout) p.start || ltb p.end p.map) h in
    let h₂ = both_hold _ (leb (p.start + slots layout) (p.end + 1)) h₁.0 in
    let h₃ = both_hold _ (leb p.start (256 - 5 * layout.copies)) h₂.0 in
    let h₄ = both_hold _ (ltb p.end n) h₃.0 in
    let h₅ = both_hold _ (leb (p.map + map_cells layout) n) h₄.0 in
    let h₆ = both_hold (leb 1 p.map) (leb 1 p.start) h₅.0 in
    record {
      map_low = leb-true _ _ h₆.0;
      start_low = leb-true _ _ h₆.1;
      map_fits = leb-true _ _ h₅.1;
      end_fits = ltb-true _ _ h₄.1;
      start_reaches = leb-true _ _ h₃.1;
      large = leb-true _ _ h₂.1;
      apart = side (one_holds _ _ h₁.1);
    }
  where
    side :
        (leb (p.map + map_cells layout) p.start ≡ true) ⊎ (ltb p.end p.map ≡ true)
        → (p.map + map_cells layout ≤ p.start) ⊎ (p.end < p.map)
    side (inl x) = inl (leb-true _ _ x)
    side (inr x) = inr (ltb-true _ _ x)

pub length_good_lem : (layout : Layout) (n : ℕ) → length_good layout n ≡ true → (1 + map_cells layout + slots layout ≤ n) × (n ≤ 4096)
unfolding length_good
length_good_lem layout n h =
    let both = both_hold (leb (1 + map_cells layout + slots layout) n) _ h in
    (leb-true _ _ both.0, leb-true _ _ both.1)

-- no map cell is a cell of the area
pub map_outside : {layout : Layout} {n : ℕ} {p : Places} → Placed layout n p → (j a : ℕ) → j < map_cells layout → p.start ≤ a → a ≤ p.end → p.map + j ≡ a → ⊥
map_outside {layout} {n} {p} good j a h low high e = go good.apart
  where
    go : (p.map + map_cells layout ≤ p.start) ⊎ (p.end < p.map) → ⊥
    go (inl below) = omega arith
    go (inr above) = omega arith

either_true : (a b : Bool) → (a ≡ true) ⊎ (b ≡ true) → a || b ≡ true
either_true true b h = refl
either_true false b (inl h) = cc
either_true false b (inr h) = h

pub placed_good : (layout : Layout) (n : ℕ) (p : Places) → Placed layout n p → places_good layout n p ≡ true
unfolding places_good
placed_good layout n p h =
    rw (
      le-leb _ _ h.map_low,
      le-leb _ _ h.start_low,
      le-leb _ _ h.map_fits,
      lt-ltb _ _ h.end_fits,
      le-leb _ _ h.start_reaches,
      le-leb _ _ h.large,
    )
    (either_true _ _ (side h.apart))
  where
    side : (p.map + map_cells layout ≤ p.start) ⊎ (p.end < p.map) → (leb (p.map + map_cells layout) p.start ≡ true) ⊎ (ltb p.end p.map ≡ true)
    side (inl x) = inl (le-leb _ _ x)
    side (inr x) = inr (lt-ltb _ _ x)

pub not_placed : (layout : Layout) (n : ℕ) (p : Places) → (Placed layout n p → ⊥) → places_good layout n p ≡ false
not_placed layout n p h = never (places_good layout n p) (λ g. h (good_placed layout n p g))

-- a test that tells whether the settings are good
pub placed_test : (layout : Layout) (n : ℕ) (p : Places) (test : Bool) → (test ≡ true → Placed layout n p) → (test ≡ false → Placed layout n p → ⊥) → test ≡ places_good layout n p
placed_test layout n p true good bad = sym (placed_good layout n p (good refl))
placed_test layout n p false good bad = sym (not_placed layout n p (bad refl))
