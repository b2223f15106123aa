-- Sound pointers, as facts of arithmetic over the pointers as a function.
--   Inside                    an address is in the area
--   Sound                     the pointers of the slots below n are sound
--   test_sound, sound_test    the test turned into it and back
--   test_reach, reach_test    so for the one clause on High pointers
--   sound_none                of no slots
--   sound_same                pointers that agree on those slots are sound alike
--   below_apart               different from every earlier one is different from every other
use Rattle.std.proofs.Common.{◌≡◌, ℕ, ◌<◌, ◌≤◌, true, not, eqb, leb, sym, refl, ap, ◌∙◌, true≢false, arith, ltb-true, lt-ltb, ne_eqb, le-leb, leb-true}
use native.Mathlib.Decide.{dec_lt}
use borrow.Author.Tests.{eqb-false, not-true}
use Rattle.counter.specs.declared.map.Kind.{Kind}
use Rattle.counter.specs.declared.map.Kind.TheVariants.{High, Low}
use Rattle.counter.specs.declared.places.Places.{Places}
use Rattle.counter.specs.Layout.{Layout, slots}
use Rattle.counter.specs.Slots.{kind_of, every}
use Rattle.counter.specs.Map.{in_area, reachable, in_order, sound}
use Rattle.counter.proofs.RangeTests.{both_hold, hold_both, every_all, all_every}

pub record Inside (p : Places) (a : ℕ) : Type 0 where
  pub from : p.start ≤ a
  pub to : a ≤ p.end

-- all in the area, High ones at most 255, all different, and every High one below every Low one
pub record Sound (n : ℕ) (p : Places) (pointer : ℕ → ℕ) : Type 0 where
  pub inside : (k : ℕ) → k < n → Inside p (pointer k)
  pub reach : (k : ℕ) → k < n → kind_of k ≡ High → pointer k ≤ 255
  pub apart : (i j : ℕ) → i < n → j < n → (i ≡ j → ⊥) → pointer i ≡ pointer j → ⊥
  pub order : (i j : ℕ) → i < n → j < n → kind_of i ≡ High → kind_of j ≡ Low → pointer i < pointer j

test_inside : (p : Places) (a : ℕ) → in_area p a ≡ true → Inside p a
test_inside p a h =
    let both = both_hold (leb p.start a) _ h in
    record { from = leb-true _ _ both.0; to = leb-true _ _ both.1 }

inside_test : (p : Places) (a : ℕ) → Inside p a → in_area p a ≡ true
inside_test p a h = hold_both _ _ (le-leb _ _ h.from) (le-leb _ _ h.to)

pub test_reach : (kind : Kind) (a : ℕ) → reachable kind a ≡ true → kind ≡ High → a ≤ 255
unfolding reachable
test_reach High a h e = leb-true _ _ h
test_reach Low a h e = absurd (true≢false cc)

pub reach_test : (kind : Kind) (a : ℕ) → (kind ≡ High → a ≤ 255) → reachable kind a ≡ true
unfolding reachable
reach_test High a h = le-leb _ _ (h refl)
reach_test Low a h = refl

test_order : (one other : Kind) (a b : ℕ) → in_order one other a b ≡ true → one ≡ High → other ≡ Low → a < b
unfolding in_order
test_order High Low a b h e f = ltb-true _ _ h
test_order High High a b h e f = absurd (true≢false cc)
test_order Low Low a b h e f = absurd (true≢false cc)
test_order Low High a b h e f = absurd (true≢false cc)

order_test : (one other : Kind) (a b : ℕ) → (one ≡ High → other ≡ Low → a < b) → in_order one other a b ≡ true
unfolding in_order
order_test High Low a b h = lt-ltb _ _ (h refl refl)
order_test High High a b h = refl
order_test Low Low a b h = refl
order_test Low High a b h = refl

-- different from every earlier one is different from every other
pub below_apart :
    {n : ℕ} {pointer : ℕ → ℕ} → ((i j : ℕ) → i < j → j < n → pointer i ≡ pointer j → ⊥) → (i j : ℕ) → i < n
    → j < n → (i ≡ j → ⊥) → pointer i ≡ pointer j → ⊥
below_apart {n} {pointer} below i j l m d e = go (dec_lt i j)
  where
    go : Dec (i < j) → ⊥
    go (yes h) = below i j h m e
    go (no h) = below j i (omega arith) l (sym e)

module _ (layout : Layout) (p : Places) (pointer : ℕ → ℕ) where
  pub test_sound : sound layout p pointer ≡ true → Sound (slots layout) p pointer
  unfolding sound
  test_sound h =
      let h₁ = both_hold _ (every (slots layout) (λ i. every (slots layout) (λ j. in_order (kind_of i) (kind_of j) (pointer i) (pointer j)))) h in
      let h₂ = both_hold _ (every (slots layout) (λ j. every j (λ i. not (eqb (pointer i) (pointer j))))) h₁.0 in
      let h₃ = both_hold (every (slots layout) (λ k. in_area p (pointer k))) _ h₂.0 in
      record {
        inside = λ k l. test_inside p (pointer k) (every_all _ _ h₃.0 k l);
        reach = λ k l. test_reach (kind_of k) (pointer k) (every_all _ _ h₃.1 k l);
        apart = λ i j l m d e. below_apart {pointer = pointer} (λ i j l m. eqb-false _ _ (not-true _ (every_all _ _ (every_all _ _ h₂.1 j m) i l))) i j l m d e;
        order = λ i j l m. test_order (kind_of i) (kind_of j) (pointer i) (pointer j) (every_all _ _ (every_all _ _ h₁.1 i l) j m);
      }

  pub sound_test : Sound (slots layout) p pointer → sound layout p pointer ≡ true
  unfolding sound
  sound_test s =
      hold_both _ _
      (hold_both _ _
      (hold_both _ _ (all_every _ _ (λ k l. inside_test p (pointer k) (s.inside k l))) (all_every _ _ (λ k l. reach_test (kind_of k) (pointer k) (s.reach k l))))
      (all_every _ _ (λ j m. all_every j _ (λ i l. ap not (ne_eqb (pointer i) (pointer j) (s.apart i j (omega arith) m (λ e. omega arith)))))))
      (all_every _ _ (λ i l. all_every _ _ (λ j m. order_test (kind_of i) (kind_of j) (pointer i) (pointer j) (s.order i j l m))))

pub sound_none : (p : Places) (pointer : ℕ → ℕ) → Sound 0 p pointer
sound_none p pointer =
    record {
      inside = λ k l. absurd (omega arith);
      reach = λ k l e. absurd (omega arith);
      apart = λ i j l m d e. omega arith;
      order = λ i j l m e f. absurd (omega arith);
    }

pub sound_same : {n : ℕ} {p : Places} {f : ℕ → ℕ} (g : ℕ → ℕ) → ((k : ℕ) → k < n → g k ≡ f k) → Sound n p f → Sound n p g
sound_same g same sound =
    record {
      inside = λ k l. rw (same k l) (sound.inside k l);
      reach = λ k l high. rw (same k l) (sound.reach k l high);
      apart = λ i j l m d e. sound.apart i j l m d (sym (same i l) ∙ e ∙ same j m);
      order = λ i j l m high low. rw (same i l, same j m) (sound.order i j l m high low);
    }
