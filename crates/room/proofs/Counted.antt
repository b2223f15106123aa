-- How many cells are spare.
--   count_range               the numbers of a range, counted one by one
--   spare_test, test_spare    the test of a spare cell says what a spare is
--   high_counted, low_counted the spare cells of each kind are those of the gap that the pointers leave
use Prim.Native.Nat.{ℕ, zero, suc, ◌+◌, ◌-◌, min, ◌≤◌, ◌<◌}
use mathlib.Core.Path.{◌≡◌, refl}
use mathlib.Core.Bool.{Bool, true, cond, true≢false}
use native.Mathlib.Decide.{dec_le, dec_lt}
use native.Mathlib.Omega.{arith}
use borrow.Author.Tests.{leb-true, ltb-true, le-leb, lt-ltb}
use Rattle.counter.specs.declared.layout.Layout.{Layout}
use Rattle.counter.specs.declared.map.Kind.{Kind}
use Rattle.counter.specs.declared.map.Kind.TheVariants.{High, Low}
use Rattle.counter.specs.declared.places.Places.{Places}
use Rattle.counter.specs.declared.spares.Gap.{Gap}
use Rattle.counter.specs.Layout.{slots}
use Rattle.counter.specs.Slots.{kind_of}
use Rattle.room.specs.Room.{past, is_spare, count}
use Rattle.counter.proofs.RangeTests.{both_hold, hold_both, every_all, all_every, never}
use Rattle.counter.proofs.SoundPointers.{test_reach, reach_test}
use Rattle.counter.proofs.Gaps.{Between, Spare, free_spare, spare_free}

-- ## A range

abbrev In : ℕ → ℕ → ℕ → Type 0
In from to a = (from ≤ a) × (a < to)

pub count_range :
    (n from to : ℕ) (test : ℕ → Bool) → ((a : ℕ) → In from to a → test a ≡ true) → ((a : ℕ) → test a ≡ true → In from to a)
    → count n test ≡ min n to - from
unfolding count
count_range zero from to test holds only = omega arith
count_range (suc n) from to test holds only = go (dec_le from n) (dec_lt n to) (count_range n from to test holds only)
  where
    go : Dec (from ≤ n) → Dec (n < to) → count n test ≡ min n to - from → count n test + cond (test n) 1 0 ≡ min (suc n) to - from
    go (yes f) (yes t) before = rw (holds n (f, t)) (omega arith)
    go (yes f) (no t) before = rw (never _ (λ e. t (only n e).1)) (omega arith)
    go (no f) t before = rw (never _ (λ e. f (only n e).0)) (omega arith)

-- ## A spare cell

past_high : (kind : Kind) (pointer a : ℕ) → past kind pointer a ≡ true → kind ≡ High → pointer < a
unfolding past
past_high High pointer a t e = ltb-true _ _ t
past_high Low pointer a t e = absurd (true≢false cc)

past_low : (kind : Kind) (pointer a : ℕ) → past kind pointer a ≡ true → kind ≡ Low → a < pointer
unfolding past
past_low High pointer a t e = absurd (true≢false cc)
past_low Low pointer a t e = ltb-true _ _ t

is_past : (kind : Kind) (pointer a : ℕ) → (kind ≡ High → pointer < a) → (kind ≡ Low → a < pointer) → past kind pointer a ≡ true
unfolding past
is_past High pointer a above below = lt-ltb _ _ (above refl)
is_past Low pointer a above below = lt-ltb _ _ (below refl)

module _ (layout : Layout) (p : Places) (pointer : ℕ → ℕ) where
  spare_test : (kind : Kind) (a : ℕ) → is_spare layout p pointer kind a ≡ true → Spare kind (slots layout) p pointer a
  unfolding is_spare
  spare_test kind a t =
      let both = both_hold _ _ t in
      let place = both_hold _ _ both.0 in
      let area = both_hold _ _ place.0 in
      let each = every_all (slots layout) (λ k. past (kind_of k) (pointer k) a) both.1 in
      record {
        inside = record { from = leb-true _ _ area.0; to = leb-true _ _ area.1 };
        reach = test_reach kind a place.1;
        above = λ k l e. past_high (kind_of k) _ _ (each k l) e;
        below = λ k l e. past_low (kind_of k) _ _ (each k l) e;
      }

  test_spare : (kind : Kind) (a : ℕ) → Spare kind (slots layout) p pointer a → is_spare layout p pointer kind a ≡ true
  unfolding is_spare
  test_spare kind a spare =
      let i = spare.inside in
      hold_both _ _
      (hold_both _ _ (hold_both _ _ (le-leb _ _ i.from) (le-leb _ _ i.to)) (reach_test kind a spare.reach))
      (all_every (slots layout) (λ k. past (kind_of k) (pointer k) a) (λ k l. is_past (kind_of k) _ _ (spare.above k l) (spare.below k l)))

  module _ {g : Gap} (between : Between (slots layout) p pointer g) (n : ℕ) where
    pub high_counted : count n (is_spare layout p pointer High) ≡ min n (min 256 g.low) - g.high
    high_counted =
        count_range n g.high (min 256 g.low) _
        (λ a i. let from = i.0 in let to = i.1 in test_spare High a (free_spare between (record { from = from; to = omega arith; reach = λ e. omega arith })))
        (λ a t. let free = spare_free between (spare_test High a t) in let to = free.to in let reach = free.reach refl in (free.from, omega arith))

    pub low_counted : count n (is_spare layout p pointer Low) ≡ min n g.low - g.high
    low_counted =
        count_range n g.high g.low _
        (λ a i. test_spare Low a (free_spare between (record { from = i.0; to = i.1; reach = λ e. absurd (true≢false cc) })))
        (λ a t. let free = spare_free between (spare_test Low a t) in (free.from, free.to))
