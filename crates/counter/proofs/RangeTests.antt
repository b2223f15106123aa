-- Tests over a range of numbers, turned into facts and back.
--   both_hold, hold_both      both tests hold
--   one_holds                 one of the tests holds
--   every_all, all_every      the test holds of each number below n
--   every_not                 a number of which it does not hold
--   none_some                 the test holds of no number below n
--   none_lowest, lowest_none  the test holds of none of the n numbers from k on
--   Lowest, lowest_at         the lowest of which it holds
--   every_none                it holds of none of the first n values of a list
--   never                     a test that cannot hold fails
--   every_more                one number more
--   lowest_here, lowest_on    a search that finds, or goes on to the next number
--   every_same, some_same, lowest_same  of another test with the same values
use Rattle.std.proofs.Common.{◌≡◌, ℕ, zero, suc, ◌+◌, ◌-◌, ◌<◌, ◌≤◌, Bool, true, false, cond, not, ◌&&◌, ◌||◌, ◌⊎◌, List, length, take, slice_index, refl, ap, ◌∙◌, ap₂, inl, inr, true≢false, add-one, arith, Option, Some, None}
use native.Mathlib.Decide.{ℕ_discrete}
use Rattle.std.specs.List.{list_any}
use Rattle.std.proofs.lemmas.List.Folds.{list_any_more}
use Rattle.counter.specs.Slots.{every, some, lowest}

pub both_hold : (a b : Bool) → a && b ≡ true → (a ≡ true) × (b ≡ true)
both_hold true b h = (refl, h)
both_hold false b h = (h, cc)

pub hold_both : (a b : Bool) → a ≡ true → b ≡ true → a && b ≡ true
hold_both a b g h = rw (g, h)

pub one_holds : (a b : Bool) → a || b ≡ true → (a ≡ true) ⊎ (b ≡ true)
one_holds true b h = inl refl
one_holds false b h = inr h

pub every_all : (n : ℕ) (test : ℕ → Bool) → every n test ≡ true → (k : ℕ) → k < n → test k ≡ true
unfolding every
every_all zero test h k l = absurd (omega arith)
every_all (suc n) test h k l = go (every_all n test both.0 k) (ℕ_discrete k n)
  where
    both : (every n test ≡ true) × (test n ≡ true)
    both = both_hold (every n test) (test n) h

    go : (k < n → test k ≡ true) → Dec (k ≡ n) → test k ≡ true
    go below (yes e) = rw e both.1
    go below (no d) = below (omega arith)

pub all_every : (n : ℕ) (test : ℕ → Bool) → ((k : ℕ) → k < n → test k ≡ true) → every n test ≡ true
unfolding every
all_every zero test h = refl
all_every (suc n) test h = hold_both (every n test) (test n) (all_every n test (λ k l. h k (omega arith))) (h n (omega arith))

pub every_not : (n : ℕ) (test : ℕ → Bool) (k : ℕ) → k < n → test k ≡ false → every n test ≡ false
every_not n test k l f = go (every n test) refl
  where
    go : (b : Bool) → every n test ≡ b → every n test ≡ false
    go false e = e
    go true e = let h : test k ≡ true = every_all n test e k l in cc

pub none_some : (n : ℕ) (test : ℕ → Bool) → ((k : ℕ) → k < n → test k ≡ false) → some n test ≡ false
unfolding some
none_some zero test h = refl
none_some (suc n) test h = rw (none_some n test (λ k l. h k (omega arith))) (h n (omega arith))

pub none_lowest : (n k : ℕ) (test : ℕ → Bool) → ((j : ℕ) → k ≤ j → j < k + n → test j ≡ false) → lowest n k test ≡ None
unfolding lowest
none_lowest zero k test h = refl
none_lowest (suc n) k test h = rw (h k (omega arith) (omega arith)) (none_lowest n (k + 1) test (λ j l u. h j (omega arith) (omega arith)))

-- the lowest number of which the test holds: it holds of none before it
pub record Lowest (n k : ℕ) (test : ℕ → Bool) (j : ℕ) : Type 0 where
  pub from : k ≤ j
  pub to : j < k + n
  pub holds : test j ≡ true
  pub first : (i : ℕ) → k ≤ i → i < j → test i ≡ false

pub lowest_at : (n k : ℕ) (test : ℕ → Bool) (j : ℕ) → lowest n k test ≡ Some j → Lowest n k test j
unfolding lowest
lowest_at zero k test j e = absurd (true≢false cc)
lowest_at (suc n) k test j e = go (lowest_at n (k + 1) test j) (test k) refl
  where
    go : (lowest n (k + 1) test ≡ Some j → Lowest n (k + 1) test j) → (t : Bool) → test k ≡ t → Lowest (suc n) k test j
    go later true h = let q : Some k ≡ Some j = (rw h at e) in let r : k ≡ j = cc in record { from = omega arith; to = omega arith; holds = rw r at h; first = λ i l u. absurd (omega arith) }
    go later false h =
        let x = later (rw h at e) in
        record { from = let y = x.from in omega arith; to = let y = x.to in omega arith; holds = x.holds; first = λ i l u. before x h i l u (ℕ_discrete i k) }
      where
        before : Lowest n (k + 1) test j → test k ≡ false → (i : ℕ) → k ≤ i → i < j → Dec (i ≡ k) → test i ≡ false
        before x h i l u (yes q) = rw q h
        before x h i l u (no d) = x.first i (omega arith) u

pub lowest_none : (n k : ℕ) (test : ℕ → Bool) → lowest n k test ≡ None → (j : ℕ) → k ≤ j → j < k + n → test j ≡ false
unfolding lowest
lowest_none zero k test e j l u = absurd (omega arith)
lowest_none (suc n) k test e j l u = go (lowest_none n (k + 1) test) (test k) refl
  where
    go : (lowest n (k + 1) test ≡ None → (j : ℕ) → k + 1 ≤ j → j < k + 1 + n → test j ≡ false) → (t : Bool) → test k ≡ t → test j ≡ false
    go later true h = let q : Some k ≡ None = (rw h at e) in absurd (true≢false cc)
    go later false h = here (later (rw h at e)) (ℕ_discrete j k)
      where
        here : ((j : ℕ) → k + 1 ≤ j → j < k + 1 + n → test j ≡ false) → Dec (j ≡ k) → test j ≡ false
        here rest (yes q) = rw q h
        here rest (no d) = rest j (omega arith) (omega arith)

-- the first n values of a list, none of which the test holds of
pub every_none : (test : ℕ → Bool) (xs : List ℕ) (n : ℕ) → n ≤ length xs → every n (λ i. not (test (slice_index xs i))) ≡ not (list_any test (take n xs))
unfolding every
every_none test xs zero l = refl
every_none test xs (suc n) l =
    rw (every_none test xs n (omega arith), ← add-one n, list_any_more test xs n 0 (omega arith))
    (both_not (list_any test (take n xs)) (test (slice_index xs n)))
  where
    both_not : (a b : Bool) → not a && not b ≡ not (a || b)
    both_not true b = refl
    both_not false b = refl

pub never : (b : Bool) → (b ≡ true → ⊥) → b ≡ false
never true h = absurd (h refl)
never false h = refl

pub every_more : (n : ℕ) (test : ℕ → Bool) → every n test ≡ true → test n ≡ true → every (n + 1) test ≡ true
unfolding every
every_more n test below here = rw (add-one n) (hold_both (every n test) (test n) below here)

module _ (m n : ℕ) (test : ℕ → Bool) (l : n < m) where
  left : m - n ≡ suc (m - (n + 1))
  left = omega arith

  pub lowest_here : test n ≡ true → lowest (m - n) n test ≡ Some n
  unfolding lowest
  lowest_here h = rw (left, h)

  pub lowest_on : test n ≡ false → lowest (m - n) n test ≡ lowest (m - (n + 1)) (n + 1) test
  unfolding lowest
  lowest_on h = ap (λ (r : ℕ). lowest r n test) left ∙ rw h

pub every_same : (n : ℕ) (f g : ℕ → Bool) → ((k : ℕ) → k < n → f k ≡ g k) → every n f ≡ every n g
unfolding every
every_same zero f g h = refl
every_same (suc n) f g h = ap₂ ◌&&◌ (every_same n f g (λ k l. h k (omega arith))) (h n (omega arith))

pub some_same : (n : ℕ) (f g : ℕ → Bool) → ((k : ℕ) → k < n → f k ≡ g k) → some n f ≡ some n g
unfolding some
some_same zero f g h = refl
some_same (suc n) f g h = ap₂ ◌||◌ (some_same n f g (λ k l. h k (omega arith))) (h n (omega arith))

pub lowest_same : (n k : ℕ) (f g : ℕ → Bool) → ((j : ℕ) → k ≤ j → j < k + n → f j ≡ g j) → lowest n k f ≡ lowest n k g
unfolding lowest
lowest_same zero k f g h = refl
lowest_same (suc n) k f g h =
    ap₂ (λ (b : Bool) (r : Option ℕ). cond b (Some k) r) (h k (omega arith) (omega arith))
    (lowest_same n (k + 1) f g (λ j l u. h j (omega arith) (omega arith)))
