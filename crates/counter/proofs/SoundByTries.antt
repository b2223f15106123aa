-- Sound pointers are those that could be tried one after another, and differ.
--   tries_sound               such pointers are sound
--   ordered_tries             pointers in the area and in order could be tried one after another
--   sound_tries, sound_apart  sound ones are such
--   border_tries              pointers on the right sides of a border could be tried one after another
--   spread_sound              pointers in order are sound where those of each kind differ
--   sound_differ              of pointers that could be tried, soundness is that they differ
use Rattle.std.proofs.Common.{◌≡◌, ℕ, suc, ◌+◌, ◌-◌, ◌%◌, ◌<◌, ◌≤◌, Bool, true, false, not, eqb, sym, refl, ap, ◌∙◌, true≢false, arith, ne_eqb}
use native.Mathlib.Decide.{dec_lt}
use borrow.Author.Tests.{eqb-false, not-true}
use Rattle.counter.specs.declared.map.Kind.{Kind}
use Rattle.counter.specs.declared.map.Kind.TheVariants.{High, Low}
use Rattle.counter.specs.declared.places.Places.{Places}
use Rattle.counter.specs.Layout.{Layout, two, slots}
use Rattle.counter.specs.Slots.{kind_of, every}
use Rattle.counter.specs.Map.{sound}
use Rattle.counter.specs.Spares.{gap_to, may_try}
use Rattle.counter.specs.Inside.{Among, Differ}
use Rattle.counter.proofs.RangeTests.{every_all, all_every, never}
use Rattle.counter.proofs.Offsets.{kind_low, kind_high}
use Rattle.counter.proofs.SoundPointers.{Inside, Sound, test_sound, sound_test, below_apart}
use Rattle.counter.proofs.Gaps.{between_gap}
use Rattle.counter.proofs.MayTry.{Tried, tried_facts, facts_tried}

unlike : ◌≡◌ {A = Kind} High Low → ⊥
unlike e = true≢false cc

module _ (layout : Layout) (p : Places) (pointer : ℕ → ℕ) where
  -- each pointer could be tried after those before it
  abbrev pub follows : ℕ → Bool
  follows k = may_try p (kind_of k) (gap_to k p pointer) (pointer k)

  -- a pointer is none of those before it
  abbrev pub new : ℕ → Bool
  new j = every j (λ i. not (eqb (pointer i) (pointer j)))

  module _ (tries : every (slots layout) follows ≡ true) where
    at : (k : ℕ) → k < slots layout → Tried p (kind_of k) (gap_to k p pointer) (pointer k)
    at k l = tried_facts p (kind_of k) (gap_to k p pointer) (pointer k) (every_all _ follows tries k l)

    ordered : (i j : ℕ) → i < slots layout → j < slots layout → kind_of i ≡ High → kind_of j ≡ Low → Dec (i < j) → pointer i < pointer j
    ordered i j l m high low (yes h) =
        let above = (at j m).above low in
        let passed = (between_gap j p pointer).above i h high in
        omega arith
    ordered i j l m high low (no h) =
        let below = (at i l).below high in
        let passed = (between_gap i p pointer).below j (earlier (dec_lt j i)) low in
        omega arith
      where
        earlier : Dec (j < i) → j < i
        earlier (yes g) = g
        earlier (no g) = let same : i ≡ j = omega arith in absurd (unlike (sym high ∙ ap kind_of same ∙ low))

    pub tries_sound : every (slots layout) new ≡ true → sound layout p pointer ≡ true
    tries_sound differ =
        sound_test layout p pointer
        (record {
          inside = λ k l. record { from = (at k l).from; to = (at k l).to };
          reach = λ k l. (at k l).reach;
          apart = below_apart {pointer = pointer} (λ i j l m. eqb-false _ _ (not-true _ (every_all _ _ (every_all _ new differ j m) i l)));
          order = λ i j l m high low. ordered i j l m high low (dec_lt i j);
        })

  pub ordered_tries :
      ((k : ℕ) → k < slots layout → Inside p (pointer k)) → ((k : ℕ) → k < slots layout → kind_of k ≡ High → pointer k ≤ 255)
      → ((i j : ℕ) → i < slots layout → j < slots layout → kind_of i ≡ High → kind_of j ≡ Low → pointer i < pointer j)
      → every (slots layout) follows ≡ true
  ordered_tries inside reach order = all_every _ follows (λ k l. facts_tried p (kind_of k) (gap_to k p pointer) (pointer k) (tried k l))
    where
      tried : (k : ℕ) → k < slots layout → Tried p (kind_of k) (gap_to k p pointer) (pointer k)
      tried k l =
          record {
            from = (inside k l).from;
            to = (inside k l).to;
            reach = reach k l;
            below = λ high. (between_gap k p pointer).greatest (suc (pointer k)) (let h = (inside k l).to in omega arith)
                (λ j m low. order k j l (omega arith) high low);
            above = λ low. (between_gap k p pointer).least (pointer k) (inside k l).from
                (λ j m high. order j k (omega arith) l high low);
          }

  module _ (test : sound layout p pointer ≡ true) where
    facts : Sound (slots layout) p pointer
    facts = test_sound layout p pointer test

    pub sound_tries : every (slots layout) follows ≡ true
    sound_tries = ordered_tries facts.inside facts.reach facts.order

    pub sound_apart : every (slots layout) new ≡ true
    sound_apart =
        all_every _ new
        (λ j m. all_every j _ (λ i l. ap not (ne_eqb _ _ (facts.apart i j (omega arith) m (λ e. omega arith)))))

  pub sound_differ : every (slots layout) follows ≡ true → every (slots layout) new ≡ sound layout p pointer
  sound_differ tries = go (every (slots layout) new) refl
    where
      go : (b : Bool) → every (slots layout) new ≡ b → every (slots layout) new ≡ sound layout p pointer
      go true e = e ∙ sym (tries_sound tries e)
      go false e = e ∙ sym (never (sound layout p pointer) (λ s. true≢false (cc (e, sound_apart s))))

-- the kind of a slot, by its number
is_high : (k : ℕ) → kind_of k ≡ High → 3 ≤ k % 8
is_high k e = go (dec_lt (k % 8) 3)
  where
    go : Dec (k % 8 < 3) → 3 ≤ k % 8
    go (yes h) = absurd (unlike (sym e ∙ kind_low k h))
    go (no h) = omega arith

is_low : (k : ℕ) → kind_of k ≡ Low → k % 8 < 3
is_low k e = go (dec_lt (k % 8) 3)
  where
    go : Dec (k % 8 < 3) → k % 8 < 3
    go (yes h) = h
    go (no h) = absurd (unlike (sym (kind_high k (omega arith)) ∙ e))

-- in two copies, Low pointers from x up to the area's end, and High ones from its start up to x, at most 255
module _ (p : Places) (pointer : ℕ → ℕ) (x : ℕ)
    (lows : 0 < x → (n : ℕ) → n < 3 → (x ≤ pointer n) × (pointer n ≤ p.end) × (x ≤ pointer (8 + n)) × (pointer (8 + n) ≤ p.end))
    (highs : (n : ℕ) → 3 ≤ n → n < 8 → (p.start ≤ pointer n) × (pointer n < x) × (pointer n < 256) × (p.start ≤ pointer (8 + n)) × (pointer (8 + n) < x) × (pointer (8 + n) < 256)) where
  positive : 0 < x
  positive = let h = (highs 3 (omega arith) (omega arith)).1 in omega arith

  low_at : (k : ℕ) → k < 16 → k % 8 < 3 → (x ≤ pointer k) × (pointer k ≤ p.end)
  low_at k l low = go (dec_lt k 8)
    where
      go : Dec (k < 8) → (x ≤ pointer k) × (pointer k ≤ p.end)
      go (yes h) = let f = lows positive k (omega arith) in (f.0, f.1)
      go (no h) =
          let e : 8 + (k - 8) ≡ k = omega arith in
          let f = lows positive (k - 8) (omega arith) in
          (rw e at f.2, rw e at f.3)

  high_at : (k : ℕ) → k < 16 → 3 ≤ k % 8 → (p.start ≤ pointer k) × (pointer k < x) × (pointer k < 256)
  high_at k l high = go (dec_lt k 8)
    where
      go : Dec (k < 8) → (p.start ≤ pointer k) × (pointer k < x) × (pointer k < 256)
      go (yes h) = let f = highs k (omega arith) h in (f.0, f.1, f.2)
      go (no h) =
          let e : 8 + (k - 8) ≡ k = omega arith in
          let f = highs (k - 8) (omega arith) (omega arith) in
          (rw e at f.3, rw e at f.4, rw e at f.5)

  inside_at : (k : ℕ) → k < 16 → Inside p (pointer k)
  inside_at k l = go (dec_lt (k % 8) 3)
    where
      go : Dec (k % 8 < 3) → Inside p (pointer k)
      go (yes low) =
          let f = low_at k l low in
          let first = highs 3 (omega arith) (omega arith) in
          record { from = omega (arith, f.0, first.0, first.1); to = f.1 }
      go (no high) =
          let f = high_at k l (omega arith) in
          let first = lows positive 0 (omega arith) in
          record { from = f.0; to = omega (arith, f.1, first.0, first.1) }

  pub border_tries : every 16 (follows two p pointer) ≡ true
  border_tries =
      ordered_tries two p pointer inside_at
      (λ k l high. let f = (high_at k l (is_high k high)).2 in omega arith)
      (λ i j l m high low. let f = (high_at i l (is_high i high)).1 in let g = (low_at j m (is_low j low)).0 in omega arith)

-- pointers in order differ where those of each kind do
pub spread_sound :
    (p : Places) (pointer : ℕ → ℕ) → every 16 (follows two p pointer) ≡ true → Differ (Among 0 3) pointer → Differ (Among 3 8) pointer
    → sound two p pointer ≡ true
spread_sound p pointer tries lows highs =
    tries_sound two p pointer tries
    (all_every 16 _ (λ j m. all_every j _ (λ i l. ap not (ne_eqb _ _ (differ i j l m (dec_lt (i % 8) 3) (dec_lt (j % 8) 3))))))
  where
    order : (i j : ℕ) → i < 16 → j < 16 → 3 ≤ i % 8 → j % 8 < 3 → pointer i < pointer j
    order i j l m high low = ordered two p pointer tries i j l m (kind_high i high) (kind_low j low) (dec_lt i j)

    differ : (i j : ℕ) → i < j → j < 16 → Dec (i % 8 < 3) → Dec (j % 8 < 3) → pointer i ≡ pointer j → ⊥
    differ i j l m (yes g) (yes h) e = lows i j (omega arith, omega arith, g) (m, omega arith, h) (λ q. omega arith) e
    differ i j l m (no g) (no h) e = highs i j (omega arith, omega arith, omega arith) (m, omega arith, omega arith) (λ q. omega arith) e
    differ i j l m (no g) (yes h) e = let o = order i j (omega arith) m (omega arith) h in omega arith
    differ i j l m (yes g) (no h) e = let o = order j i m (omega arith) (omega arith) g in omega arith
