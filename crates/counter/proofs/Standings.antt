-- What follows from how an image stands.
--   stands_marked             the facts behind a mark that is there
--   stands_unmarked           and behind one that is not
--   stands_unfit              and behind a refusal
--   guard_unfit, guard_unmarked, guard_marked  the first tests of every door
use Rattle.counter.specs.Verdict.{Verdict}
use Rattle.std.proofs.Common.{◌≡◌, ℕ, Bool, true, false, cond, ◌&&◌, List, length, refl, true≢false, Err}
use Rattle.counter.specs.declared.places.Places.{Places}
use Rattle.counter.specs.declared.standing.Standing.{Standing}
use Rattle.counter.specs.declared.standing.Standing.TheVariants.{Unfit, Unmarked, Marked}
use Rattle.counter.specs.declared.verdict.Refusal.{Refusal}
use Rattle.counter.specs.declared.verdict.Refusal.TheVariants.{BadLength, BadPlaces, NoMark}
use Rattle.counter.specs.Layout.{Layout}
use Rattle.counter.specs.Places.{length_good, places_good}
use Rattle.counter.specs.Map.{map_in, marked}
use Rattle.counter.specs.Reading.{unless, guarded}
use Rattle.counter.specs.Inside.{standing_of}

-- the three tests, as a standing and as a verdict
abbrev standing : Bool → Bool → Bool → Standing
standing long placed mark = cond long (cond placed (cond mark Marked Unmarked) (Unfit BadPlaces)) (Unfit BadLength)

abbrev guard : Bool → Bool → Bool → Verdict → Verdict
guard long placed mark rest = unless long BadLength (unless placed BadPlaces (unless mark NoMark rest))

all_marked : (a b c : Bool) → standing a b c ≡ Marked → (a ≡ true) × (b ≡ true) × (c ≡ true)
all_marked true true true e = (refl, refl, refl)
all_marked true true false e = absurd (true≢false cc)
all_marked true false c e = absurd (true≢false cc)
all_marked false b c e = absurd (true≢false cc)

all_unmarked : (a b c : Bool) → standing a b c ≡ Unmarked → (a ≡ true) × (b ≡ true) × (c ≡ false)
all_unmarked true true true e = absurd (true≢false cc)
all_unmarked true true false e = (refl, refl, refl)
all_unmarked true false c e = absurd (true≢false cc)
all_unmarked false b c e = absurd (true≢false cc)

all_unfit : (a b c : Bool) (why : Refusal) (rest : Verdict) → standing a b c ≡ Unfit why → guard a b c rest ≡ Err why
all_unfit true true true why rest e = absurd (true≢false cc)
all_unfit true true false why rest e = absurd (true≢false cc)
all_unfit true false c why rest e = cc
all_unfit false b c why rest e = cc

not_both : (a b c : Bool) (why : Refusal) → standing a b c ≡ Unfit why → a && b ≡ false
not_both true true true why e = absurd (true≢false cc)
not_both true true false why e = absurd (true≢false cc)
not_both true false c why e = refl
not_both false b c why e = refl

module _ (layout : Layout) (p : Places) (cells : List ℕ) where
  pub stands_unfit : {why : Refusal} → standing_of layout p cells ≡ Unfit why → length_good layout (length cells) && places_good layout (length cells) p ≡ false
  unfolding standing_of
  stands_unfit {why} e = not_both (length_good layout (length cells)) (places_good layout (length cells) p) (marked (map_in layout p cells)) why e

  pub stands_marked : standing_of layout p cells ≡ Marked
      → (length_good layout (length cells) ≡ true) × (places_good layout (length cells) p ≡ true) × (marked (map_in layout p cells) ≡ true)
  unfolding standing_of
  stands_marked = all_marked _ _ _

  pub stands_unmarked : standing_of layout p cells ≡ Unmarked
      → (length_good layout (length cells) ≡ true) × (places_good layout (length cells) p ≡ true) × (marked (map_in layout p cells) ≡ false)
  unfolding standing_of
  stands_unmarked = all_unmarked _ _ _

  pub guard_unfit : {why : Refusal} (rest : Verdict) → standing_of layout p cells ≡ Unfit why → guarded layout p cells rest ≡ Err why
  unfolding standing_of
  guard_unfit {why} rest e = all_unfit (length_good layout (length cells)) (places_good layout (length cells) p) (marked (map_in layout p cells)) why rest e

  pub guard_unmarked : (rest : Verdict) → standing_of layout p cells ≡ Unmarked → guarded layout p cells rest ≡ Err NoMark
  guard_unmarked rest e = let facts = stands_unmarked e in rw (facts.0, facts.1, facts.2)

  pub guard_marked : (rest : Verdict) → standing_of layout p cells ≡ Marked → guarded layout p cells rest ≡ rest
  guard_marked rest e = let facts = stands_marked e in rw (facts.0, facts.1, facts.2)
