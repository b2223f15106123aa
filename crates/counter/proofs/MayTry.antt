-- The test whether a spare may be tried, as facts.
--   Tried                     what a test that holds says
--   tried_facts, facts_tried  the test turned into it and back
use Rattle.std.proofs.Common.{◌≡◌, ℕ, ◌<◌, ◌≤◌, true, ltb, leb, refl, true≢false, ltb-true, lt-ltb, le-leb, leb-true}
use Rattle.counter.specs.declared.map.Kind.{Kind}
use Rattle.counter.specs.declared.map.Kind.TheVariants.{High, Low}
use Rattle.counter.specs.declared.places.Places.{Places}
use Rattle.counter.specs.declared.spares.Gap.{Gap}
use Rattle.counter.specs.Spares.{may_try}
use Rattle.counter.proofs.RangeTests.{both_hold}

pub record Tried (p : Places) (kind : Kind) (g : Gap) (a : ℕ) : Type 0 where
  pub from : p.start ≤ a
  pub to : a ≤ p.end
  pub reach : kind ≡ High → a ≤ 255
  pub below : kind ≡ High → a < g.low
  pub above : kind ≡ Low → g.high ≤ a

pub tried_facts : (p : Places) (kind : Kind) (g : Gap) (a : ℕ) → may_try p kind g a ≡ true → Tried p kind g a
unfolding may_try
tried_facts p High g a h =
    let border = both_hold _ (ltb a g.low) h in
    let reach = both_hold _ (leb a 255) border.0 in
    let inside = both_hold (leb p.start a) _ reach.0 in
    record {
      from = leb-true _ _ inside.0;
      to = leb-true _ _ inside.1;
      reach = λ e. leb-true _ _ reach.1;
      below = λ e. ltb-true _ _ border.1;
      above = λ e. absurd (true≢false cc);
    }
tried_facts p Low g a h =
    let area = both_hold _ _ h in
    let inside = both_hold (leb p.start a) _ area.0 in
    record {
      from = leb-true _ _ inside.0;
      to = leb-true _ _ inside.1;
      reach = λ e. absurd (true≢false cc);
      below = λ e. absurd (true≢false cc);
      above = λ e. leb-true _ _ area.1;
    }

pub facts_tried : (p : Places) (kind : Kind) (g : Gap) (a : ℕ) → Tried p kind g a → may_try p kind g a ≡ true
unfolding may_try
facts_tried p High g a t = rw (le-leb _ _ t.from, le-leb _ _ t.to, le-leb _ _ (t.reach refl), lt-ltb _ _ (t.below refl))
facts_tried p Low g a t = rw (le-leb _ _ t.from, le-leb _ _ t.to, le-leb _ _ (t.above refl))
