-- `places::places_good` meets its contract: each test that fails takes a clause of the settings away.
use Rattle.std.proofs.Common.{sym, inl, inr, ⊎_elim, arith, leb-true}
use Rattle.std.proofs.lemmas.Bool.{leb-false}
use Rattle.counter.specs.Layout.{two}
use Rattle.counter.proofs.Settings.{Placed, not_placed, placed_test}
use Rattle.counter.proofs.places.places_good.Goals as goal
use Rattle.counter.proofs.places.places_good.Goals.{then-p-lt1-via-then-p-lt1, then-p-lt1-via-else-p-lt1+then-p-gt246, then-p-lt1-via-else-p-lt1+else-p-gt246+then-n-p, then-p-lt1-via-else-p-lt1+else-p-gt246+else-n-p+then-p, then-p-lt1-via-else-p-lt1+else-p-gt246+else-n-p+else-p+then-p-lt1-2, then-p-3-via-then-p-3, then-p-3-via-else-p-3+then-n-lt-SIZE}

pub returns-then-p-lt1 : goal.returns-then-p-lt1
returns-then-p-lt1 c =
    sym
    (not_placed two _ _
    (λ g.
    elim c.then-p-lt1.branch [
      | then-p-lt1-via-then-p-lt1 w ↦ omega arith
      | then-p-lt1-via-else-p-lt1+then-p-gt246 w ↦ omega arith
      | then-p-lt1-via-else-p-lt1+else-p-gt246+then-n-p w ↦ omega arith
      | then-p-lt1-via-else-p-lt1+else-p-gt246+else-n-p+then-p w ↦ omega arith
      | then-p-lt1-via-else-p-lt1+else-p-gt246+else-n-p+else-p+then-p-lt1-2 w ↦ omega arith
    ]))

pub returns-then-p-2 : goal.returns-then-p-2
returns-then-p-2 c =
    placed_test two _ _ _
    (λ e.
    let below = leb-true _ _ e in
    record {
      map_low = omega arith;
      start_low = omega arith;
      map_fits = omega arith;
      end_fits = omega arith;
      start_reaches = omega arith;
      large = omega arith;
      apart = inl (omega arith);
    })
    (λ e g. let near = leb-false _ _ e in ⊎_elim (λ x. omega arith) (λ x. omega arith) g.apart)

pub returns-then-p-3 : goal.returns-then-p-3
returns-then-p-3 c =
    sym
    (not_placed two c.args.n c.args.p
    (λ (g : Placed two c.args.n c.args.p).
    elim c.then-p-3.branch [
      | then-p-3-via-then-p-3 w ↦ ⊎_elim (λ x. omega arith) (λ x. omega arith) g.apart
      | then-p-3-via-else-p-3+then-n-lt-SIZE w ↦ omega arith
    ]))

pub returns : goal.returns
returns c =
    placed_test two _ _ _
    (λ e.
    let inside = leb-true _ _ e in
    record {
      map_low = omega arith;
      start_low = omega arith;
      map_fits = omega arith;
      end_fits = omega arith;
      start_reaches = omega arith;
      large = omega arith;
      apart = inr (omega arith);
    })
    (λ e g. let outside = leb-false _ _ e in omega arith)
