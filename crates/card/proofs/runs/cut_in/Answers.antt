-- `cut_in` meets its contract.
use Prim.Native.Nat.{◌*◌}
use mathlib.Core.Path.{◌≡◌, refl, ◌∙◌}
use native.Mathlib.Omega.{arith}
use lib.ListN.{length, get_or, length-append}
use Rattle.std.specs.Prelude.{Some, None}
use Rattle.std.proofs.Common.{rules}
use Rattle.std.proofs.lemmas.Slice.Zip.{zip_turn, zip_end}
use Rattle.card.specs.Answers.{per_turn}
use Rattle.card.proofs.RunLaws.{runs_end, total_next, time_next}
use Rattle.card.proofs.runs.cut_in.Goals as goal

pub loop-speed-preserved : goal.loop-speed-preserved
loop-speed-preserved c =
    let speeds = c.args.speeds.now in
    let turns = c.args.turns.now in
    let done = length c.loop-speed.yielded in
    let inv = c.loop-speed.invariant in
    let (within, _, speed, turned) =
    zip_turn speeds turns c.loop-speed.yielded c.into_iter-speed-iterator.result c.loop-speed.speed-iterator c.next.new.self (Some (c.in-Some.speed, c.in-Some.turned))
    (search rules) (search rules) c.loop-speed.yielded_by (c.in-Some.speed, c.in-Some.turned) refl c.in-Some.ensures.steps in
    let took : c.run_time.result ≡ per_turn (get_or speeds done 0) * get_or turns done 0
    = c.run_time.ensures.0 ∙ (λ i. per_turn (speed 0 i) * turned 0 i) in
    simp length-append
    (record {
      small = (omega (arith, inv.small, turned 0, (c.type_inv.turns done).fits), omega (arith, inv.small, c.run_time.ensures.1));
      turned = omega (arith, inv.turned, turned 0, total_next speeds turns done c.requires.0 within);
      timed = omega (arith, inv.timed, took, time_next speeds turns done c.requires.0 within);
    })

pub returns : goal.returns
returns c =
    let speeds = c.args.speeds.now in
    let turns = c.args.turns.now in
    let end =
    zip_end speeds turns c.loop-speed.yielded c.into_iter-speed-iterator.result c.loop-speed.speed-iterator c.next.new.self None
    (search rules) (search rules) c.loop-speed.yielded_by refl c.in-None.ensures.steps in
    let (none, nothing) = runs_end speeds turns (length c.loop-speed.yielded) c.requires.0 (omega (arith, end, c.requires.0)) in
    (omega (arith, c.loop-speed.invariant.turned, none), omega (arith, c.loop-speed.invariant.timed, nothing))
