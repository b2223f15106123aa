-- `write_runs` meets its contract.
use Prim.Native.Nat.{◌+◌, ◌≤◌}
use mathlib.Core.Path.{◌≡◌, refl, sym, ap, ◌∙◌}
use mathlib.Core.List.{flatten}
use native.Mathlib.Omega.{arith}
use lib.ListN.{length, drop, get_or, length-append}
use lib.Seq.{take_all}
use Rattle.std.specs.Prelude.{Some, None}
use Rattle.std.proofs.Common.{rules}
use Rattle.std.proofs.lemmas.Slice.Zip.{zip_turn, zip_end}
use Rattle.text.proofs.Writing.{wrote_no_line, wrote_line}
use Rattle.card.specs.Cards.{run_text, run_texts}
use Rattle.card.proofs.RunLaws.{length_texts, text_at}
use Rattle.card.proofs.WriteLaws.{lines_next}
use Rattle.card.proofs.writing.write_runs.Goals as goal

pub loop-speed-init : goal.loop-speed-init
loop-speed-init c = record { room = c.requires.1; wrote = wrote_no_line _ _ (omega arith) }

pub write_run-next-requires : goal.write_run-next-requires
write_run-next-requires c =
    let speeds = c.args.speeds.now in
    let turns = c.args.turns.now in
    let done = length c.loop-speed.yielded in
    let (within, _, speed, turned) =
    zip_turn speeds turns c.loop-speed.yielded c.into_iter-speed-iterator.result c.loop-speed.speed-iterator c.next.new.self (Some (c.in-Some.speed, c.in-Some.turned))
    (search rules) (search rules) c.loop-speed.yielded_by (c.in-Some.speed, c.in-Some.turned) refl c.in-Some.ensures.steps in
    let line : run_text c.in-Some.speed.now c.in-Some.turned.now ≡ run_text (get_or speeds done 0) (get_or turns done 0)
    = λ i. run_text (speed 0 i) (turned 0 i) in
    omega (arith, c.loop-speed.invariant.room, c.loop-speed.auto.text, lines_next speeds turns done c.requires.0 within, ap length line)

pub loop-speed-preserved : goal.loop-speed-preserved
loop-speed-preserved c =
    let speeds = c.args.speeds.now in
    let turns = c.args.turns.now in
    let done = length c.loop-speed.yielded in
    let (within, _, speed, turned) =
    zip_turn speeds turns c.loop-speed.yielded c.into_iter-speed-iterator.result c.loop-speed.speed-iterator c.next.new.self (Some (c.in-Some.speed, c.in-Some.turned))
    (search rules) (search rules) c.loop-speed.yielded_by (c.in-Some.speed, c.in-Some.turned) refl c.in-Some.ensures.steps in
    let line : run_text c.in-Some.speed.now c.in-Some.turned.now ≡ run_text (get_or speeds done 0) (get_or turns done 0)
    = λ i. run_text (speed 0 i) (turned 0 i) in
    let room : c.write_run-next.result + length (flatten (drop (done + 1) (run_texts speeds turns))) ≤ length c.args.text.now
    = omega (arith, c.write_run-next.ensures.ends, c.loop-speed.invariant.room, lines_next speeds turns done c.requires.0 within, ap length line) in
    simp length-append
    (record {
      room = room;
      wrote = wrote_line (run_texts speeds turns) done (omega (arith, length_texts speeds turns c.requires.0, within)) (omega (arith, room))
          c.loop-speed.invariant.wrote (rw (line ∙ sym (text_at speeds turns done c.requires.0 within)) at c.write_run-next.ensures);
    })

pub returns : goal.returns
returns c =
    let speeds = c.args.speeds.now in
    let turns = c.args.turns.now in
    let end =
    zip_end speeds turns c.loop-speed.yielded c.into_iter-speed-iterator.result c.loop-speed.speed-iterator c.next.new.self None
    (search rules) (search rules) c.loop-speed.yielded_by refl c.in-None.ensures.steps in
    rw (take_all (length c.loop-speed.yielded) (run_texts speeds turns) (omega (arith, length_texts speeds turns c.requires.0, end, c.requires.0))) at c.loop-speed.invariant.wrote
