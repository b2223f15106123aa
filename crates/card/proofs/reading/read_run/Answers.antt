-- `read_run` meets its contract: its two lines, one behind the other, the first with one of the two speeds.
use mathlib.Core.Path.{sym, ◌∙◌}
use mathlib.Core.Bool.{true≢false}
use Rattle.text.specs.Reading.{Small}
use Rattle.text.proofs.Forms.{found_among, nowhere_left, nowhere_first, nowhere_then}
use Rattle.card.specs.Cards.{speed_line, turns_line}
use Rattle.card.specs.Inside.{IsSpeed}
use Rattle.card.proofs.ReadLaws.{speed_small, speed_ends}
use Rattle.card.proofs.reading.read_run.Goals as goal

pub returns-then-not-is_speed : goal.returns-then-not-is_speed
returns-then-not-is_speed c =
    let wrong = sym c.is_speed.ensures ∙ c.if-not-is_speed.true in
    let speed = nowhere_left IsSpeed speed_small c.in_ok-speed.ensures (speed_ends Small) (λ right. true≢false (sym right ∙ wrong)) in
    nowhere_first speed_line IsSpeed (λ _. turns_line) (λ _. Small) speed

pub returns-in_err-turns : goal.returns-in_err-turns
returns-in_err-turns c =
    let speed = found_among IsSpeed c.in_ok-speed.ensures (sym c.is_speed.ensures ∙ c.if-not-is_speed.false) in
    rw c.from_residual-in_err-turns.ensures
    (nowhere_then speed_line IsSpeed (λ _. turns_line) (λ _. Small) speed (speed_ends IsSpeed) c.in_err-turns.ensures)
