-- The lines of a card as forms: each ends by itself.
use Prim.Native.Nat.{ℕ}
use lib.Dec.{lit<}
use Rattle.text.specs.Text.{bytes_of}
use Rattle.text.specs.Reading.{Small}
use Rattle.text.proofs.Forms.{Ends, ends_then, line_ends}
use Rattle.card.specs.Cards.{fitted_line, allowed_line, runs_line, speed_line, turns_line}
use Rattle.card.proofs.WriteLaws.{two_speeds}
use Rattle.card.specs.Inside.{pair_form, SmallPair, head_form, SmallHead, run_form, IsSpeed, IsRun}

pub fitted_ends : Ends fitted_line Small
fitted_ends = line_ends (bytes_of "fitted") Small

pub speed_small : (speed : ℕ) → IsSpeed speed → Small speed
speed_small speed is = two_speeds Small speed is (lit< tt) (lit< tt)

-- the line of a speed ends by itself, among those of all numbers too
pub speed_ends : (allowed : ℕ → Type 0) → Ends speed_line allowed
speed_ends = line_ends (bytes_of "speed")

pub pair_ends : Ends pair_form SmallPair
pair_ends = ends_then fitted_line Small (λ _. allowed_line) (λ _. Small) fitted_ends (λ _. line_ends (bytes_of "allowed") Small)

pub head_ends : Ends head_form SmallHead
head_ends = ends_then pair_form SmallPair (λ _. runs_line) (λ _. Small) pair_ends (λ _. line_ends (bytes_of "runs") Small)

pub run_ends : Ends run_form IsRun
run_ends = ends_then speed_line IsSpeed (λ _. turns_line) (λ _. Small) (speed_ends IsSpeed) (λ _. line_ends (bytes_of "turns") Small)
