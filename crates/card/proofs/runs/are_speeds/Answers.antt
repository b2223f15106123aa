-- `are_speeds` meets its contract.
use mathlib.Core.Path.{refl}
use Rattle.std.proofs.Common.{rules}
use Rattle.std.proofs.lemmas.List.Recursion.{and_is}
use Rattle.card.specs.Cards.{is_speed, all_speeds}
use Rattle.card.proofs.runs.are_speeds.Goals as goal

pub returns : goal.returns
unfolding all_speeds
returns c = and_is all_speeds is_speed refl (λ _ _. refl) c.args.speeds.now 0 _ (search rules) (search rules)
