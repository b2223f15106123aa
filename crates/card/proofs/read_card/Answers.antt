-- `read_card` meets its contract: all of the text is read, and then the limits are tested.
use mathlib.Core.Path.{refl}
use Rattle.card.proofs.DoorLaws.{told_refused, told_read}
use Rattle.std.proofs.lemmas.Result.{err_from_is_err_and}
use Rattle.card.proofs.Refused.{some_number}
use Rattle.card.specs.Doors.{in_places}
use Rattle.card.proofs.read_card.Goals as goal

pub read_whole-requires : goal.read_whole-requires
unfolding in_places
read_whole-requires c = refl

pub returns-in_err-within_limits : goal.returns-in_err-within_limits
returns-in_err-within_limits c =
    let p = err_from_is_err_and c.from_residual.result c.from_residual.ensures.1 in
    rw (p.1, p.2) (told_refused c.in-Some.ensures c.in_err-within_limits.ensures (some_number _))

pub returns : goal.returns
returns c = told_read c.in-Some.ensures c.in_ok-within_limits.ensures refl
