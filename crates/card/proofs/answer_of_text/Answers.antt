-- `answer_of_text` meets its contract: all of the text is read, and the card that it shows answers.
use mathlib.Core.Path.{◌∙◌, refl}
use Rattle.card.specs.Answers.{answer_of}
use Rattle.card.proofs.DoorLaws.{told_answer}
use Rattle.card.specs.Doors.{in_places}
use Rattle.card.proofs.answer_of_text.Goals as goal

pub read_whole-requires : goal.read_whole-requires
unfolding in_places
read_whole-requires c = refl

pub returns-in-Some : goal.returns-in-Some
returns-in-Some c =
    told_answer _ c.in-Some.ensures (c.answer.ensures ∙ (λ i. answer_of (c.held.ensures.runs i) (c.held.ensures.rows i) c.args.count))
