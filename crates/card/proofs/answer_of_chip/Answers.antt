-- `answer_of_chip` meets its contract: the answer at the count that was read, or the code of the read and the card's own.
use mathlib.Core.Path.{◌≡◌, ap, ◌∙◌}
use Rattle.card.specs.Answers.{refused, fault_of}
use Rattle.card.specs.Doors.{card_in}
use Rattle.card.specs.Inside.{rows_of}
use Rattle.card.proofs.DoorLaws.{chip_refused_lem, chip_counted}
use Rattle.card.proofs.answer_of_chip.Goals as goal

pub returns-then-found-ne0 : goal.returns-then-found-ne0
returns-then-found-ne0 c =
    let own : fault_of c.held.result.runs (rows_of c.held.result) ≡ fault_of c.args.card.runs (card_in c.args.card) =
    λ i. fault_of (c.held.ensures.runs i) (c.held.ensures.rows i) in
    chip_refused_lem _ _ c.read_count-found.ensures c.if-found-ne0.true (c.unworn.ensures ∙ ap refused own)

pub returns : goal.returns
returns c = chip_counted _ _ c.read_count-found.ensures c.if-found-ne0.false c.answer_at.ensures
