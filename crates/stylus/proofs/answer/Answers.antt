-- `answer` meets its contract: what the card that was read answers, or the refusal of the reading beside the code of the chip's read.
use Rattle.std.proofs.Common.{refl, ap}
use Rattle.counter.specs.Layout.{two}
use Rattle.counter.specs.Places.{setting_a}
use Rattle.counter.specs.Doors.{read_of}
use Rattle.card.specs.Answers.{chip_refused, chip_answer_of}
use Rattle.card.specs.Refusals.{number}
use Rattle.card.proofs.DoorLaws.{chip_own, told_not, told_by}
use Rattle.card.proofs.Refused.{some_number}
use Rattle.stylus.proofs.answer.Goals as goal

pub returns-in-Ok : goal.returns-in-Ok
returns-in-Ok c =
    let found = read_of two setting_a c.args.image.now in
    told_by (λ runs card. chip_answer_of runs card found) (chip_refused found) (chip_own found) c.in-Ok.ensures refl c.answer_of_chip.ensures

pub returns-in-Err : goal.returns-in-Err
returns-in-Err c =
    let found = read_of two setting_a c.args.image.now in
    told_not (λ runs card. chip_answer_of runs card found) (chip_refused found) (chip_own found) c.in-Err.ensures (some_number _)
    (ap (λ read. chip_refused read (number c.in-Err.refusal)) c.read_count.ensures)
