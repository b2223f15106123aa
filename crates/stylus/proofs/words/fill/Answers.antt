-- `fill` meets its contract: what is said of the read, and what of the card behind it.
use Rattle.std.proofs.Common.{arith}
use Rattle.text.proofs.Writing.{wrote_within, wrote_on}
use Rattle.stylus.specs.Prints.{said_of}
use Rattle.stylus.proofs.Room.{same_code}
use Rattle.stylus.proofs.words.fill.Goals as goal

pub returns : goal.returns
unfolding said_of
returns c =
    let card = rw (same_code c.args.chip.answer) at c.write_card.ensures in
    let within = wrote_within (omega (arith, c.write_read-next.ensures.1)) card in
    wrote_on _ _ (omega (arith, within)) c.write_read-next.ensures.0 card
