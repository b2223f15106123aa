-- `write_refusal` meets its contract: the place of a line and the words behind it, or those of the image's length.
use Rattle.std.proofs.Common.{arith}
use Rattle.text.proofs.Writing.{wrote_within, wrote_on}
use Rattle.fromhex.specs.Refusals.{words_of, refusal_of}
use Rattle.fromhex.proofs.Says.{said_of_fault}
use Rattle.fromhex.proofs.refusals.write_refusal.Goals as goal

pub returns-in-AtLine : goal.returns-in-AtLine
returns-in-AtLine c =
    let arm = c.in-AtLine in
    let second = rw c.words.ensures.0 at c.write_bytes.ensures in
    let within = wrote_within (omega (arith, c.write_place-place.ensures.1)) second in
    rw (arm.is, said_of_fault arm.fault arm.line) (wrote_on _ _ (omega (arith, within)) c.write_place-place.ensures.0 second)

pub returns-in-BadLength : goal.returns-in-BadLength
unfolding refusal_of words_of
returns-in-BadLength c = rw c.in-BadLength.is c.write_bytes-in-BadLength.ensures

pub returns-in-NoRoom : goal.returns-in-NoRoom
unfolding refusal_of words_of
returns-in-NoRoom c =
    let first = c.write_place-place-in-NoRoom.ensures in
    let second = c.write_bytes-in-NoRoom.ensures in
    let within = wrote_within (omega (arith, first.1)) second in
    rw c.in-NoRoom.is (wrote_on _ _ (omega (arith, within)) first.0 second)
