-- `write_place` meets its contract: the three runs that it writes are the place, and the decimal of a number of 64 bits is short enough.
use Rattle.std.proofs.Common.{◌≤◌, length, arith}
use Rattle.text.specs.Text.{decimal}
use Rattle.text.proofs.Decimals.{length_u64}
use Rattle.text.proofs.Writing.{wrote_on}
use Rattle.fromhex.specs.Refusals.{place_of}
use Rattle.fromhex.proofs.refusals.write_place.Goals as goal

pub write-end-requires : goal.write-end-requires
write-end-requires c = omega (arith, length_u64 c.args.line (omega arith))

pub write_bytes-requires : goal.write_bytes-requires
write_bytes-requires c = omega (arith, length_u64 c.args.line (omega arith))

pub returns : goal.returns
unfolding place_of
returns c =
    let short : length (decimal c.args.line) ≤ 20 = length_u64 _ (omega arith) in
    let two : c.write-end.result ≤ 25 = omega arith in
    let three : c.write_bytes.result ≤ 27 = omega arith in (
      wrote_on _ _ (omega arith)
          (wrote_on _ _ (omega arith) c.write_bytes-start.ensures c.write-end.ensures)
          c.write_bytes.ensures,
      three,
    )
