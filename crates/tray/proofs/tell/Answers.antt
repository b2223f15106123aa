-- `tell` meets its contract: the lines of the rows that the call left, or the refusal.
use lib.Dec.{lit≤}
use Rattle.std.proofs.Common.{sym, arith}
use Rattle.dumps.proofs.TrayEntries.{read_code, refused_code}
use Rattle.tray.proofs.Answers.{refused, few, told}
use Rattle.tray.proofs.tell.Goals as goal

pub returns-then-is_err : goal.returns-then-is_err
returns-then-is_err c =
    let other = refused_code _ (sym c.if-is_err.ensures.value) in
    let (none, words) = refused _ _ _ c.read_tray-read.ensures (lit≤ tt) (lit≤ tt) other in
    record { lines = tt; refusal = (none, rw words c.write_bytes-end.ensures) }

pub fill-requires : goal.fill-requires
fill-requires c =
    let few = few _ _ _ c.read_tray-read.ensures (read_code _ (sym c.if-is_err.ensures.value)) in
    (omega (arith, few), omega (arith, few), omega (arith, few))

pub returns : goal.returns
returns c =
    let (some, lines) = told _ _ _ c.read_tray-read.ensures (read_code _ (sym c.if-is_err.ensures.value)) in
    record { lines = (some, rw lines c.fill.ensures); refusal = tt }
