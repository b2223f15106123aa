-- `read_within` meets its contract: as many cells are lent as the image has bytes, and none has its byte yet.
use Rattle.std.specs.Prelude.{◌≡◌, Err}
use Rattle.std.proofs.Common.{rules}
use Rattle.intelhex.proofs.Taken.{blank_front}
use Rattle.intelhex.proofs.read_within.Goals as goal

pub returns-in_err-read_lines : goal.returns-in_err-read_lines
returns-in_err-read_lines g c =
    let same : c.from_residual.result ≡ Err c.in_err-read_lines.field-0.0 = search rules in
    rw same ((rw (blank_front _ g.row.MOST c.requires.0) at c.in_err-read_lines.ensures).reads c.args.image.now)

pub returns : goal.returns
returns g c =
    rw c.copy.ensures ((rw (blank_front _ g.row.MOST c.requires.0) at c.in_ok-read_lines.ensures).reads c.args.image.now)
