-- `write_end` meets its contract: the line of the end record, computed.
use Rattle.intelhex.specs.Signs.{digit, two_digits, in_digits, total}
use Rattle.intelhex.specs.Records.{checksum, record_of}
use Rattle.intelhex.proofs.records.write_end.Goals as goal

pub returns : goal.returns
unfolding digit two_digits in_digits total checksum record_of
returns c = c.write_bytes.ensures
