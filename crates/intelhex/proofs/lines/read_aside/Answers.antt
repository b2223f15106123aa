-- `read_aside` meets its contract: the data were read into cells of its own.
use Rattle.intelhex.proofs.lines.read_aside.Goals as goal

pub returns : goal.returns
returns c = (_, c.read_data.ensures)
