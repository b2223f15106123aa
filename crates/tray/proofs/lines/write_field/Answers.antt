-- `write_field` meets its contract: the key, and the number behind it.
use Rattle.text.proofs.Writing.{wrote_more}
use Rattle.tray.proofs.lines.write_field.Goals as goal

pub returns : goal.returns
returns g c = wrote_more _ _ c.requires c.write_bytes-next.ensures c.write.ensures
