-- `length` meets its contract.
use native.Mathlib.Omega.{arith}
use Rattle.card.specs.Inside.{rows_of}
use Rattle.card.proofs.WriteLaws.{length_text}
use Rattle.card.proofs.held.Held.length.Goals as goal

pub returns : goal.returns
returns c = omega (arith, length_text (rows_of c.args.self.now) c.requires.form, c.head_length.ensures.0, c.runs_length.ensures.0)
