-- `reading::count_in` meets its contract: the nibbles are those of the copy.
use Rattle.std.proofs.Common.{ℕ, List, ap, ◌∙◌, rules}
use Rattle.code.specs.Gray.{count_of}
use Rattle.code.specs.Nibbles.{word_of}
use Rattle.code.proofs.TabulateLaws.{filled}
use Rattle.counter.specs.Reading.{count_in}
use Rattle.counter.specs.Inside.{nibble_by}
use Rattle.counter.proofs.reading.count_in.Goals as goal

pub returns : goal.returns
unfolding count_in nibble_by
returns c =
    c.count_of.ensures
    ∙ ap count_of c.word_of.ensures
    ∙ ap (λ (ns : List ℕ). count_of (word_of ns)) (filled _ 0 c.nibbles_of.result 8 (search rules) c.nibbles_of.ensures)
