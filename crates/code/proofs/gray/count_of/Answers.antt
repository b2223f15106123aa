-- `gray::count_of` meets its contract: five times twice as many halves.
use Rattle.code.specs.Gray.{bits, count_of}
use Rattle.code.proofs.GrayLaws.{halves_one, halves_double}
use Rattle.code.proofs.gray.count_of.Goals as goal

pub returns : goal.returns
unfolding bits count_of
returns c =
    let g = c.args.gray in
    halves_double 16 g (halves_double 8 g (halves_double 4 g (halves_double 2 g (halves_double 1 g (halves_one g)))))
