-- `value` meets its contract: the entry of a sign is what it counts.
use Rattle.std.proofs.Common.{◌≡◌, ◌<◌, rules, arith}
use Rattle.intelhex.proofs.Values.{value_most}
use Rattle.intelhex.proofs.table.Digits.value.Goals as goal

pub returns : goal.returns
returns c =
    let is : c.from.result ≡ c.args.sign = search rules in
    rw is (let small : c.args.sign < 256 = omega (arith, c.ranges.sign) in
    let same = c.args.self.now.laid.counts c.args.sign small in
    (same, omega (arith, same, value_most c.args.sign small)))
