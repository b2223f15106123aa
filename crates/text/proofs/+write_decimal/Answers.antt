-- `write_decimal` meets its contract: below 10 one digit is the decimal, from 10 on the digits of a tenth and one more.
use native.Mathlib.Omega.{arith}
use Rattle.text.proofs.Writing.{wrote_more}
use Rattle.text.proofs.Decimals.{decimal_small, decimal_more, length_small, length_more}
use Rattle.text.proofs.+write_decimal.Goals as goal

pub write_digit-requires : goal.write_digit-requires
write_digit-requires t c = omega (arith, length_small _ c.if-n-lt10.true)

pub returns-then-n-lt10 : goal.returns-then-n-lt10
returns-then-n-lt10 t c = rw (decimal_small _ c.if-n-lt10.true) c.write_digit.ensures

pub write_decimal-next-requires : goal.write_decimal-next-requires
write_decimal-next-requires t c = omega (arith, length_more _ c.if-n-lt10.false)

pub write_digit-requires-2 : goal.write_digit-requires-2
write_digit-requires-2 t c = omega (arith, length_more _ c.if-n-lt10.false)

pub returns : goal.returns
returns t c =
    let more = decimal_more _ c.if-n-lt10.false in
    rw more (wrote_more _ _ (rw more at c.requires) c.write_decimal-next.ensures c.write_digit-2.ensures)
