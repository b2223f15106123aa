-- The text at two answers, byte for byte: document 01's example ("Measured on the bench"), with document 02's counts (P1), and the
-- least lag.
use mathlib.Core.Path.{◌≡◌, refl}
use mathlib.Core.List.{[], ◌∷◌, flatten}
use lib.IntN.{pos, negsuc}
use Rattle.code.specs.Mended.{no_bits}
use Rattle.counter.specs.Verdict.{answer}
use Rattle.text.specs.Text.{digits, decimal, signed, line}
use Rattle.look.specs.Look.{answer_text, look_text}

-- code=0 count=3 lag=0 place=0 bit0=0 bit1=0 bit2=0 bit3=0 bit4=0 bit5=0 bit6=0 bit7=0
the_example : look_text (record { answer = answer 0 3 (pos 0) 0 0 0; bits = no_bits })
    ≡ 99 ∷ 111 ∷ 100 ∷ 101 ∷ 61 ∷ 48 ∷ 10
    ∷ 99 ∷ 111 ∷ 117 ∷ 110 ∷ 116 ∷ 61 ∷ 51 ∷ 10
    ∷ 108 ∷ 97 ∷ 103 ∷ 61 ∷ 48 ∷ 10
    ∷ 112 ∷ 108 ∷ 97 ∷ 99 ∷ 101 ∷ 61 ∷ 48 ∷ 10
    ∷ 98 ∷ 105 ∷ 116 ∷ 48 ∷ 61 ∷ 48 ∷ 10
    ∷ 98 ∷ 105 ∷ 116 ∷ 49 ∷ 61 ∷ 48 ∷ 10
    ∷ 98 ∷ 105 ∷ 116 ∷ 50 ∷ 61 ∷ 48 ∷ 10
    ∷ 98 ∷ 105 ∷ 116 ∷ 51 ∷ 61 ∷ 48 ∷ 10
    ∷ 98 ∷ 105 ∷ 116 ∷ 52 ∷ 61 ∷ 48 ∷ 10
    ∷ 98 ∷ 105 ∷ 116 ∷ 53 ∷ 61 ∷ 48 ∷ 10
    ∷ 98 ∷ 105 ∷ 116 ∷ 54 ∷ 61 ∷ 48 ∷ 10
    ∷ 98 ∷ 105 ∷ 116 ∷ 55 ∷ 61 ∷ 48 ∷ 10 ∷ []
unfolding flatten answer_text look_text line signed decimal digits
the_example = refl

-- code=6 count=0 lag=-4294967295 place=0
the_least_lag : answer_text (answer 6 0 (negsuc 4294967294) 0 0 0)
    ≡ 99 ∷ 111 ∷ 100 ∷ 101 ∷ 61 ∷ 54 ∷ 10
    ∷ 99 ∷ 111 ∷ 117 ∷ 110 ∷ 116 ∷ 61 ∷ 48 ∷ 10
    ∷ 108 ∷ 97 ∷ 103 ∷ 61 ∷ 45 ∷ 52 ∷ 50 ∷ 57 ∷ 52 ∷ 57 ∷ 54 ∷ 55 ∷ 50 ∷ 57 ∷ 53 ∷ 10
    ∷ 112 ∷ 108 ∷ 97 ∷ 99 ∷ 101 ∷ 61 ∷ 48 ∷ 10 ∷ []
unfolding answer_text line signed decimal digits
the_least_lag = refl
