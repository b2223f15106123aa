-- The text that `look` prints (document 01, "Measured on the bench"; document 02, P1).
use Rattle.std.specs.Prelude.{ℕ, ◌+◌, ◌*◌, get_or}
use mathlib.Core.List.{List, [], ◌∷◌, ◌++◌, flatten}
use Rattle.code.specs.Tabulate.{tabulate}
use Rattle.text.specs.Text.{digit, decimal, signed, line}
use Rattle.counter.specs.declared.verdict.Answer.{Answer}
use Rattle.counter.specs.declared.doors.ReadAnswer.{ReadAnswer}

-- the keys: code, count, lag, place, and bit with its number
abbrev pub code_key : List ℕ
code_key = 99 ∷ 111 ∷ 100 ∷ 101 ∷ []

abbrev pub count_key : List ℕ
count_key = 99 ∷ 111 ∷ 117 ∷ 110 ∷ 116 ∷ []

abbrev pub lag_key : List ℕ
lag_key = 108 ∷ 97 ∷ 103 ∷ []

abbrev pub place_key : List ℕ
place_key = 112 ∷ 108 ∷ 97 ∷ 99 ∷ 101 ∷ []

abbrev pub bit_key : ℕ → List ℕ
bit_key i = 98 ∷ 105 ∷ 116 ∷ digit i ∷ []

-- an answer's code, count, lag and place, a line each
unfoldable pub answer_text : Answer → List ℕ
answer_text a =
    line code_key (decimal a.code)
    ++ line count_key (decimal a.count)
    ++ line lag_key (signed a.lag)
    ++ line place_key (decimal a.place)

-- the counts of the bits 0 to 7, a line each
abbrev pub bit_line : List ℕ → ℕ → List ℕ
bit_line bits i = line (bit_key i) (decimal (get_or bits i 0))

abbrev pub bit_lines : List ℕ → List (List ℕ)
bit_lines bits = tabulate (bit_line bits) 0 8

-- the answer of a read, with the counts after place
unfoldable pub look_text : ReadAnswer → List ℕ
look_text a = answer_text a.answer ++ flatten (bit_lines a.bits)

-- how long the lines of an answer are at most: two numbers of 32 bits, a signed one and one of 64 bits
abbrev pub answer_longest : ℕ
answer_longest = 85

-- and the line of a bit: a number of 32 bits
abbrev pub bit_longest : ℕ
bit_longest = 16

-- and all twelve
abbrev pub longest : ℕ
longest = answer_longest + 8 * bit_longest
