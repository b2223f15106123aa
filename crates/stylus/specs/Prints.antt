-- What `stylus` prints of a card and a chip, and what it says of a refusal (document 02, P4).
use Rattle.std.specs.Prelude.{ℕ, ◌+◌, cond, List, [], ◌++◌, eqb, ℤ}
use Rattle.text.specs.Text.{bytes_of, decimal, signed, line}
use Rattle.card.specs.Answers.{ChipAnswer}

-- the code of the read, the card's own code and the turns used; turns left, and the cutting time
abbrev pub first_lines : ℕ → ℕ → ℕ → List ℕ
first_lines read code used =
    line (bytes_of "read") (decimal read) ++ line (bytes_of "code") (decimal code) ++ line (bytes_of "used") (decimal used)

abbrev pub last_lines : ℤ → ℕ → List ℕ
last_lines left time = line (bytes_of "left") (signed left) ++ line (bytes_of "time") (decimal time)

unfoldable pub lines_of : ChipAnswer → List ℕ
lines_of a = first_lines a.read a.answer.code a.answer.used ++ last_lines a.answer.left a.answer.time

-- the words of each refusal of a read, with setting A; 10 is never met
unfoldable pub read_words : ℕ → List ℕ
read_words code =
    cond (eqb code 0) []
    (cond (eqb code 1) (bytes_of "chip: not 41 to 4096 bytes long\n")
    (cond (eqb code 2) (bytes_of "chip: too short for setting A\n")
    (cond (eqb code 3) (bytes_of "chip: no mark: never opened, or damaged\n")
    (cond (eqb code 4) (bytes_of "chip: the map is not sound\n")
    (cond (eqb code 5) (bytes_of "chip: a nibble is lost in both copies\n")
    (bytes_of "chip: the copies disagree\n"))))))

-- the words of each refusal of a card; 6, which is writing's, is never met
unfoldable pub card_words : ℕ → List ℕ
card_words code =
    cond (eqb code 0) []
    (cond (eqb code 1) (bytes_of "card: the allowance is not 1 to 1000000\n")
    (cond (eqb code 2) (bytes_of "card: the count is below the one when fitted\n")
    (cond (eqb code 3) (bytes_of "card: the runs do not add up to the turns used\n")
    (cond (eqb code 4) (bytes_of "card: more than 64 runs\n")
    (bytes_of "card: the text is not in form\n")))))

-- nothing is said where neither is refused
unfoldable pub said_of : ChipAnswer → List ℕ
said_of a = read_words a.read ++ card_words a.answer.code

-- how long the lines are at most, and what is said of a chip and of a card
abbrev pub first_longest : ℕ
first_longest = 48

abbrev pub last_longest : ℕ
last_longest = 52

abbrev pub lines_longest : ℕ
lines_longest = first_longest + last_longest

abbrev pub read_longest : ℕ
read_longest = 40

abbrev pub card_longest : ℕ
card_longest = 47

abbrev pub said_longest : ℕ
said_longest = read_longest + card_longest
