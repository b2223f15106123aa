-- The line that `fromhex` says of a text that it refuses (document 02, P2).
use Rattle.std.specs.Prelude.{ℕ, ◌+◌, ◌≡◌, ◌<◌, cond, List, [], ◌++◌, eqb, Option, MatchOption}
use Rattle.text.specs.Text.{decimal, bytes_of, Wrote}
use Rattle.intelhex.specs.declared.Answer.{Answer}

-- the words of each refusal, and the line's end
unfoldable pub words_of : ℕ → List ℕ
words_of refusal =
    cond (eqb refusal 1) (bytes_of "not in form, behind the end record, or without its line end\n")
    (cond (eqb refusal 2) (bytes_of "the checksum is wrong\n")
    (cond (eqb refusal 3) (bytes_of "a record type other than 00 and 01\n")
    (cond (eqb refusal 4) (bytes_of "an address at or past the image's end\n")
    (cond (eqb refusal 5) (bytes_of "an address that is there twice\n")
    (cond (eqb refusal 6) (bytes_of "the text ends with an address or the end record missing\n")
    (bytes_of "the image is not 41 to 4096 bytes long\n"))))))

-- the line of the text that is to blame
unfoldable pub place_of : ℕ → List ℕ
place_of line = bytes_of "line " ++ decimal line ++ bytes_of ": "

-- nothing is said of a text that is read, and for refusal 7 no line of the text is to blame
unfoldable pub refusal_of : Answer → List ℕ
refusal_of a = cond (eqb a.code 0) [] (cond (eqb a.code 7) (words_of 7) (place_of a.line ++ words_of a.code))

-- how long the words are at most, and the place before them
abbrev pub words_longest : ℕ
words_longest = 60

abbrev pub place_longest : ℕ
place_longest = 27

abbrev pub longest : ℕ
longest = place_longest + words_longest

-- the line of a refusal was written at the start of a text, and its end was answered; or nothing was refused, and nothing written
abbrev pub Said : List ℕ → Answer → Option ℕ → List ℕ → Type 0
Said before a result after =
    MatchOption result ((a.code ≡ 0) × (after ≡ before)) (λ end. (0 < a.code) × Wrote before 0 (refusal_of a) end after)
