-- What each line is at fault for, and what it leaves (document 02, P2).
use Rattle.std.specs.Prelude.{ℕ, ◌+◌, ◌*◌, ◌%◌, Bool, true, false, cond, not, ◌&&◌, ◌||◌, List, [], ◌∷◌, length, take, drop, ◌==◌, nat_lt}
use Rattle.std.proofs.lemmas.List.Edits.{sets}
use Rattle.intelhex.specs.Signs.{colon, value_of, byte_at, bytes_at, total}
use Rattle.intelhex.specs.Records.{data_kind, end_kind}
use Rattle.intelhex.specs.Lines.{Line}

-- the parts of a line's signs, read behind the colon
abbrev pub count_of : List ℕ → ℕ
count_of signs = byte_at signs 1

abbrev pub address_of : List ℕ → ℕ
address_of signs = 256 * byte_at signs 3 + byte_at signs 5

abbrev pub kind_of : List ℕ → ℕ
kind_of signs = byte_at signs 7

abbrev pub data_of : List ℕ → List ℕ
data_of signs = bytes_at signs 9 (count_of signs)

-- the sum of all bytes, the checksum included
abbrev pub sum_of : List ℕ → ℕ
sum_of signs = total (bytes_at signs 1 (count_of signs + 5))

unfoldable pub all_digits : List ℕ → Bool
all_digits [] = true
all_digits (sign ∷ signs) = nat_lt (value_of sign) 16 && all_digits signs

-- a colon, and then digits
unfoldable pub colon_and_digits : List ℕ → Bool
colon_and_digits [] = false
colon_and_digits (sign ∷ signs) = sign == colon && all_digits signs

-- the colon, and two digits for each of count + 5 bytes
abbrev pub whole_length : List ℕ → Bool
whole_length signs = length signs == 11 + 2 * count_of signs

-- a data record has data; an end record has none, and the address 0
unfoldable pub lawful : ℕ → ℕ → ℕ → Bool
lawful kind address count =
    cond (kind == data_kind) (nat_lt 0 count) (cond (kind == end_kind) (count == 0 && address == 0) true)

-- a line in form, whether or not its checksum is right
unfoldable pub in_form : Line → Bool
in_form line =
    let signs = line.signs in
    line.ended && (colon_and_digits signs && (whole_length signs && lawful (kind_of signs) (address_of signs) (count_of signs)))

-- what was read so far: the byte of each address, or that there is none yet, and whether the end record was met
pub record Memory : Type 0 where
  pub cells : List ℕ
  pub closed : Bool

abbrev pub memory : List ℕ → Bool → Memory
memory cells closed = record { cells = cells; closed = closed }

-- no byte yet: more than any byte
abbrev pub not_yet : ℕ
not_yet = 256

-- some cell has its byte, and every cell has
unfoldable pub some_taken : List ℕ → Bool
some_taken [] = false
some_taken (cell ∷ cells) = nat_lt cell not_yet || some_taken cells

unfoldable pub all_taken : List ℕ → Bool
all_taken [] = true
all_taken (cell ∷ cells) = nat_lt cell not_yet && all_taken cells

-- 1 malformed, a line after the end record included; 2 checksum; 3 type; 4 address at or past the end; 5 address twice
unfoldable pub fault_of : Memory → Line → ℕ
fault_of m line =
    let signs = line.signs in
    let address = address_of signs in
    let count = count_of signs in
    cond (m.closed || not (in_form line)) 1
    (cond (not (sum_of signs % 256 == 0)) 2
    (cond (nat_lt end_kind (kind_of signs)) 3
    (cond (nat_lt (length m.cells) (address + count)) 4
    (cond (some_taken (take count (drop address m.cells))) 5 0))))

-- a line without a fault: its data are stored, and an end record closes the text
unfoldable pub after : Memory → Line → Memory
after m line =
    let signs = line.signs in
    memory (sets m.cells (address_of signs) (data_of signs)) (kind_of signs == end_kind)
