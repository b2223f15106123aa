-- Records, and the one standard text of an image (document 02, P2).
use Rattle.std.specs.Prelude.{ℕ, zero, suc, ◌+◌, ◌-◌, ◌/◌, ◌%◌, List, [], ◌∷◌, ◌++◌, length, take, drop}
use Rattle.intelhex.specs.Signs.{line_feed, colon, in_digits, total}

-- the bytes before the checksum: how many data bytes there are, the address, high byte first, the type, and the data
abbrev pub body_of : ℕ → ℕ → List ℕ → List ℕ
body_of kind address bytes = length bytes ∷ address / 256 ∷ address % 256 ∷ kind ∷ bytes

-- the byte that makes the sum 0 modulo 256
unfoldable pub checksum : List ℕ → ℕ
checksum bytes = (256 - total bytes % 256) % 256

-- the signs of a record, and its line
unfoldable pub record_of : ℕ → ℕ → List ℕ → List ℕ
record_of kind address bytes = let body = body_of kind address bytes in colon ∷ in_digits (body ++ (checksum body ∷ []))

abbrev pub line_of : ℕ → ℕ → List ℕ → List ℕ
line_of kind address bytes = record_of kind address bytes ++ (line_feed ∷ [])

-- the types that are taken: a data record and the end record
abbrev pub data_kind : ℕ
data_kind = 0

abbrev pub end_kind : ℕ
end_kind = 1

-- so many data records of 16 bytes, the last one shorter where the image ends, from an address on
unfoldable pub data_lines : ℕ → ℕ → List ℕ → List ℕ
data_lines zero address image = []
data_lines (suc more) address image = line_of data_kind address (take 16 (drop address image)) ++ data_lines more (address + 16) image

-- how many there are in an image of n bytes
abbrev pub records_in : ℕ → ℕ
records_in n = (n + 15) / 16

-- the standard text: the data records in rising order, closed by the end record
unfoldable pub standard_text : List ℕ → List ℕ
standard_text image = data_lines (records_in (length image)) 0 image ++ line_of end_kind 0 []
