-- What the functions inside the crate promise each other. No promise of a door rests on it.
use Rattle.std.specs.Prelude.{◌≡◌, ℕ, ◌+◌, ◌-◌, ◌*◌, ◌%◌, ◌<◌, Bool, true, false, cond, not, ◌&&◌, List, [], ◌∷◌, ◌++◌, length, take, drop, ◌==◌, nat_lt, slice_index, Result, Ok, Err, IfOk, is_ok}
use Rattle.std.proofs.lemmas.List.Edits.{sets}
use Rattle.intelhex.specs.declared.parts.Head.{Head}
use Rattle.intelhex.specs.declared.parts.Data.{Data}
use Rattle.intelhex.specs.declared.lines.Line.{Line}
use Rattle.intelhex.specs.Signs.{line_feed, carriage_return, colon, two_digits, in_digits, no_digit, byte_at, bytes_at, total}
use Rattle.intelhex.specs.Records.{end_kind}
use Rattle.intelhex.specs.declared.Fault.{Fault}
use Rattle.intelhex.specs.declared.Refusal.{Refusal}
use Rattle.intelhex.specs.Lines.{lines_of}
use Rattle.intelhex.specs.Faults.{lawful, memory, some_taken, all_taken}
use Rattle.intelhex.specs.Doors.{number_of, outcome, read_told, read_lines}

-- what stands before the data of a record, and what stands behind them where the bytes before have a sum
abbrev pub head_of : ℕ → ℕ → ℕ → ℕ → List ℕ
head_of kind high low count = colon ∷ in_digits (count ∷ high ∷ low ∷ kind ∷ [])

abbrev pub tail_of : ℕ → List ℕ
tail_of sum = two_digits ((256 - sum % 256) % 256) ++ (line_feed ∷ [])

-- each of some numbers is a byte
unfoldable pub all_bytes : List ℕ → Bool
all_bytes [] = true
all_bytes (byte ∷ bytes) = nat_lt byte 256 && all_bytes bytes

-- the index past the line end that stands at an index; 0 where none stands there
unfoldable pub end_at : List ℕ → ℕ → ℕ
end_at text at =
    cond (slice_index text at == line_feed) (at + 1)
    (cond (slice_index text at == carriage_return && slice_index text (at + 1) == line_feed) (at + 2) 0)

-- the line that begins at an index of a text: its parts
abbrev pub count_at : List ℕ → ℕ → ℕ
count_at text at = byte_at text (at + 1)

abbrev pub address_at : List ℕ → ℕ → ℕ
address_at text at = 256 * byte_at text (at + 3) + byte_at text (at + 5)

abbrev pub kind_at : List ℕ → ℕ → ℕ
kind_at text at = byte_at text (at + 7)

abbrev pub data_at : List ℕ → ℕ → List ℕ
data_at text at = bytes_at text (at + 9) (count_at text at)

abbrev pub all_at : List ℕ → ℕ → List ℕ
all_at text at = bytes_at text (at + 1) (count_at text at + 5)

abbrev pub next_at : List ℕ → ℕ → ℕ
next_at text at = end_at text (at + 11 + 2 * count_at text at)

-- a colon, as many bytes as the count asks for, and the line end
unfoldable pub formed_at : List ℕ → ℕ → Bool
formed_at text at = slice_index text at == colon && (all_bytes (all_at text at) && nat_lt 0 (next_at text at))

-- the number of a fault, 0 where there is none
abbrev pub code_of : {A : Type 0} → Result A Fault → ℕ
code_of (Ok read) = 0
code_of (Err fault) = number_of fault

-- what a record is at fault for, whose signs are a colon and bytes
unfoldable pub verdict : ℕ → ℕ → ℕ → ℕ → ℕ → Bool → ℕ
verdict sum kind address count size twice =
    cond (lawful kind address count)
    (cond (not (sum % 256 == 0)) 2 (cond (nat_lt end_kind kind) 3 (cond (nat_lt size (address + count)) 4 (cond twice 5 0))))
    1

-- what the line that begins at an index is at fault for
unfoldable pub fault_at : List ℕ → ℕ → List ℕ → ℕ
fault_at text at cells =
    let address = address_at text at in
    let count = count_at text at in
    cond (formed_at text at)
    (verdict (total (all_at text at)) (kind_at text at) address count (length cells) (some_taken (take count (drop address cells))))
    1

-- whether there is a colon, and the count is a byte
abbrev pub headed : List ℕ → ℕ → Bool
headed text at = slice_index text at == colon && nat_lt (count_at text at) 256

-- what stands before the data of the line that begins at an index
pub record HeadIs (text : List ℕ) (at : ℕ) (head : Head) : Type 0 where
  pub formed : headed text at ≡ true
  pub count : head.count ≡ count_at text at
  pub address : head.address ≡ address_at text at
  pub kind : head.kind ≡ kind_at text at
  pub sum : head.sum ≡ total (bytes_at text (at + 1) 4)
  pub small : (head.address < 4294967296) × (head.sum < 4294967296)

-- the data read from an index of a text into cells from an address on
pub record DataIs (text : List ℕ) (at count : ℕ) (before : List ℕ) (address : ℕ) (read : Data) (after : List ℕ) : Type 0 where
  pub sum : read.sum ≡ total (bytes_at text at count)
  pub small : read.sum < 4294967296
  pub twice : all_bytes (bytes_at text at count) ≡ true → read.twice ≡ some_taken (take count (drop address before))
  pub stored : all_bytes (bytes_at text at count) ≡ true → after ≡ sets before address (bytes_at text at count)

-- a line judged from its checksum on, with what stands before it
abbrev pub sum_with : List ℕ → ℕ → Head → Data → ℕ
sum_with text at head held = head.sum + held.sum + byte_at text at

pub record Judged (text : List ℕ) (at : ℕ) (head : Head) (held : Data) (size : ℕ) (read : Result Line Fault) : Type 0 where
  pub code :
      code_of read
      ≡ cond (nat_lt (sum_with text at head held) no_digit && nat_lt 0 (end_at text (at + 2)))
      (verdict (sum_with text at head held) head.kind head.address head.count size held.twice)
      1
  pub taken : IfOk read (λ line. (line.next ≡ end_at text (at + 2)) × (line.filled ≡ head.count) × (line.closed ≡ (head.kind == end_kind)))

-- what is read of the line that begins at an index, where it is without a fault, and the cells that it leaves
pub record LineTaken (text : List ℕ) (at : ℕ) (before : List ℕ) (line : Line) (after : List ℕ) : Type 0 where
  pub next : line.next ≡ next_at text at
  pub filled : line.filled ≡ count_at text at
  pub closed : line.closed ≡ (kind_at text at == end_kind)
  pub stored : after ≡ sets before (address_at text at) (data_at text at)

-- the line that begins at an index was read into cells
pub record LineIs (text : List ℕ) (at : ℕ) (before : List ℕ) (read : Result Line Fault) (after : List ℕ) : Type 0 where
  pub code : code_of read ≡ fault_at text at before
  pub taken : IfOk read (λ line. LineTaken text at before line after)

-- a text was read into cells: what it comes to, whatever image it is for
pub record TextIs (text before : List ℕ) (read : Result (Unit {0}) Refusal) (after : List ℕ) : Type 0 where
  pub reads : (image : List ℕ) → outcome (read_told read) (cond (is_ok read) after image) ≡ read_lines image 0 (lines_of text) (memory before false)
  pub taken : IfOk read (λ done. all_taken after ≡ true)
