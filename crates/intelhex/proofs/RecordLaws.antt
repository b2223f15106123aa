-- A record of bytes reads back: its parts, its length, its sum, and so its form.
use Rattle.std.proofs.Common.{◌≡◌, ℕ, zero, suc, ◌+◌, ◌*◌, ◌/◌, ◌%◌, ◌<◌, true, List, [], ◌∷◌, ◌++◌, length, get_or, take, drop, refl, ap, ◌∙◌, suc-add, add-one, arith, length-append, le-ltb, lt-ltb, eq-eqb, le-leb}
use native.Mathlib.Decide.{dec_le}
use borrow.Author.Tests.{lt-leb}
use lib.Seq.{take-append_seam}
use Rattle.intelhex.specs.Signs.{colon, digit, value_of, two_digits, in_digits, byte_at, bytes_at, total}
use Rattle.intelhex.specs.Records.{body_of, checksum, record_of}
use Rattle.intelhex.specs.Lines.{line}
use Rattle.intelhex.specs.Faults.{count_of, address_of, kind_of, data_of, sum_of, all_digits, colon_and_digits, whole_length, lawful, in_form}
use Rattle.intelhex.proofs.Digits.{length_digits, total_append}

-- every number is a byte
abbrev pub Bytes : List ℕ → Type 0
Bytes bytes = (k : ℕ) → k < length bytes → get_or bytes k 0 < 256

-- one byte more, one less, and one more at the end
pub bytes_cons : (byte : ℕ) (bytes : List ℕ) → byte < 256 → Bytes bytes → Bytes (byte ∷ bytes)
bytes_cons byte bytes first others zero inside = first
bytes_cons byte bytes first others (suc k) inside = others k (omega arith)

bytes_rest : (byte : ℕ) (bytes : List ℕ) → Bytes (byte ∷ bytes) → Bytes bytes
bytes_rest byte bytes all k inside = all (suc k) (omega arith)

bytes_last : (bytes : List ℕ) (byte : ℕ) → Bytes bytes → byte < 256 → Bytes (bytes ++ (byte ∷ []))
bytes_last [] byte all last = bytes_cons byte [] last all
bytes_last (first ∷ bytes) byte all last =
    bytes_cons first (bytes ++ (byte ∷ [])) (all 0 (omega arith)) (bytes_last bytes byte (bytes_rest first bytes all) last)

-- the sign of a digit counts that digit
value_digit : (d : ℕ) → d < 16 → value_of (digit d) ≡ d
unfolding value_of digit
value_digit d small =
    elim (dec_le 10 d) [
      | yes large ↦
          rw (le-ltb d 10 large, le-leb 48 (55 + d) (omega arith), lt-leb (55 + d) 57 (omega arith))
          (rw (le-leb 65 (55 + d) (omega arith), le-leb (55 + d) 70 (omega arith)) (omega arith))
      | no not_large ↦ rw (lt-ltb d 10 (omega arith), le-leb 48 (48 + d) (omega arith), le-leb (48 + d) 57 (omega arith)) (omega arith)
    ]

-- one sign more before the rest moves every place by one
byte_later : (sign : ℕ) (signs : List ℕ) (i : ℕ) → byte_at (sign ∷ signs) (suc i) ≡ byte_at signs i
unfolding byte_at
byte_later sign signs i = simp add-one

bytes_later : (sign : ℕ) (signs : List ℕ) (i n : ℕ) → bytes_at (sign ∷ signs) (suc i) n ≡ bytes_at signs i n
unfolding bytes_at
bytes_later sign signs i zero = refl
bytes_later sign signs i (suc n) =
    rw (byte_later sign signs i, suc-add i 2) (ap (λ (more : List ℕ). byte_at signs i ∷ more) (bytes_later sign signs (i + 2) n))

-- so many bytes from a place on are the first of more
fewer_bytes : (signs : List ℕ) (i n m : ℕ) → bytes_at signs i n ≡ take n (bytes_at signs i (n + m))
unfolding bytes_at
fewer_bytes signs i zero m = refl
fewer_bytes signs i (suc n) m = rw (suc-add n m) (ap (λ (more : List ℕ). byte_at signs i ∷ more) (fewer_bytes signs (i + 2) n m))

-- bytes as digits read back
bytes_back : (bytes : List ℕ) → Bytes bytes → bytes_at (in_digits bytes) 0 (length bytes) ≡ bytes
unfolding byte_at bytes_at in_digits two_digits
bytes_back [] all = refl
bytes_back (byte ∷ bytes) all =
    let small : byte < 256 = all 0 (omega arith) in
    let first : byte_at (in_digits (byte ∷ bytes)) 0 ≡ byte =
    rw (value_digit (byte / 16) (omega arith), value_digit (byte % 16) (omega arith)) (omega arith) in
    let more =
    bytes_later (digit (byte / 16)) (digit (byte % 16) ∷ in_digits bytes) 1 (length bytes)
    ∙ bytes_later (digit (byte % 16)) (in_digits bytes) 0 (length bytes)
    ∙ bytes_back bytes (bytes_rest byte bytes all) in
    λ t. first t ∷ more t

-- and they are digits
all_digits_lem : (bytes : List ℕ) → Bytes bytes → all_digits (in_digits bytes) ≡ true
unfolding all_digits in_digits two_digits
all_digits_lem [] all = refl
all_digits_lem (byte ∷ bytes) all =
    let small : byte < 256 = all 0 (omega arith) in
    let high : byte / 16 < 16 = omega arith in
    let low : byte % 16 < 16 = omega arith in
    rw (value_digit (byte / 16) high, value_digit (byte % 16) low, lt-ltb (byte / 16) 16 high, lt-ltb (byte % 16) 16 low)
    (all_digits_lem bytes (bytes_rest byte bytes all))

-- a record
module _ (kind address : ℕ) (bytes : List ℕ) where
  abbrev body : List ℕ
  body = body_of kind address bytes

  abbrev signs : List ℕ
  signs = record_of kind address bytes

  -- all its bytes, the checksum last
  abbrev full : List ℕ
  full = body ++ (checksum body ∷ [])

  -- how many there are, and so how many signs
  length_full : length full ≡ length bytes + 5
  length_full = length-append body _ ∙ omega arith

  pub length_record : length signs ≡ 11 + 2 * length bytes
  unfolding record_of
  length_record = omega (arith, length_digits full, length_full)

  -- a record of bytes
  module _ (kinds : kind < 256) (low : address < 65536) (short : length bytes < 256) (all : Bytes bytes) where
    -- they are bytes
    full_bytes : Bytes full
    unfolding checksum
    full_bytes zero inside = short
    full_bytes (suc zero) inside = omega arith
    full_bytes (suc (suc zero)) inside = omega arith
    full_bytes (suc (suc (suc zero))) inside = kinds
    full_bytes (suc (suc (suc (suc k)))) inside = bytes_last bytes (checksum body) all (omega arith) k (omega arith)

    -- they read back
    reads : bytes_at signs 1 (length full) ≡ full
    unfolding record_of
    reads = bytes_later colon (in_digits full) 0 (length full) ∙ bytes_back full full_bytes

    -- each of them
    part : (k : ℕ) → get_or (bytes_at signs 1 (length full)) k 0 ≡ get_or full k 0
    part k = ap (λ (l : List ℕ). get_or l k 0) reads

    -- the parts of the record
    pub count_record : count_of signs ≡ length bytes
    unfolding bytes_at
    count_record = part 0

    pub high_record : byte_at signs 3 ≡ address / 256
    unfolding bytes_at
    high_record = part 1

    pub low_record : byte_at signs 5 ≡ address % 256
    unfolding bytes_at
    low_record = part 2

    pub address_record : address_of signs ≡ address
    address_record = omega (arith, high_record, low_record)

    pub kind_record : kind_of signs ≡ kind
    unfolding bytes_at
    kind_record = part 3

    pub data_record : data_of signs ≡ bytes
    unfolding bytes_at
    data_record =
        rw count_record
        (fewer_bytes signs 9 (length bytes) 1
        ∙ rw (← length-append bytes (checksum body ∷ [])) (ap (λ (l : List ℕ). take (length bytes) (drop 4 l)) reads ∙ take-append_seam bytes _))

    -- a sum and what it lacks to a multiple of 256
    pub sum_record : sum_of signs % 256 ≡ 0
    unfolding checksum total
    sum_record = rw (count_record, ← length_full, reads, total_append body) (omega arith)

    -- its signs are in form
    pub digits_record : colon_and_digits signs ≡ true
    unfolding record_of colon_and_digits
    digits_record = all_digits_lem full full_bytes

    pub whole_record : whole_length signs ≡ true
    whole_record = eq-eqb (length signs) _ (omega (arith, length_record, count_record))

    pub form_record : in_form (line signs true) ≡ lawful kind address (length bytes)
    unfolding in_form
    form_record = rw (digits_record, whole_record, kind_record, address_record, count_record)
