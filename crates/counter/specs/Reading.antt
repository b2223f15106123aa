-- Reading (document 01, "Reading" and the table of refusals).
use Rattle.counter.specs.Verdict.{Verdict, read_as}
use Rattle.std.specs.Prelude.{ℕ, zero, suc, ◌+◌, ◌-◌, ◌*◌, Bool, true, false, cond, List, length, ℤ, pos, negsuc, ◌-ℤ◌, nat_le, slice_index, Option, Some, None, Err}
use Rattle.code.specs.declared.reading.Reading.{Reading}
use Rattle.code.specs.Readings.{reading_of, twofold, is_lost, nibble_read}
use Rattle.code.specs.Gray.{count_of}
use Rattle.code.specs.Nibbles.{word_of}
use Rattle.code.specs.Tabulate.{tabulate}
use Rattle.counter.specs.declared.places.Places.{Places}
use Rattle.counter.specs.declared.verdict.Refusal.{Refusal}
use Rattle.counter.specs.declared.verdict.Refusal.TheVariants.{BadLength, BadPlaces, NoMark, UnsoundMap, TwoCodes, LostNibble, Apart}
use Rattle.counter.specs.Layout.{Layout}
use Rattle.counter.specs.Slots.{every, some, lowest}
use Rattle.counter.specs.Places.{length_good, places_good}
use Rattle.counter.specs.Map.{map_in, marked, pointer_of, sound}

-- the byte at a slot's pointer
abbrev pub data_at : List ℕ → List ℕ → ℕ → ℕ
data_at cells map k = slice_index cells (pointer_of map k)

-- nibble n of the lowest-numbered copy that has one, among so many copies from one on, given what each slot
-- reads as; copies are counted from 0
unfoldable pub first_read : ℕ → ℕ → (ℕ → Reading) → ℕ → ℕ
first_read zero copy reading n = 0
first_read (suc left) copy reading n =
    let other = first_read left (copy + 1) reading n in
    let own = reading (8 * copy + n) in
    cond (is_lost own) other (nibble_read own)

-- nibble n of a copy; a lost nibble takes the other copy's (of two copies: `nibble_two`, proofs/Weighed.antt)
unfoldable pub nibble_in : Layout → (ℕ → Reading) → ℕ → ℕ → ℕ
nibble_in layout reading copy n =
    let own = reading (8 * copy + n) in
    cond (is_lost own) (first_read layout.copies 0 reading n) (nibble_read own)

-- the count of a copy: its Gray word turned back
unfoldable pub count_in : Layout → (ℕ → Reading) → ℕ → ℕ
count_in layout reading copy = count_of (word_of (tabulate (nibble_in layout reading copy) 0 8))

-- lag 0 or lag 1
unfoldable pub close : ℤ → Bool
close (pos n) = nat_le n 1
close (negsuc n) = false

-- what the counts of the first and the last copy decide; lag is the signed number c1 - c2
unfoldable pub decide : ℕ → ℕ → Verdict
decide c1 c2 = let lag = pos c1 -ℤ pos c2 in cond (close lag) (read_as c1 lag) (Err (Apart lag))

-- some copy holds a byte one bit from two codes at nibble n
abbrev pub some_twofold : Layout → (ℕ → ℕ) → ℕ → Bool
some_twofold layout byte n = some layout.copies (λ copy. twofold (byte (8 * copy + n)))

-- nibble n is lost in every copy
abbrev pub lost_at : Layout → (ℕ → Reading) → ℕ → Bool
lost_at layout reading n = every layout.copies (λ copy. is_lost (reading (8 * copy + n)))

-- refused, unless the test holds
abbrev pub unless : Bool → Refusal → Verdict → Verdict
unless true why rest = rest
unless false why rest = Err why

-- refused for what was found, if anything was
abbrev pub on_found : Option ℕ → (ℕ → Refusal) → Verdict → Verdict
on_found (Some n) why rest = Err (why n)
on_found None why rest = rest

-- what the bytes of the slots come to: refusals 10, 5 and 6, or the count
unfoldable pub weigh : Layout → (ℕ → ℕ) → Verdict
weigh layout byte =
    let reading : ℕ → Reading = λ k. reading_of (byte k) in
    on_found (lowest 8 0 (some_twofold layout byte)) TwoCodes
    (on_found (lowest 8 0 (lost_at layout reading)) LostNibble
    (decide (count_in layout reading 0) (count_in layout reading (layout.copies - 1))))

-- what a marked image reads as: refusal 4, or what the data read as
unfoldable pub examine : Layout → Places → List ℕ → Verdict
examine layout p cells =
    let map = map_in layout p cells in
    unless (sound layout p (pointer_of map)) UnsoundMap (weigh layout (data_at cells map))

-- the first tests of read, step and map part, in the order of the table: refusals 1, 2 and 3, or the rest
abbrev pub guarded : Layout → Places → List ℕ → Verdict → Verdict
guarded layout p cells rest =
    unless (length_good layout (length cells)) BadLength
    (unless (places_good layout (length cells) p) BadPlaces
    (unless (marked (map_in layout p cells)) NoMark
    rest))

-- what an image reads as
unfoldable pub verdict_of : Layout → Places → List ℕ → Verdict
verdict_of layout p cells = guarded layout p cells (examine layout p cells)
