-- The table of readings: an entry is one number for what a byte reads as (document 01, "Nibbles, bytes and Gray words").
use Rattle.std.specs.Prelude.{ℕ, ◌+◌, ◌-◌, ◌*◌, ◌/◌, ◌%◌, Bool, true, false, cond, List, ltb, eqb}
use Rattle.code.specs.declared.reading.Reading.{Reading}
use Rattle.code.specs.declared.reading.Reading.TheVariants.{Clean, Mended, Lost}
use Rattle.code.specs.Tabulate.{tabulate}
use Rattle.code.specs.Readings.{reading_of, twofold}

-- the first entry of a mended byte, the entry of a lost one, and that of a byte one bit from two codes
abbrev pub mended_entry : ℕ
mended_entry = 16

abbrev pub lost_entry : ℕ
lost_entry = 144

abbrev pub twofold_entry : ℕ
twofold_entry = 145

-- the entry of a byte, given whether it is one bit from two codes and its reading: the code of d has the entry d, and a byte
-- mended to d in bit i has 8 * d + i, counted from the first entry of a mended byte
abbrev pub entry_from : Bool → Reading → ℕ
entry_from true r = twofold_entry
entry_from false (Clean d) = d
entry_from false (Mended d bit) = mended_entry + 8 * d + bit
entry_from false Lost = lost_entry

-- the entry of the byte b
unfoldable pub entry_of : ℕ → ℕ
entry_of b = entry_from (twofold b) (reading_of b)

-- the table: the entries of all bytes
unfoldable pub entries : List ℕ
entries = tabulate entry_of 0 256

-- the reading that an entry stands for
abbrev pub reading_at : ℕ → Reading
reading_at e =
    cond (ltb e mended_entry) (Clean e)
    (cond (ltb e lost_entry) (Mended ((e - mended_entry) / 8) ((e - mended_entry) % 8))
    Lost)

-- whether an entry stands for a byte one bit from two codes
abbrev pub twofold_at : ℕ → Bool
twofold_at e = eqb e twofold_entry
