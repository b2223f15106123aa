-- What `tohex` tells of an image (document 02, P2): its standard text, or why there is none.
use Rattle.std.specs.Prelude.{ℕ, cond, List, length}
use Rattle.text.specs.Text.{bytes_of}
use Rattle.intelhex.specs.Records.{standard_text}
use Rattle.intelhex.specs.Doors.{sized}

-- the line of refusal 7
abbrev pub refusal : List ℕ
refusal = bytes_of "the image is not 41 to 4096 bytes long\n"

unfoldable pub told_of : List ℕ → List ℕ
told_of image = cond (sized (length image)) (standard_text image) refusal

-- how long the standard text of 4096 bytes is: 2 signs for each byte, and 12 for each of 256 data records and for the end record
abbrev pub longest : ℕ
longest = 11276
