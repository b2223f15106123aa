-- What `tray` prints of a tray of images of setting A, or says where it is none (document 02, P7).
use Rattle.std.specs.Prelude.{ℕ, ◌+◌, ◌*◌, cond, eqb, length}
use mathlib.Core.List.{List, [], ◌∷◌, ◌++◌, flatten}
use Rattle.code.specs.Tabulate.{tabulate}
use Rattle.text.specs.Text.{bytes_of, line_feed, decimal}
use Rattle.counter.specs.declared.verdict.Answer.{Answer}
use Rattle.counter.specs.Layout.{two}
use Rattle.counter.specs.Places.{setting_a}
use Rattle.counter.specs.Doors.{read_of}
use Rattle.dumps.specs.Tray.{most_images, images_in, image_at}

-- a key with its equals sign, and a plain decimal
abbrev pub field : List ℕ → ℕ → List ℕ
field key value = key ++ decimal value

-- the line of an image: its number, and the code and the count of its read
unfoldable pub line_of : ℕ → ℕ → ℕ → List ℕ
line_of number code count =
    field (bytes_of "number=") number ++ field (bytes_of " code=") code ++ field (bytes_of " count=") count ++ (line_feed ∷ [])

-- the line of the image with i before it, given the codes and counts of all, and the lines of the first n
abbrev pub line_at : (ℕ → ℕ) → (ℕ → ℕ) → ℕ → List ℕ
line_at code count i = line_of (i + 1) (code i) (count i)

abbrev pub lines_of : (ℕ → ℕ) → (ℕ → ℕ) → ℕ → List ℕ
lines_of code count n = flatten (tabulate (line_at code count) 0 n)

-- how long an image of setting A is
abbrev pub image_long : ℕ
image_long = 129

-- how many images a tray holds, 0 where it is none, and what reading one of them alone answers
abbrev pub images_of : List ℕ → ℕ
images_of tray = images_in image_long (length tray)

abbrev pub answer_at : List ℕ → ℕ → Answer
answer_at tray i = read_of two setting_a (image_at image_long tray i)

-- what is said where there is no tray
abbrev pub refusal : List ℕ
refusal = bytes_of "not 1 to 64 images of 129 bytes each\n"

-- a line for each image, or the refusal
unfoldable pub told_of : List ℕ → List ℕ
told_of tray =
    cond (eqb (images_of tray) 0) refusal
    (lines_of (λ i. (answer_at tray i).code) (λ i. (answer_at tray i).count) (images_of tray))

-- how long a line is at most, with a number of 64 bits and two of 32 bits
abbrev pub line_longest : ℕ
line_longest = 61

-- and those of a tray
abbrev pub longest : ℕ
longest = most_images * line_longest
