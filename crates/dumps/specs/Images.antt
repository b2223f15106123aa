-- A tray told by the images that stand in it: what the call answers, without a division.
use Rattle.std.specs.Prelude.{ℕ, ◌≤◌, ◌≡◌, length, drop}
use mathlib.Core.List.{List, [], ◌∷◌, ◌++◌, map, flatten}
use Rattle.counter.specs.declared.verdict.Answer.{Answer}
use Rattle.dumps.specs.Tray.{most_images, Outcome, outcome}

-- every image has so many bytes
abbrev pub Alike : ℕ → List (List ℕ) → Type 0
Alike each [] = Unit
Alike each (image ∷ images) = (length image ≡ each) × Alike each images

-- the images of a tray: at least one and no more than a tray holds, of equal length and not empty, one behind another, and each with
-- its entry in both rows
pub record IsTray (each : ℕ) (tray counts codes : List ℕ) (images : List (List ℕ)) : Type 0 where
  pub bytes : 1 ≤ each
  pub alike : Alike each images
  pub joined : tray ≡ flatten images
  pub some : 1 ≤ length images
  pub most : length images ≤ most_images
  pub counted : length images ≤ length counts
  pub coded : length images ≤ length codes

abbrev pub NoTray : ℕ → List ℕ → List ℕ → List ℕ → Type 0
NoTray each tray counts codes = (images : List (List ℕ)) → IsTray each tray counts codes images → ⊥

-- a row that begins with a number for each image, and past them is as it was
abbrev pub row_of : (List ℕ → ℕ) → List (List ℕ) → List ℕ → List ℕ
row_of of images row = map of images ++ drop (length images) row

-- what an image alone reads as: its count, and its code
abbrev pub count_by : (List ℕ → Answer) → List ℕ → ℕ
count_by read image = (read image).count

abbrev pub code_by : (List ℕ → Answer) → List ℕ → ℕ
code_by read image = (read image).code

-- 0, and the count and the code of each image in its place
abbrev pub images_read : (List ℕ → Answer) → List (List ℕ) → List ℕ → List ℕ → Outcome
images_read read images counts codes = outcome 0 (row_of (count_by read) images counts) (row_of (code_by read) images codes)

-- what is answered of a tray: by its images; 12 where it has none, and the rows are as they were
pub data Told (read : List ℕ → Answer) (each : ℕ) (tray counts codes : List ℕ) (answer : Outcome) : Type 0 where
  held : (images : List (List ℕ)) → IsTray each tray counts codes images → answer ≡ images_read read images counts codes → Told read each tray counts codes answer
  refused : NoTray each tray counts codes → answer ≡ outcome 12 counts codes → Told read each tray counts codes answer
