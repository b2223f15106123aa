-- A tray of dumps (document 02, P7): images of equal length, one behind another, each read as if it were alone.
use Rattle.std.specs.Prelude.{ℕ, ◌*◌, ◌/◌, ◌%◌, cond, ◌&&◌, List, ◌++◌, leb, eqb, length, take, drop, Result, Ok, Err}
use Rattle.code.specs.Tabulate.{tabulate}
use Rattle.counter.specs.declared.verdict.Answer.{Answer}
use Rattle.dumps.specs.declared.tray.NotATray.{NotATray}

-- how many images a tray holds at most
abbrev pub most_images : ℕ
most_images = 64

-- how many images of so many bytes each make this length; 0 where no whole number does, or more than a tray holds
unfoldable pub images_in : ℕ → ℕ → ℕ
images_in each long = cond (leb 1 each && eqb (long % each) 0 && leb (long / each) most_images) (long / each) 0

-- image i, counted from 0
abbrev pub image_at : ℕ → List ℕ → ℕ → List ℕ
image_at each tray i = take each (drop (i * each) tray)

-- a row whose first n entries are the function's; those past them stay
abbrev pub filled : (ℕ → ℕ) → ℕ → List ℕ → List ℕ
filled entry n row = tabulate entry 0 n ++ drop n row

-- what a call leaves: its code, and the two rows
pub record Outcome : Type 0 where
  pub code : ℕ
  pub counts : List ℕ
  pub codes : List ℕ

abbrev pub outcome : ℕ → List ℕ → List ℕ → Outcome
outcome code counts codes = record { code = code; counts = counts; codes = codes }

-- the code of a result
abbrev pub tray_code : Result Unit NotATray → ℕ
tray_code (Ok _) = 0
tray_code (Err _) = 12

-- the rows filled with what reading each of n images alone answers
abbrev pub each_read : (List ℕ → Answer) → ℕ → ℕ → List ℕ → List ℕ → List ℕ → Outcome
each_read read each n tray counts codes =
    let answer : ℕ → Answer = λ i. read (image_at each tray i) in
    outcome 0 (filled (λ i. (answer i).count) n counts) (filled (λ i. (answer i).code) n codes)

-- the call, given how an image is read: 12 where the tray is not 1 to 64 whole images or a row is shorter than their number; then the rows
-- stay
unfoldable pub tray_of : (List ℕ → Answer) → ℕ → List ℕ → List ℕ → List ℕ → Outcome
tray_of read each tray counts codes =
    let n = images_in each (length tray) in
    let answered = each_read read each n tray counts codes in
    cond (leb 1 n && leb n (length counts) && leb n (length codes)) answered (outcome 12 counts codes)
