-- The theorems on a tray of dumps, for any reader of an image (document 02, P7).
--   many            the images of a tray are counted right
--   tray_of_images  the call on a tray of images answers 0, with rows that begin with what each of them alone reads as
--   tray_told       a tray has images and that is the answer, or it has none and the answer is 12 with the rows as they were
--   told_one        nothing else can be told of a tray
--   tray_refused    12 is met exactly where a tray has no images, and then the rows are as they were
--   never_other     the code is 0 or 12
--   has_images      with 0 there are images
--   entry_alone     with 0, an entry is what its image alone reads as
--   entry_kept      an entry past the images is what it was
--   rows_long       the rows keep their lengths
--   one_image       an image alone is a tray
use Prim.Native.Nat.{ℕ, ◌+◌, ◌-◌, ◌≤◌, ◌<◌}
use mathlib.Core.Path.{◌≡◌, refl, sym, ap, ◌∙◌}
use mathlib.Core.Bool.{Bool, true, false, ◌&&◌, true≢false}
use mathlib.Core.Logic.{◌⊎◌, inl, inr}
use mathlib.Core.List.{List, [], ◌∷◌, map, flatten, append-nil}
use native.Mathlib.Omega.{arith}
use lib.Dec.{leb}
use lib.ListN.{length, drop, get_or, length-append, length-map, length-drop, get_or-map, get_or-append}
use lib.Seq.{get_or-append-add, get_or-drop}
use borrow.Author.Tests.{le-leb, leb-true}
use Rattle.code.specs.Tabulate.{tabulate}
use Rattle.code.proofs.TabulateLaws.{at, filled}
use Rattle.counter.specs.declared.verdict.Answer.{Answer}
use Rattle.counter.proofs.RangeTests.{both_hold}
use Rattle.dumps.specs.Tray.{images_in, image_at, Outcome, outcome, tray_of}
use Rattle.dumps.specs.Images.{IsTray, NoTray, row_of, count_by, code_by, images_read, Told}
use Rattle.dumps.specs.Images.Told.{held, refused}
use Rattle.dumps.proofs.Images.{whole_number, whole_images}
use Rattle.dumps.proofs.Joined.{joined_long, image_at_lem, cut_up}

module _ (of : List ℕ → ℕ) (images : List (List ℕ)) (row : List ℕ) where
  entry_past : (i : ℕ) → length images ≤ i → get_or (row_of of images row) i 0 ≡ get_or row i 0
  entry_past i past =
      let front = length-map images of in
      let more = i - length images in
      let sum : i ≡ length (map of images) + more = omega (arith, front) in
      rw sum (get_or-append-add (map of images) _ more 0 ∙ get_or-drop (length images) row more 0 ∙ rw front)

  row_long : length images ≤ length row → length (row_of of images row) ≡ length row
  row_long room =
      omega (arith, length-map images of, length-drop (length images) row, length-append (map of images) (drop (length images) row))

-- the test of the call
abbrev passed : ℕ → List ℕ → List ℕ → Bool
passed n counts codes = leb 1 n && leb n (length counts) && leb n (length codes)

module _ {each : ℕ} {tray counts codes : List ℕ} {images : List (List ℕ)} (is : IsTray each tray counts codes images) where
  -- the images are counted right
  pub many : images_in each (length tray) ≡ length images
  many = rw (is.joined, joined_long each images is.alike) (whole_number each (length images) is.bytes is.most)

  passes : passed (images_in each (length tray)) counts codes ≡ true
  passes = rw (many, le-leb _ _ is.some, le-leb _ _ is.counted, le-leb _ _ is.coded)

  row_read : (of : List ℕ → ℕ) → map of images ≡ tabulate (λ i. of (image_at each tray i)) 0 (length images)
  row_read of = filled (λ i. of (image_at each tray i)) (of []) (map of images) (length images) (length-map images of) (λ i l.
      get_or-map of images i [] ∙ ap of (sym (rw is.joined (image_at_lem each images is.alike i l))))

  entry_read : (of : List ℕ → ℕ) (row : List ℕ) (i : ℕ) → i < length images
      → get_or (row_of of images row) i 0 ≡ of (image_at each tray i)
  entry_read of row i l =
      get_or-append (map of images) _ 0 i (rw (length-map images of) l)
      ∙ rw (row_read of) (at (λ i. of (image_at each tray i)) 0 (length images) i l)

  -- the images of a tray are what it is answered by
  pub tray_of_images : (read : List ℕ → Answer) → tray_of read each tray counts codes ≡ images_read read images counts codes
  unfolding tray_of
  tray_of_images read = rw (passes, many, row_read (count_by read), row_read (code_by read))

module _ (read : List ℕ → Answer) (each : ℕ) (tray counts codes : List ℕ) where
  abbrev n : ℕ
  n = images_in each (length tray)

  abbrev answered : Outcome
  answered = tray_of read each tray counts codes

  not_passed : passed n counts codes ≡ false → answered ≡ outcome 12 counts codes
  unfolding tray_of
  not_passed e = rw e

  -- a tray has images and they are the answer, or it has none and the answer is 12
  pub tray_told : Told read each tray counts codes answered
  tray_told = go (passed n counts codes) refl
    where
      go : (b : Bool) → passed n counts codes ≡ b → Told read each tray counts codes answered
      go false e = refused (λ images is. true≢false (sym (passes is) ∙ e)) (not_passed e)
      go true e =
          let (front, coded) = both_hold _ (leb n (length codes)) e in
          let (some, counted) = both_hold (leb 1 n) _ front in
          let whole = whole_images each (length tray) (leb-true _ _ some) in
          let (images, same, alike, joined) = cut_up each n tray whole.long in
          let is : IsTray each tray counts codes images = record {
            bytes = whole.some;
            alike = alike;
            joined = joined;
            some = rw same (leb-true _ _ some);
            most = rw same whole.most;
            counted = rw same (leb-true _ _ counted);
            coded = rw same (leb-true _ _ coded);
          } in
          held images is (tray_of_images is read)

  -- nothing else can be told of a tray
  pub told_one : {answer : Outcome} → Told read each tray counts codes answer → answer ≡ answered
  told_one (held images is same) = same ∙ sym (tray_of_images is read)
  told_one (refused none same) = elim tray_told [
    | held images is _ ↦ absurd (none images is)
    | refused _ same' ↦ same ∙ sym same'
  ]

  -- 12 is met exactly where a tray has no images, and then the rows are as they were
  pub tray_refused : (answered.code ≡ 12 → NoTray each tray counts codes × (answered ≡ outcome 12 counts codes))
      × (NoTray each tray counts codes → answered.code ≡ 12)
  tray_refused = elim tray_told [
    | held images is same ↦ rw same ((λ twelve. absurd (omega (arith, twelve))), (λ none. absurd (none images is)))
    | refused none same ↦ rw same ((λ _. (none, refl)), (λ _. refl))
  ]

  -- the code is 0 or 12
  pub never_other : (answered.code ≡ 0) ⊎ (answered.code ≡ 12)
  never_other = elim tray_told [
    | held _ _ same ↦ rw same (inl refl)
    | refused _ same ↦ rw same (inr refl)
  ]

  -- with 0 there are images
  pub has_images : answered.code ≡ 0 → (images : List (List ℕ)) × IsTray each tray counts codes images
  has_images good = elim tray_told [
    | held images is _ ↦ (images, is)
    | refused _ same ↦ absurd (omega (arith, rw same at good))
  ]

  -- with 0, an entry is what its image alone reads as
  pub entry_alone : answered.code ≡ 0 → (i : ℕ) → i < n
      → (get_or answered.counts i 0 ≡ (read (image_at each tray i)).count)
      × (get_or answered.codes i 0 ≡ (read (image_at each tray i)).code)
  entry_alone good i l =
      let (images, is) = has_images good in
      let l' : i < length images = rw (many is) at l in
      rw (tray_of_images is read) (entry_read is (count_by read) counts i l', entry_read is (code_by read) codes i l')

  -- an entry past the images is what it was
  pub entry_kept : (i : ℕ) → n ≤ i → (get_or answered.counts i 0 ≡ get_or counts i 0) × (get_or answered.codes i 0 ≡ get_or codes i 0)
  entry_kept i past = elim tray_told [
    | held images is same ↦
        let past' : length images ≤ i = rw (many is) at past in
        rw same (entry_past (count_by read) images counts i past', entry_past (code_by read) images codes i past')
    | refused _ same ↦ rw same (refl, refl)
  ]

  -- the rows keep their lengths
  pub rows_long : (length answered.counts ≡ length counts) × (length answered.codes ≡ length codes)
  rows_long = elim tray_told [
    | held images is same ↦
        rw same (row_long (count_by read) images counts is.counted, row_long (code_by read) images codes is.coded)
    | refused _ same ↦ rw same (refl, refl)
  ]

-- an image alone is a tray
pub one_image : (read : List ℕ → Answer) (image counts codes : List ℕ) → 1 ≤ length image → 1 ≤ length counts → 1 ≤ length codes
    → tray_of read (length image) image counts codes ≡ outcome 0 ((read image).count ∷ drop 1 counts) ((read image).code ∷ drop 1 codes)
unfolding flatten
one_image read image counts codes bytes counted coded =
    let is : IsTray (length image) image counts codes (image ∷ []) = record {
      bytes = bytes;
      alike = (refl, tt);
      joined = sym (append-nil image);
      some = omega arith;
      most = omega arith;
      counted = counted;
      coded = coded;
    } in
    tray_of_images is read
