-- What a tray of chips tells of images that cannot be read, for chips of any layout (document 02, P7).
--   refused_entry   with 0, an entry whose code is not 0 has count 0
--   unsized_entry   where the length of an image is not good, the code of each is 1
--   unplaced_entry  else, where the settings are not, it is 2
use Prim.Native.Nat.{ℕ, ◌*◌, ◌<◌}
use mathlib.Core.Path.{◌≡◌, ◌∙◌}
use mathlib.Core.Bool.{true, false}
use mathlib.Core.List.{List}
use native.Mathlib.Omega.{arith}
use lib.ListN.{length, drop, get_or, length-drop}
use lib.Seq.{length-take-le}
use Rattle.counter.specs.declared.places.Places.{Places}
use Rattle.counter.specs.declared.layout.Layout.{Layout}
use Rattle.counter.specs.Places.{length_good, places_good}
use Rattle.counter.specs.Doors.{read_of}
use Rattle.counter.proofs.DoorAnswers.{read_uncounted, read_unsized, read_unplaced}
use Rattle.dumps.specs.Tray.{images_in, image_at, Outcome, tray_of}
use Rattle.dumps.proofs.Rows.{next_inside}
use Rattle.dumps.proofs.Images.{whole_images}
use Rattle.dumps.proofs.Trays.{entry_alone}

module _ (layout : Layout) (p : Places) (each : ℕ) (tray counts codes : List ℕ) where
  abbrev answered : Outcome
  answered = tray_of (read_of layout p) each tray counts codes

  abbrev n : ℕ
  n = images_in each (length tray)

  module _ (good : answered.code ≡ 0) (i : ℕ) (inside : i < n) where
    abbrev image : List ℕ
    image = image_at each tray i

    alone : (get_or answered.counts i 0 ≡ (read_of layout p image).count) × (get_or answered.codes i 0 ≡ (read_of layout p image).code)
    alone = entry_alone (read_of layout p) each tray counts codes good i inside

    long : length image ≡ each
    long =
        let whole = whole_images each (length tray) (omega (arith, inside)) in
        length-take-le each (drop (i * each) tray) (omega (arith, length-drop (i * each) tray, next_inside each n i inside, whole.long))

    -- an entry whose code is not 0 has count 0
    pub refused_entry : (get_or answered.codes i 0 ≡ 0 → ⊥) → get_or answered.counts i 0 ≡ 0
    refused_entry other = alone.0 ∙ read_uncounted layout p image (λ zero. other (alone.1 ∙ zero))

    -- where the length of an image is not good, the code is 1
    pub unsized_entry : length_good layout each ≡ false → get_or answered.codes i 0 ≡ 1
    unsized_entry unsized = alone.1 ∙ read_unsized layout p image (rw long unsized)

    -- else, where the settings are not, it is 2
    pub unplaced_entry : length_good layout each ≡ true → places_good layout each p ≡ false → get_or answered.codes i 0 ≡ 2
    unplaced_entry sized unplaced = alone.1 ∙ read_unplaced layout p image (rw long sized) (rw long unplaced)
