-- What the call's answer means where each row has an entry for as many images as a tray holds: code 0 is a tray whose lines are
-- those of the rows, any other is none.
use Prim.Native.Nat.{ℕ, ◌+◌, ◌/◌, ◌≤◌, ◌<◌}
use mathlib.Core.Path.{◌≡◌, refl, ap}
use mathlib.Core.List.{List, flatten}
use native.Mathlib.Omega.{arith}
use borrow.Author.Tests.{ne_eqb}
use lib.ListN.{length, get_or}
use Rattle.code.proofs.TabulateLaws.{alike}
use Rattle.counter.specs.Layout.{two}
use Rattle.counter.specs.Places.{setting_a}
use Rattle.counter.specs.Doors.{read_of}
use Rattle.dumps.specs.Tray.{most_images, outcome, tray_of}
use Rattle.dumps.proofs.TrayEntries.{Entries, entries_read, none_read}
use Rattle.tray.specs.Prints.{line_of, lines_of, image_long, images_of, answer_at, refusal, told_of}

module _ (tray counts codes : List ℕ) {says : ℕ} {left-counts left-codes : List ℕ}
    (same : outcome says left-counts left-codes ≡ tray_of (read_of two setting_a) image_long tray counts codes) where
  -- there is no tray
  pub refused : most_images ≤ length counts → most_images ≤ length codes → (says ≡ 0 → ⊥)
      → (images_of tray ≡ 0) × (told_of tray ≡ refusal)
  unfolding told_of
  refused counts-room codes-room other =
      let none = none_read (read_of two setting_a) image_long tray counts codes same counts-room codes-room other in
      (none, rw none refl)

  module _ (good : says ≡ 0) where
    entries : Entries (read_of two setting_a) image_long tray left-counts left-codes (images_of tray)
    entries = entries_read (read_of two setting_a) image_long tray counts codes same good

    -- there are as many images as there are lengths of one in the tray, and no more than a tray holds
    many : images_of tray ≡ length tray / image_long
    many = omega (arith, entries.long)

    pub few : length tray / image_long ≤ most_images
    few = omega (arith, many, entries.most)

    -- their lines are those of the rows
    line_read : (i : ℕ) → i < images_of tray
        → line_of (i + 1) (answer_at tray i).code (answer_at tray i).count ≡ line_of (i + 1) (get_or left-codes i 0) (get_or left-counts i 0)
    line_read i inside = rw (entries.code i inside, entries.count i inside)

    pub told : (0 < images_of tray)
        × (told_of tray ≡ lines_of (λ i. get_or left-codes i 0) (λ i. get_or left-counts i 0) (length tray / image_long))
    unfolding told_of
    told = (
      entries.some,
      rw (ne_eqb (images_of tray) 0 (λ none. omega (arith, none, entries.some)), ← many)
          (ap flatten (alike _ _ (images_of tray) line_read)),
    )
