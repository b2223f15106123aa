-- What a caller learns from the code of a tray's answer (document 02, P7).
--   Entries, entries_read  with 0 there are images, which make the tray's length, and the entries of each are what it alone reads as
--   none_read              with another code there is none, if both rows have an entry for as many as a tray holds
--   read_code, refused_code  the code is 0 where the call read the tray, and another where it refused it
use Prim.Native.Nat.{ℕ, ◌*◌, ◌≤◌, ◌<◌}
use mathlib.Core.Path.{◌≡◌, refl, sym, ap, ◌∙◌}
use mathlib.Core.Bool.{true, false}
use mathlib.Core.List.{List}
use native.Mathlib.Decide.{dec_le}
use native.Mathlib.Omega.{arith}
use borrow.Author.Tests.{le-leb}
use lib.ListN.{length, get_or}
use Rattle.counter.specs.declared.verdict.Answer.{Answer}
use Rattle.std.specs.Prelude.{Result, Ok, Err, is_err}
use Rattle.dumps.specs.declared.tray.NotATray.{NotATray}
use Rattle.dumps.specs.Tray.{most_images, images_in, image_at, Outcome, outcome, tray_of, tray_code}
use Rattle.dumps.proofs.Images.{whole_images}
use Rattle.dumps.proofs.Trays.{many, has_images, entry_alone}

-- n images make the tray's length, and the entries of each are what it alone reads as
pub record Entries (read : List ℕ → Answer) (each : ℕ) (tray counts codes : List ℕ) (n : ℕ) : Type 0 where
  pub some : 1 ≤ n
  pub most : n ≤ most_images
  pub long : length tray ≡ n * each
  pub count : (i : ℕ) → i < n → get_or counts i 0 ≡ (read (image_at each tray i)).count
  pub code : (i : ℕ) → i < n → get_or codes i 0 ≡ (read (image_at each tray i)).code

module _ (read : List ℕ → Answer) (each : ℕ) (tray counts codes : List ℕ)
    {says : ℕ} {left-counts left-codes : List ℕ} (same : outcome says left-counts left-codes ≡ tray_of read each tray counts codes) where
  abbrev n : ℕ
  n = images_in each (length tray)

  code_same : says ≡ (tray_of read each tray counts codes).code
  code_same = ap (λ (o : Outcome). o.code) same

  pub entries_read : says ≡ 0 → Entries read each tray left-counts left-codes n
  entries_read good =
      let zero = sym code_same ∙ good in
      let (_, is) = has_images read each tray counts codes zero in
      let some : 1 ≤ n = rw (many is) is.some in
      let whole = whole_images each (length tray) some in
      let alone = entry_alone read each tray counts codes zero in
      record {
        some = some;
        most = whole.most;
        long = whole.long;
        count = λ i inside. ap (λ (o : Outcome). get_or o.counts i 0) same ∙ (alone i inside).0;
        code = λ i inside. ap (λ (o : Outcome). get_or o.codes i 0) same ∙ (alone i inside).1;
      }

  pub none_read : most_images ≤ length counts → most_images ≤ length codes → (says ≡ 0 → ⊥) → n ≡ 0
  unfolding tray_of
  none_read counts-room codes-room other = elim (dec_le 1 n) [
    | yes some ↦
        let most = (whole_images each (length tray) some).most in
        absurd (other (code_same ∙ rw (le-leb 1 n some, le-leb n (length counts) (omega arith), le-leb n (length codes) (omega arith))))
    | no none ↦ omega arith
  ]

pub read_code : (r : Result Unit NotATray) → is_err r ≡ false → tray_code r ≡ 0
read_code (Ok _) _ = refl
read_code (Err _) other = cc

pub refused_code : (r : Result Unit NotATray) → is_err r ≡ true → tray_code r ≡ 0 → ⊥
refused_code (Ok _) other _ = cc
refused_code (Err _) _ zero = omega (arith, zero)
