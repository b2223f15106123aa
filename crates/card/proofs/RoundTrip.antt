-- The theorems on a card's text (document 02, P4).
--   texts_differ   different cards in form have different texts
--   told_one       a text determines what is answered of it
--   read_written   reading what was written gives the card
--   written_read   writing what was read gives the text
--   refused_5      refusal 5 is met exactly where a text shows no card
--   write_keeps    a refusal leaves the lent text as it was
use Prim.Native.Nat.{ℕ, ◌≤◌}
use mathlib.Core.Path.{◌≡◌, refl, sym, ap, ◌∙◌}
use mathlib.Core.Bool.{true}
use mathlib.Core.List.{List, ◌++◌}
use native.Mathlib.Decide.{dec_le, ℕ_discrete}
use native.Mathlib.Omega.{arith}
use borrow.Author.Tests.{le-ltb}
use lib.ListN.{length, take, drop}
use lib.Seq.{take-append_seam}
use Rattle.card.specs.Cards.{Card, formed, text_of, Fits, Shows}
use Rattle.card.specs.Answers.{fault_of}
use Rattle.card.specs.Doors.{card_in, Outcome, Read, outcome, copied, write_of, read, unread, read_of, Told, shown, not_shown}
use Rattle.card.proofs.RunLaws.{no_fault, fault_none}
use Rattle.card.proofs.ShowLaws.{shows_one}
use Rattle.card.proofs.WriteLaws.{copied_short, write_refused, write_copied}
use Rattle.card.proofs.DoorLaws.{runs_in, read_refused, read_good, read_not_5, card_in_lem}

-- different cards in form have different texts
pub texts_differ : (c d : Card) → formed c ≡ true → formed d ≡ true → Fits c → Fits d → text_of c ≡ text_of d → c ≡ d
texts_differ c d form form' fits fits' same =
    shows_one (record { formed = form; fits = fits; written = refl }) (record { formed = form'; fits = fits'; written = same })

-- a text determines what is answered of it
pub told_one : {A : Type 0} {text : List ℕ} {of : Card → A} {otherwise a b : A} → Told text of otherwise a → Told text of otherwise b → a ≡ b
told_one {of = of} (shown c shows is) (shown d shows' is') = is ∙ ap of (shows_one shows shows') ∙ sym is'
told_one (shown c shows is) (not_shown none is') = absurd (none c shows)
told_one (not_shown none is) (shown c shows is') = absurd (none c shows)
told_one (not_shown none is) (not_shown none' is') = is ∙ sym is'

-- a text with room for it
copied_room : (whole text : List ℕ) → length whole ≤ length text → outcome 0 (length whole) (whole ++ drop (length whole) text) ≡ copied whole text
unfolding copied
copied_room whole text room = rw (le-ltb (length text) (length whole) room)

-- what a card that is written leaves: its text, and what stood past it
written_is : (runs : ℕ) (c : Card) (text : List ℕ) → (write_of runs c text).written.code ≡ 0
    → (fault_of runs c ≡ 0) × (write_of runs c text ≡ outcome 0 (length (text_of c)) (text_of c ++ drop (length (text_of c)) text))
written_is runs c text good =
    elim (ℕ_discrete (fault_of runs c) 0) [
      | yes none ↦
          let whole = sym (write_copied runs c text refl none) in
          elim (dec_le (length (text_of c)) (length text)) [
            | yes room ↦ (none, whole ∙ sym (copied_room (text_of c) text room))
            | no short ↦
                let six = whole ∙ sym (copied_short (text_of c) text (omega arith)) in
                absurd (omega (arith, good, ap (λ (o : Outcome). o.written.code) six))
          ]
      | no fault ↦ absurd (fault (ap (λ (o : Outcome). o.written.code) (write_refused runs c text refl fault) ∙ good))
    ]

-- reading what was written gives the card, which may have said that it has more runs than it has
pub read_written : (runs : ℕ) (c : Card) (text : List ℕ) {r : Read} → Fits c → runs_in c ≤ runs → (write_of runs c text).written.code ≡ 0
    → Told (take (write_of runs c text).written.length (write_of runs c text).after) read_of (unread 5) r
    → (r ≡ read 0 c) × (card_in r.card ≡ c)
read_written runs c text {r} fits least good told =
    let (none, wrote) = written_is runs c text good in
    let (form, low, high, few) = fault_none runs c none in
    let few' : runs_in c ≤ 64 = omega arith in
    let front : take (write_of runs c text).written.length (write_of runs c text).after ≡ text_of c
    = rw wrote (take-append_seam (text_of c) (drop (length (text_of c)) text)) in
    let shows = shown c (record { formed = form; fits = fits; written = front }) refl in
    let is : r ≡ read 0 c = told_one told shows ∙ read_good c (no_fault (runs_in c) c form low high few') in
    (is, ap (λ (x : Read). card_in x.card) is ∙ card_in_lem c form few')

-- writing what was read gives the text
pub written_read : (text room : List ℕ) {r : Read} → Told text read_of (unread 5) r → r.code ≡ 0 → length text ≤ length room
    → write_of r.card.runs (card_in r.card) room ≡ outcome 0 (length text) (text ++ drop (length text) room)
written_read text room (shown c shows is) good enough =
    elim (ℕ_discrete (fault_of (runs_in c) c) 0) [
      | yes none ↦
          let (form, _, _, few) = fault_none (runs_in c) c none in
          ap (λ (x : Read). write_of x.card.runs (card_in x.card) room) (is ∙ read_good c none)
          ∙ ap (λ d. write_of (runs_in c) d room) (card_in_lem c form few)
          ∙ sym (write_copied (runs_in c) c room refl none)
          ∙ ap (λ whole. copied whole room) (sym shows.written)
          ∙ sym (copied_room text room enough)
      | no fault ↦ absurd (fault (sym (ap (λ (x : Read). x.code) (is ∙ read_refused c fault)) ∙ good))
    ]
written_read text room (not_shown none is) good enough = absurd (omega (arith, good, ap (λ (x : Read). x.code) is))

-- refusal 5 is met exactly where a text shows no card
pub refused_5 : (text : List ℕ) {r : Read} → Told text read_of (unread 5) r
    → (r.code ≡ 5 → (c : Card) → Shows text c → ⊥) × (((c : Card) → Shows text c → ⊥) → r.code ≡ 5)
refused_5 text (shown c shows is) =
    ((λ five _ _. read_not_5 c shows.formed (sym (ap (λ (x : Read). x.code) is) ∙ five)), (λ none. absurd (none c shows)))
refused_5 text (not_shown none is) = ((λ five. none), (λ none'. ap (λ (x : Read). x.code) is))

-- a refusal leaves the lent text as it was
pub write_keeps : (runs : ℕ) (c : Card) (text : List ℕ) → ((write_of runs c text).written.code ≡ 0 → ⊥) → (write_of runs c text).after ≡ text
write_keeps runs c text refused =
    elim (ℕ_discrete (fault_of runs c) 0) [
      | yes none ↦
          let whole = sym (write_copied runs c text refl none) in
          elim (dec_le (length (text_of c)) (length text)) [
            | yes room ↦
                absurd (refused (ap (λ (o : Outcome). o.written.code) (whole ∙ sym (copied_room (text_of c) text room))))
            | no short ↦ ap (λ (o : Outcome). o.after) (whole ∙ sym (copied_short (text_of c) text (omega arith)))
          ]
      | no fault ↦ ap (λ (o : Outcome). o.after) (sym (write_refused runs c text refl fault))
    ]
