-- What the doors answer, case by case: a text read, the answer of a text, and that of a chip.
use Prim.Native.Nat.{ℕ, ◌≤◌, ◌<◌}
use mathlib.Core.Path.{◌≡◌, sym, ap, ◌∙◌}
use mathlib.Core.Bool.{Bool, true, false, cond, ◌&&◌}
use mathlib.Core.List.{List}
use native.Mathlib.Decide.{dec_le, ℕ_discrete}
use native.Mathlib.Omega.{arith}
use borrow.Author.Tests.{eq-eqb, ne_eqb}
use lib.Dec.{eqb, leb}
use lib.ListN.{length, take, length-take}
use Rattle.std.specs.Prelude.{Some, None}
use Rattle.std.proofs.lemmas.Option.{none-some, same_Some}
use Rattle.counter.specs.declared.verdict.Answer as counter
use Rattle.card.specs.Cards.{Card, card, formed, Shows}
use Rattle.card.specs.declared.Card as held
use Rattle.card.specs.Answers.{Answer, limit_fault, fault_of, refused, answer_of, chip_refused, chip_answer_of}
use Rattle.card.specs.Doors.{card_in, in_places, laid_out, Read, read, unread, read_of, Told, shown, not_shown}
use Rattle.card.proofs.RunLaws.{in_form_lem, fault_none}
use Rattle.card.proofs.RowLaws.{row_in, row_past, speeds_take}
use Rattle.counter.proofs.RangeTests.{hold_both}
use Rattle.card.proofs.AnswerLaws.{answer_refused}

-- a card in form is refused for its limits alone
fault_formed : (runs : ℕ) (c : Card) → formed c ≡ true → fault_of runs c ≡ limit_fault c.allowed runs
unfolding fault_of
fault_formed runs c form = rw form

-- how many runs a card has
abbrev pub runs_in : Card → ℕ
runs_in c = length c.speeds

module _ (c : Card) where
  pub read_refused : (fault_of (runs_in c) c ≡ 0 → ⊥) → read_of c ≡ unread (fault_of (runs_in c) c)
  unfolding read_of
  read_refused fault = rw (ne_eqb (fault_of (runs_in c) c) 0 fault)

  pub read_good : fault_of (runs_in c) c ≡ 0 → read_of c ≡ read 0 c
  unfolding read_of
  read_good none = rw (eq-eqb (fault_of (runs_in c) c) 0 none)

  -- a card in form is not refused 5
  pub read_not_5 : formed c ≡ true → (read_of c).code ≡ 5 → ⊥
  unfolding read_of limit_fault
  read_not_5 form five =
      go (leb 1 c.allowed && leb c.allowed 1000000) (leb (runs_in c) 64) (rw (fault_formed (runs_in c) c form) at five)
    where
      go : (range few : Bool) → let fault : ℕ = cond range (cond few 0 4) 1 in (cond (eqb fault 0) (read 0 c) (unread fault)).code ≡ 5 → ⊥
      go true true five = omega (arith, five)
      go true false five = omega (arith, five)
      go false few five = omega (arith, five)

-- what was read of a text: the card that it shows, laid out in its places, or none
pub told_some : {text : List ℕ} {h : held.Card} → Told text (λ c. Some (laid_out c)) None (Some h) → (c : Card) × Shows text c × (h ≡ laid_out c)
told_some (shown c shows is) = (c, shows, same_Some _ _ is)
told_some (not_shown none is) = absurd (none-some _ (sym is))

-- the text of a card that is refused, and of one that is not
module _ {text : List ℕ} {h : held.Card} (reads : Told text (λ c. Some (laid_out c)) None (Some h)) {code : ℕ} (is : code ≡ limit_fault h.allowed h.runs) where
  same_fault : (c : Card) → Shows text c → h ≡ laid_out c → code ≡ fault_of (runs_in c) c
  same_fault c shows laid = is ∙ ap (λ (x : held.Card). limit_fault x.allowed x.runs) laid ∙ sym (fault_formed (runs_in c) c shows.formed)

  pub told_refused : (code ≡ 0 → ⊥) → Told text read_of (unread 5) (unread code)
  told_refused fault =
      let (c, shows, laid) = told_some reads in
      let same = same_fault c shows laid in
      shown c shows (ap unread same ∙ sym (read_refused c (λ none. fault (same ∙ none))))

  pub told_read : code ≡ 0 → Told text read_of (unread 5) (record { code = 0; card = h })
  told_read none =
      let (c, shows, laid) = told_some reads in
      shown c shows (ap (λ (x : held.Card). record { code = 0; card = x }) laid ∙ sym (read_good c (sym (same_fault c shows laid) ∙ none)))

-- a card that is laid out in its places is in them
pub card_in_lem : (c : Card) → formed c ≡ true → runs_in c ≤ 64 → card_in (laid_out c) ≡ c
card_in_lem c form few =
    let even = (in_form_lem c form).0 in
    let turns : take (runs_in c) (in_places c.turns) ≡ c.turns = rw (sym even) (row_in c.turns (rw even few)) in
    λ i. record { fitted = c.fitted; allowed = c.allowed; speeds = row_in c.speeds few i; turns = turns i }

-- a card with more runs than places is refused, as are the runs in its places
cut_fault : (c : Card) → formed c ≡ true → 64 < runs_in c → fault_of (runs_in c) (card_in (laid_out c)) ≡ fault_of (runs_in c) c
cut_fault c form many =
    let (even, all) = in_form_lem c form in
    let speeds = row_past (runs_in c) c.speeds (omega arith) (omega arith) in
    let turns = row_past (runs_in c) c.turns (omega arith) (omega arith) in
    let lengths : length (take 64 c.turns) ≡ length (take 64 c.speeds) = omega (arith, length-take 64 c.turns, length-take 64 c.speeds) in
    let cut = card c.fitted c.allowed (take 64 c.speeds) (take 64 c.turns) in
    rw (speeds, turns)
    (fault_formed (runs_in c) cut (hold_both _ _ (eq-eqb (length cut.turns) (length cut.speeds) lengths) (speeds_take 64 c.speeds all))
    ∙ sym (fault_formed (runs_in c) c form))

-- what a card answers whose runs are in their places
answer_laid : (c : Card) (count : ℕ) → formed c ≡ true → answer_of (runs_in c) (card_in (laid_out c)) count ≡ answer_of (runs_in c) c count
answer_laid c count form =
    elim (dec_le (runs_in c) 64) [
      | yes few ↦ ap (λ d. answer_of (runs_in c) d count) (card_in_lem c form few)
      | no many ↦
          let same = cut_fault c form (omega arith) in
          let own : fault_of (runs_in c) c ≡ 0 → ⊥ = λ none. many (fault_none (runs_in c) c none).3 in
          answer_refused (runs_in c) _ count (λ none. own (sym same ∙ none)) ∙ ap refused same ∙ sym (answer_refused (runs_in c) c count own)
    ]

pub told_answer : {text : List ℕ} {h : held.Card} (count : ℕ) → Told text (λ c. Some (laid_out c)) None (Some h)
    → {a : Answer} → a ≡ answer_of h.runs (card_in h) count → Told text (λ c. answer_of (runs_in c) c count) (refused 5) a
told_answer count reads answers =
    let (c, shows, laid) = told_some reads in
    shown c shows (answers ∙ ap (λ (x : held.Card). answer_of x.runs (card_in x) count) laid ∙ answer_laid c count shows.formed)

-- what is answered of a text, from what it was read as: by the card, or, where that is refused, by the number of the refusal
module _ {A : Type 0} (of : ℕ → Card → A) (refuse : ℕ → A) (refuses : (runs : ℕ) (c : Card) → (fault_of runs c ≡ 0 → ⊥) → of runs c ≡ refuse (fault_of runs c))
    {text : List ℕ} {r : Read} where
  pub told_not : Told text read_of (unread 5) r → (r.code ≡ 0 → ⊥) → {a : A} → a ≡ refuse r.code → Told text (λ c. of (runs_in c) c) (refuse 5) a
  told_not (shown c shows is) fault answers =
      let own : fault_of (runs_in c) c ≡ 0 → ⊥ = λ none. fault (ap (λ (x : Read). x.code) (is ∙ read_good c none)) in
      shown c shows (answers ∙ ap (λ (x : Read). refuse x.code) (is ∙ read_refused c own) ∙ sym (refuses (runs_in c) c own))
  told_not (not_shown none is) fault answers = not_shown none (answers ∙ ap (λ (x : Read). refuse x.code) is)

  pub told_by : Told text read_of (unread 5) r → r.code ≡ 0 → {a : A} → a ≡ of r.card.runs (card_in r.card)
      → Told text (λ c. of (runs_in c) c) (refuse 5) a
  told_by (shown c shows is) good answers =
      elim (ℕ_discrete (fault_of (runs_in c) c) 0) [
        | yes none ↦
            let (form, _, _, few) = fault_none (runs_in c) c none in
            shown c shows
            (answers
            ∙ ap (λ (x : Read). of x.card.runs (card_in x.card)) (is ∙ read_good c none)
            ∙ ap (of (runs_in c)) (card_in_lem c form few))
        | no fault ↦ absurd (fault (sym (ap (λ (x : Read). x.code) (is ∙ read_refused c fault)) ∙ good))
      ]
  told_by (not_shown none is) good answers = absurd (omega (arith, good, ap (λ (x : Read). x.code) is))

-- what is answered of a chip, from what it was read as
module _ (runs : ℕ) (c : Card) {says found : counter.Answer} (is : says ≡ found) {a : Answer} where
  pub chip_refused_lem : (says.code ≡ 0 → ⊥) → a ≡ refused (fault_of runs c) → record { read = says.code; answer = a } ≡ chip_answer_of runs c found
  unfolding chip_answer_of
  chip_refused_lem fault answers =
      rw (ne_eqb found.code 0 (λ good. fault (ap (λ (x : counter.Answer). x.code) is ∙ good))) (λ i. record { read = (is i).code; answer = answers i })

  pub chip_counted : says.code ≡ 0 → a ≡ answer_of runs c says.count → record { read = 0; answer = a } ≡ chip_answer_of runs c found
  unfolding chip_answer_of
  chip_counted good answers =
      rw (eq-eqb found.code 0 (sym (ap (λ (x : counter.Answer). x.code) is) ∙ good))
      (λ i. record { read = 0; answer = (answers ∙ ap (λ (x : counter.Answer). answer_of runs c x.count) is) i })

-- of a card that is refused the read's code stands beside its number, whatever the count is
pub chip_own : (found : counter.Answer) (runs : ℕ) (c : Card) → (fault_of runs c ≡ 0 → ⊥) → chip_answer_of runs c found ≡ chip_refused found (fault_of runs c)
unfolding chip_answer_of
chip_own found runs c fault =
    elim (ℕ_discrete found.code 0) [
      | yes good ↦ rw (eq-eqb found.code 0 good) (λ i. record { read = sym good i; answer = answer_refused runs c found.count fault i })
      | no refused ↦ rw (ne_eqb found.code 0 refused)
    ]
