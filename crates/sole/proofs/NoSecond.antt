-- No second answer: each public function's contract leaves one end (document 01, "What the promises owe", (a)). A theorem is
-- named after its function, or after both types of a conversion; they stand crate by crate.
use mathlib.Core.Path.{◌≡◌, refl, sym, ap, ◌∙◌}
use seplogic.Ra.Ura.{Ura}
use base.Logic.{SProp, ent, emp}
use contract.Conj.{conj}
use contract.Fact.{fact, guard-conj, conj-guard, fact_i}
use contract.Monad.{Fun}
use types.Logic.{Logic}
use prog.Memory.{Memory}
use prog.Routine.{Routine}
use Rattle.sole.specs.Sole.{Sole, left, handed, filled, filled_rows}
use Rattle.code.specs.contracts.codes.code_of
use Rattle.code.specs.contracts.codes.distance_of
use Rattle.code.specs.contracts.gray.gray_of
use Rattle.code.specs.contracts.gray.count_of
use Rattle.code.specs.contracts.gray.changed_bit
use Rattle.code.specs.contracts.nibbles.nibble_of
use Rattle.code.specs.contracts.nibbles.word_of
use Rattle.code.specs.contracts.reading.reading_at
use Rattle.code.specs.contracts.reading.twofold_at
use Rattle.code.specs.contracts.reading.reading_of
use Rattle.code.specs.contracts.reading.twofold_byte
use Rattle.code.specs.contracts.reading.is_lost
use Rattle.code.specs.contracts.reading.nibble_read
use Rattle.code.specs.contracts.mended.mended_bits
use Rattle.code.specs.contracts.table.lent
use Rattle.code.specs.contracts.table.laid
use Rattle.code.specs.contracts.table.wide
use Rattle.code.specs.contracts.table.entries_of
use Rattle.code.proofs.TabulateLaws.{alike}
use Rattle.code.specs.Tabulate.{tabulate}
use lib.ListN.{get_or}
use Rattle.cells.specs.contracts.put.put
use Rattle.cells.specs.contracts.mains.Mains.steady
use Rattle.cells.specs.contracts.mains.Mains.behind
use Rattle.cells.specs.contracts.mains.put_on
use Rattle.cells.specs.Cut.{put_shows, walk_shows, row_shows}
use Rattle.cells.proofs.Cuts.{says_one}
use Rattle.cells.specs.contracts.row.walk
use Rattle.cells.specs.contracts.row.put_row
use Rattle.counter.specs.contracts.doors.open as opens
use Rattle.counter.specs.contracts.doors.read
use Rattle.counter.specs.contracts.doors.read_count
use Rattle.counter.specs.contracts.doors.step
use Rattle.counter.specs.contracts.doors.part_of
use Rattle.counter.specs.contracts.doors.map_part
use Rattle.counter.specs.contracts.ends.ends_of
use Rattle.counter.specs.contracts.trials.trial_open
use Rattle.counter.specs.contracts.trials.trial_step
use Rattle.counter.specs.declared.verdict.Answer as verdict
use Rattle.counter.specs.declared.doors.ReadAnswer as reading
use Rattle.counter.specs.declared.doors.Part as doors
use Rattle.room.specs.declared.kept.Kept as keeping
use Rattle.room.specs.declared.left.Room as leaving
use Rattle.room.specs.Kept.{KeptOutcome}
use Rattle.room.specs.contracts.kept.kept_open
use Rattle.room.specs.contracts.kept.kept_step
use Rattle.room.specs.contracts.kept.kept_trial_open
use Rattle.room.specs.contracts.kept.kept_trial_step
use Rattle.room.specs.contracts.left.room_left
use Rattle.room.specs.contracts.left.room_of
use Rattle.lyre.specs.declared.Answer as plain
use Rattle.lyre.specs.declared.ReadAnswer as plain_reading
use Rattle.lyre.specs.declared.Part as plain_part
use Rattle.lyre.specs.declared.Kept as plain_kept
use Rattle.lyre.specs.declared.Room as plain_room
use Rattle.lyre.specs.declared.Hex as plain_hex
use Rattle.lyre.specs.declared.Card as plain_card
use Rattle.lyre.specs.declared.Text as plain_text
use Rattle.lyre.specs.contracts.lyre_open
use Rattle.lyre.specs.contracts.lyre_step
use Rattle.lyre.specs.contracts.lyre_read
use Rattle.lyre.specs.contracts.lyre_map_part
use Rattle.lyre.specs.contracts.lyre_trial_open
use Rattle.lyre.specs.contracts.lyre_trial_step
use Rattle.lyre.specs.contracts.lyre_kept_open
use Rattle.lyre.specs.contracts.lyre_kept_step
use Rattle.lyre.specs.contracts.lyre_kept_trial_open
use Rattle.lyre.specs.contracts.lyre_kept_trial_step
use Rattle.lyre.specs.contracts.lyre_room_left
use Rattle.lyre.specs.contracts.lyre_room_of
use Rattle.lyre.specs.contracts.lyre_hex_write
use Rattle.lyre.specs.contracts.lyre_hex_read
use Rattle.lyre.specs.contracts.lyre_card_at
use Rattle.lyre.specs.contracts.lyre_card_write
use Rattle.lyre.specs.contracts.lyre_tray
use Rattle.lyre.specs.contracts.AnswerFromVerdictAnswer.from as answer_from_verdict_answer
use Rattle.lyre.specs.contracts.ReadAnswerFromDoorsReadAnswer.from as read_answer_from_doors_read_answer
use Rattle.lyre.specs.contracts.PartFromDoorsPart.from as part_from_doors_part
use Rattle.lyre.specs.contracts.KeptFromKeptKept.from as kept_from_kept_kept
use Rattle.lyre.specs.contracts.RoomFromLeftRoom.from as room_from_left_room
use Rattle.lyre.specs.contracts.HexFromIntelhexAnswer.from as hex_from_intelhex_answer
use Rattle.lyre.specs.contracts.CardFromResultCardWearCardRefusal.from as card_from_result_card_wear_card_refusal
use Rattle.lyre.specs.contracts.TextFromResultUsizeCardRefusal.from as text_from_result_usize_card_refusal
use Rattle.intelhex.specs.declared.Answer as hex
use Rattle.intelhex.specs.Doors.{Outcome as Read, outcome as comes_to}
use Rattle.intelhex.proofs.Told.{written_alike, read_alike}
use Rattle.intelhex.specs.contracts.write_image
use Rattle.intelhex.specs.contracts.read_image
use Rattle.intelhex.specs.contracts.U32FromFault.from as u32_from_fault
use Rattle.intelhex.specs.contracts.AnswerFromRefusal.from as answer_from_refusal
use Rattle.intelhex.specs.contracts.AnswerFromResultUsizeRefusal.from as answer_from_result_usize_refusal
use Rattle.intelhex.specs.contracts.AnswerFromResultUnitRefusal.from as answer_from_result_unit_refusal
use Rattle.card.specs.Answers as card
use Rattle.card.specs.Doors.{Written, Outcome, left_by}
use Rattle.card.proofs.RoundTrip.{told_one}
use Rattle.card.proofs.Refused.{wear_in, chip_in, length_in, card_of, wear_back, chip_back, length_back, left_back, card_back}
use Rattle.card.specs.contracts.write_card
use Rattle.card.specs.contracts.write_rows
use Rattle.card.specs.contracts.read_card
use Rattle.card.specs.contracts.answer_at
use Rattle.card.specs.contracts.answer_of_text
use Rattle.card.specs.contracts.answer_of_chip
use Rattle.card.specs.contracts.U32FromRefusal.from as u32_from_refusal
use Rattle.dumps.specs.Tray.{Outcome as Filling, outcome, tray_code}
use Rattle.dumps.specs.declared.tray.NotATray.{NotATray}
use Rattle.dumps.specs.contracts.tray.read_tray
use Rattle.text.specs.Text.{Wrote}
use Rattle.text.specs.Reading.{Small}
use Rattle.text.proofs.Forms.{line_ends, seen, finds_one}
use Rattle.text.specs.contracts.reading.read_decimal_line
use Rattle.text.specs.contracts.write_byte
use Rattle.text.specs.contracts.write_bytes
use Rattle.text.specs.contracts.write_decimal
use Rattle.text.specs.contracts.decimal_length
use Rattle.text.specs.contracts.write_signed
use Rattle.text.specs.contracts.write_line
use Rattle.text.specs.contracts.Decimal.write
use Rattle.card.specs.declared.Refusal.{Refusal}
use Rattle.std.specs.Prelude.{Result, Ok, Err, cond, eqb, []}
use Prim.Native.Nat.{ℕ}
use mathlib.Core.List.{List}

-- an answer, that of read, a part, the room, the answer of Intel HEX and those of a card as they are laid out for C
abbrev answer_out : verdict.Answer → plain.Answer
answer_out a = record { code = a.code; count = a.count; lag = a.lag; place = a.place; writes = a.writes; tried = a.tried }

abbrev read_answer_out : reading.ReadAnswer → plain_reading.ReadAnswer
read_answer_out r =
    let a = r.answer in
    record { code = a.code; count = a.count; lag = a.lag; place = a.place; writes = a.writes; tried = a.tried; bit = r.bits }

abbrev part_out : doors.Part → plain_part.Part
part_out p = record { code = p.code; start = p.start; length = p.size }

abbrev room_out : leaving.Room → plain_room.Room
room_out r = record { high = r.high; low = r.low }

-- what a kept door gave, and as it is laid out for C
abbrev kept_given : KeptOutcome → keeping.Kept
kept_given v = record { answer = v.gives.says; ends = v.ends }

abbrev kept_laid : keeping.Kept → plain_kept.Kept
kept_laid k =
    let a = k.answer in
    record { code = a.code; count = a.count; lag = a.lag; place = a.place; writes = a.writes; tried = a.tried; high = k.ends.highest; low = k.ends.lowest }

abbrev kept_out : KeptOutcome → plain_kept.Kept
kept_out v = kept_laid (kept_given v)

abbrev hex_out : hex.Answer → plain_hex.Hex
hex_out a = record { code = a.code; line = a.line; length = a.length }

abbrev card_out : card.Answer → plain_card.Card
card_out a = record { code = a.code; used = a.used; left = a.left; time = a.time }

abbrev text_out : Written → plain_text.Text
text_out w = record { code = w.code; length = w.length }

-- a result of Intel HEX is seen by what it tells in numbers, and by the bytes as they are left
one_result : {R : Type 0} {one two : R} {first second : hex.Answer} {after after' : List ℕ} {gives : Read}
    → (first ≡ second → one ≡ two) → comes_to first after ≡ gives → comes_to second after' ≡ gives → filled one after ≡ filled two after'
one_result tells left right =
    let alike = left ∙ sym right in
    let result = tells (ap (λ (o : Read). o.answer) alike) in λ i. filled (result i) ((ap (λ (o : Read). o.left) alike) i)

-- bytes written are seen by where they end and by the text as it is left
one_text :
    {before bytes after after' : List ℕ} {at next next' : ℕ} → Wrote before at bytes next after → Wrote before at bytes next' after'
    → filled next after ≡ filled next' after'
one_text one two = λ i. filled ((one.ends ∙ sym two.ends) i) ((one.holds ∙ sym two.holds) i)

-- and so is a card that was written
written_one : (one two : Result ℕ Refusal) {after after' : List ℕ} {left : Outcome} → left_by one after ≡ left → left_by two after' ≡ left
    → filled one after ≡ filled two after'
written_one one two {after} {after'} first second =
    let same = first ∙ sym second in
    let result : one ≡ two = sym (length_back one after) ∙ ap length_in same ∙ length_back two after' in
    let text : after ≡ after' = sym (left_back one after) ∙ ap (λ (o : Outcome). o.after) same ∙ left_back two after' in
    λ i. filled (result i) (text i)

-- what a tray was answered, back from its code
abbrev tray_in : ℕ → Result Unit NotATray
tray_in code = cond (eqb code 0) (Ok tt) (Err (record {}))

tray_back : (r : Result Unit NotATray) → tray_in (tray_code r) ≡ r
tray_back (Ok _) = refl
tray_back (Err _) = refl

-- so it is seen by that result, and by the two rows as they are left
tray_one : (one two : Result Unit NotATray) {counts counts' codes codes' : List ℕ} {left : Filling}
    → outcome (tray_code one) counts codes ≡ left → outcome (tray_code two) counts' codes' ≡ left
    → filled_rows one counts codes ≡ filled_rows two counts' codes'
tray_one one two first second =
    let same = first ∙ sym second in
    let result : one ≡ two = sym (tray_back one) ∙ ap (λ (o : Filling). tray_in o.code) same ∙ tray_back two in
    λ i. filled_rows (result i) ((ap (λ (o : Filling). o.counts) same) i) ((ap (λ (o : Filling). o.codes) same) i)

module _ {M : Type 1} (𝓤 : Ura M) where
  -- what follows from two facts
  both : {φ ψ χ : Type 0} → (φ → ψ → χ) → ent 𝓤 (conj 𝓤 (fact 𝓤 φ) (fact 𝓤 ψ)) (fact 𝓤 χ)
  both {φ} {ψ} {χ} follows =
      guard-conj 𝓤 φ (emp 𝓤) (fact 𝓤 ψ)
      (λ one. conj-guard 𝓤 ψ (emp 𝓤) (emp 𝓤) (λ two. fact_i 𝓤 χ (conj 𝓤 (emp 𝓤) (emp 𝓤)) (follows one two)))

  -- of two that are equal to a third the same is seen
  same : {A B : Type 0} {x y z : A} (f : A → B) → ent 𝓤 (conj 𝓤 (fact 𝓤 (x ≡ z)) (fact 𝓤 (y ≡ z))) (fact 𝓤 (f x ≡ f y))
  same f = both (λ one two. ap f (one ∙ sym two))

  module _ (𝓛 : Logic 𝓤) (mem : Memory → SProp 𝓤) (run : Routine → Fun 𝓤) where
    pub code_of_one : Sole 𝓤 code_of.ended (code_of.clauses 𝓛 mem run) (λ κs r at. r)
    code_of_one _ _ _ _ _ _ _ = same (λ r. r)

    pub distance_of_one : Sole 𝓤 distance_of.ended (distance_of.clauses 𝓛 mem run) (λ κs r at. r)
    distance_of_one _ _ _ _ _ _ _ = same (λ r. r)

    pub gray_of_one : Sole 𝓤 gray_of.ended (gray_of.clauses 𝓛 mem run) (λ κs r at. r)
    gray_of_one _ _ _ _ _ _ _ = same (λ r. r)

    pub count_of_one : Sole 𝓤 count_of.ended (count_of.clauses 𝓛 mem run) (λ κs r at. r)
    count_of_one _ _ _ _ _ _ _ = same (λ r. r)

    pub changed_bit_one : Sole 𝓤 changed_bit.ended (changed_bit.clauses 𝓛 mem run) (λ κs r at. r)
    changed_bit_one _ _ _ _ _ _ _ = same (λ r. r)

    pub nibble_of_one : Sole 𝓤 nibble_of.ended (nibble_of.clauses 𝓛 mem run) (λ κs r at. r)
    nibble_of_one _ _ _ _ _ _ _ = same (λ r. r)

    pub word_of_one : Sole 𝓤 word_of.ended (word_of.clauses 𝓛 mem run) (λ κs r at. r)
    word_of_one _ _ _ _ _ _ _ = same (λ r. r)

    pub reading_at_one : Sole 𝓤 reading_at.ended (reading_at.clauses 𝓛 mem run) (λ κs r at. r)
    reading_at_one _ _ _ _ _ _ _ = same (λ r. r)

    pub twofold_at_one : Sole 𝓤 twofold_at.ended (twofold_at.clauses 𝓛 mem run) (λ κs r at. r)
    twofold_at_one _ _ _ _ _ _ _ = same (λ r. r)

    pub reading_of_one : Sole 𝓤 reading_of.ended (reading_of.clauses 𝓛 mem run) (λ κs r at. r)
    reading_of_one _ _ _ _ _ _ _ = same (λ r. r)

    pub twofold_byte_one : Sole 𝓤 twofold_byte.ended (twofold_byte.clauses 𝓛 mem run) (λ κs r at. r)
    twofold_byte_one _ _ _ _ _ _ _ = same (λ r. r)

    pub is_lost_one : Sole 𝓤 is_lost.ended (is_lost.clauses 𝓛 mem run) (λ κs r at. r)
    is_lost_one _ _ _ _ _ _ _ = same (λ r. r)

    pub nibble_read_one : Sole 𝓤 nibble_read.ended (nibble_read.clauses 𝓛 mem run) (λ κs r at. r)
    nibble_read_one _ _ _ _ _ _ _ = same (λ r. r)

    pub mended_bits_one : Sole 𝓤 mended_bits.ended (mended_bits.clauses 𝓛 mem run) (λ κs r at. r)
    mended_bits_one _ _ _ _ _ _ _ = same (λ r. r)

    pub lent_one : Sole 𝓤 lent.ended (lent.clauses 𝓛 mem run) (λ κs r at. r.now)
    lent_one _ _ _ _ _ _ _ = same (λ v. v)

    pub laid_one : Sole 𝓤 laid.ended (laid.clauses 𝓛 mem run) (λ κs r at. r)
    laid_one _ _ _ _ _ _ _ = same (λ r. r)

    -- an array of sixteen is seen by its sixteen entries
    pub entries_of_one : Sole 𝓤 entries_of.ended (entries_of.clauses 𝓛 mem run) (λ κs r at. tabulate (λ k. get_or r k 0) 0 16)
    entries_of_one _ _ _ one two _ _ = both (λ first second. alike (λ k. get_or one k 0) (λ k. get_or two k 0) 16 (λ k l. (first k l).0 ∙ sym (second k l).0))

    pub wide_one : Sole 𝓤 wide.ended (wide.clauses 𝓛 mem run) (λ κs r at. r)
    wide_one _ _ _ _ _ _ _ = both (λ one two. one.0 ∙ sym two.0)

    pub put_one : Sole 𝓤 put.ended (put.clauses 𝓛 mem run) (λ κs r at. left r (at.0.now) (at.1.0.now))
    put_one _ _ _ _ _ _ _ = same (λ v. left (record { held = v.answer; writes = v.writes }) v.after.cells v.after.lives)

    pub steady_one : Sole 𝓤 steady.ended (steady.clauses 𝓛 mem run) (λ κs r at. r)
    steady_one _ _ _ _ _ _ _ = both (λ one two. λ i. record { power = (one.0 ∙ sym two.0) i; torn = (one.1 ∙ sym two.1) i })

    pub behind_one : Sole 𝓤 behind.ended (behind.clauses 𝓛 mem run) (λ κs r at. r)
    behind_one _ _ _ _ _ _ _ = both (λ one two. λ i. record { power = (one.0 ∙ sym two.0) i; torn = (one.1 ∙ sym two.1) i })

    pub put_on_one : Sole 𝓤 put_on.ended (put_on.clauses 𝓛 mem run) (λ κs r at. left r (at.0.now) (at.1.0.now))
    put_on_one _ _ _ _ _ _ _ =
        both (λ one two. let e = says_one put_shows (λ x y t u p. (λ i. record { held = (p i).answer; writes = (p i).writes }, λ i. (p i).after)) _ _ _ _ one two in λ i. left (e.0 i) (e.1 i).cells (e.1 i).lives)

    pub walk_one : Sole 𝓤 walk.ended (walk.clauses 𝓛 mem run) (λ κs r at. left r (at.0.now) (at.1.0.now))
    walk_one _ _ _ _ _ _ _ =
        both (λ one two. let e = says_one walk_shows (λ x y t u p. (λ i. record { found = (p i).answer; writes = (p i).writes; tried = (p i).tried }, λ i. (p i).after)) _ _ _ _ one two in λ i. left (e.0 i) (e.1 i).cells (e.1 i).lives)

    pub put_row_one : Sole 𝓤 put_row.ended (put_row.clauses 𝓛 mem run) (λ κs r at. left r (at.0.now) (at.1.0.now))
    put_row_one _ _ _ _ _ _ _ =
        both (λ one two. let e = says_one row_shows (λ x y t u p. (λ i. record { failed = (p i).answer; writes = (p i).writes }, λ i. (p i).after)) _ _ _ _ one two in λ i. left (e.0 i) (e.1 i).cells (e.1 i).lives)

    pub open_one : Sole 𝓤 opens.ended (opens.clauses 𝓛 mem run) (λ κs r at. left r (at.0.now) (at.1.0.now))
    open_one _ _ _ _ _ _ _ = same (λ v. left v.says v.leaves.cells v.leaves.lives)

    pub step_one : Sole 𝓤 step.ended (step.clauses 𝓛 mem run) (λ κs r at. left r (at.0.now) (at.1.0.now))
    step_one _ _ _ _ _ _ _ = same (λ v. left v.says v.leaves.cells v.leaves.lives)

    pub trial_open_one : Sole 𝓤 trial_open.ended (trial_open.clauses 𝓛 mem run) (λ κs r at. left r (at.0.now) (at.1.0.now))
    trial_open_one _ _ _ _ _ _ _ = same (λ v. left v.says v.leaves.cells v.leaves.lives)

    pub trial_step_one : Sole 𝓤 trial_step.ended (trial_step.clauses 𝓛 mem run) (λ κs r at. left r (at.0.now) (at.1.0.now))
    trial_step_one _ _ _ _ _ _ _ = same (λ v. left v.says v.leaves.cells v.leaves.lives)

    pub read_one : Sole 𝓤 read.ended (read.clauses 𝓛 mem run) (λ κs r at. r)
    read_one _ _ _ _ _ _ _ = same (λ r. r)

    pub read_count_one : Sole 𝓤 read_count.ended (read_count.clauses 𝓛 mem run) (λ κs r at. r)
    read_count_one _ _ _ _ _ _ _ = same (λ r. r)

    pub part_of_one : Sole 𝓤 part_of.ended (part_of.clauses 𝓛 mem run) (λ κs r at. r)
    part_of_one _ _ _ _ _ _ _ = same (λ r. r)

    pub map_part_one : Sole 𝓤 map_part.ended (map_part.clauses 𝓛 mem run) (λ κs r at. handed r.ref_ptr r.now (at.1.1.1.0.now))
    map_part_one _ _ _ _ _ _ _ = both (λ one two. λ i. handed ((one.points ∙ sym two.points) i) ((one.holds ∙ sym two.holds) i) ((one.says ∙ sym two.says) i))

    pub ends_of_one : Sole 𝓤 ends_of.ended (ends_of.clauses 𝓛 mem run) (λ κs r at. r)
    ends_of_one _ _ _ _ _ _ _ = same (λ r. r)

    pub kept_open_one : Sole 𝓤 kept_open.ended (kept_open.clauses 𝓛 mem run) (λ κs r at. left r at.0.now at.1.0.now)
    kept_open_one _ _ _ _ _ _ _ = same (λ v. left (kept_given v) v.gives.leaves.cells v.gives.leaves.lives)

    pub kept_step_one : Sole 𝓤 kept_step.ended (kept_step.clauses 𝓛 mem run) (λ κs r at. left r at.0.now at.1.0.now)
    kept_step_one _ _ _ _ _ _ _ = same (λ v. left (kept_given v) v.gives.leaves.cells v.gives.leaves.lives)

    pub kept_trial_open_one : Sole 𝓤 kept_trial_open.ended (kept_trial_open.clauses 𝓛 mem run) (λ κs r at. left r at.0.now at.1.0.now)
    kept_trial_open_one _ _ _ _ _ _ _ = same (λ v. left (kept_given v) v.gives.leaves.cells v.gives.leaves.lives)

    pub kept_trial_step_one : Sole 𝓤 kept_trial_step.ended (kept_trial_step.clauses 𝓛 mem run) (λ κs r at. left r at.0.now at.1.0.now)
    kept_trial_step_one _ _ _ _ _ _ _ = same (λ v. left (kept_given v) v.gives.leaves.cells v.gives.leaves.lives)

    pub room_left_one : Sole 𝓤 room_left.ended (room_left.clauses 𝓛 mem run) (λ κs r at. r)
    room_left_one _ _ _ _ _ _ _ = same (λ r. r)

    pub room_of_one : Sole 𝓤 room_of.ended (room_of.clauses 𝓛 mem run) (λ κs r at. r)
    room_of_one _ _ _ _ _ _ _ = same (λ r. r)

    pub lyre_open_one : Sole 𝓤 lyre_open.ended (lyre_open.clauses 𝓛 mem run) (λ κs r at. left r (at.0.now) (at.1.0.now))
    lyre_open_one _ _ _ _ _ _ _ = same (λ v. left (answer_out v.says) v.leaves.cells v.leaves.lives)

    pub lyre_step_one : Sole 𝓤 lyre_step.ended (lyre_step.clauses 𝓛 mem run) (λ κs r at. left r (at.0.now) (at.1.0.now))
    lyre_step_one _ _ _ _ _ _ _ = same (λ v. left (answer_out v.says) v.leaves.cells v.leaves.lives)

    pub lyre_read_one : Sole 𝓤 lyre_read.ended (lyre_read.clauses 𝓛 mem run) (λ κs r at. r)
    lyre_read_one _ _ _ _ _ _ _ = same read_answer_out

    pub lyre_map_part_one : Sole 𝓤 lyre_map_part.ended (lyre_map_part.clauses 𝓛 mem run) (λ κs r at. r)
    lyre_map_part_one _ _ _ _ _ _ _ = same part_out

    pub lyre_trial_open_one : Sole 𝓤 lyre_trial_open.ended (lyre_trial_open.clauses 𝓛 mem run) (λ κs r at. left r (at.0.now) (at.1.0.now))
    lyre_trial_open_one _ _ _ _ _ _ _ = same (λ v. left (answer_out v.says) v.leaves.cells v.leaves.lives)

    pub lyre_trial_step_one : Sole 𝓤 lyre_trial_step.ended (lyre_trial_step.clauses 𝓛 mem run) (λ κs r at. left r (at.0.now) (at.1.0.now))
    lyre_trial_step_one _ _ _ _ _ _ _ = same (λ v. left (answer_out v.says) v.leaves.cells v.leaves.lives)

    pub lyre_tray_one : Sole 𝓤 lyre_tray.ended (lyre_tray.clauses 𝓛 mem run) (λ κs r at. outcome r (at.1.1.1.1.1.0.now) (at.1.1.1.1.1.1.0.now))
    lyre_tray_one _ _ _ _ _ _ _ = same (λ v. v)

    pub lyre_kept_open_one : Sole 𝓤 lyre_kept_open.ended (lyre_kept_open.clauses 𝓛 mem run) (λ κs r at. left r at.0.now at.1.0.now)
    lyre_kept_open_one _ _ _ _ _ _ _ = same (λ v. left (kept_out v) v.gives.leaves.cells v.gives.leaves.lives)

    pub lyre_kept_step_one : Sole 𝓤 lyre_kept_step.ended (lyre_kept_step.clauses 𝓛 mem run) (λ κs r at. left r at.0.now at.1.0.now)
    lyre_kept_step_one _ _ _ _ _ _ _ = same (λ v. left (kept_out v) v.gives.leaves.cells v.gives.leaves.lives)

    pub lyre_kept_trial_open_one : Sole 𝓤 lyre_kept_trial_open.ended (lyre_kept_trial_open.clauses 𝓛 mem run) (λ κs r at. left r at.0.now at.1.0.now)
    lyre_kept_trial_open_one _ _ _ _ _ _ _ = same (λ v. left (kept_out v) v.gives.leaves.cells v.gives.leaves.lives)

    pub lyre_kept_trial_step_one : Sole 𝓤 lyre_kept_trial_step.ended (lyre_kept_trial_step.clauses 𝓛 mem run) (λ κs r at. left r at.0.now at.1.0.now)
    lyre_kept_trial_step_one _ _ _ _ _ _ _ = same (λ v. left (kept_out v) v.gives.leaves.cells v.gives.leaves.lives)

    pub lyre_room_left_one : Sole 𝓤 lyre_room_left.ended (lyre_room_left.clauses 𝓛 mem run) (λ κs r at. r)
    lyre_room_left_one _ _ _ _ _ _ _ = same room_out

    pub lyre_room_of_one : Sole 𝓤 lyre_room_of.ended (lyre_room_of.clauses 𝓛 mem run) (λ κs r at. r)
    lyre_room_of_one _ _ _ _ _ _ _ = same room_out

    pub lyre_hex_write_one : Sole 𝓤 lyre_hex_write.ended (lyre_hex_write.clauses 𝓛 mem run) (λ κs r at. filled r (at.1.0.now))
    lyre_hex_write_one _ _ _ _ _ _ _ = same (λ v. filled (hex_out v.answer) v.left)

    pub lyre_hex_read_one : Sole 𝓤 lyre_hex_read.ended (lyre_hex_read.clauses 𝓛 mem run) (λ κs r at. filled r (at.1.0.now))
    lyre_hex_read_one _ _ _ _ _ _ _ = same (λ v. filled (hex_out v.answer) v.left)

    pub lyre_card_at_one : Sole 𝓤 lyre_card_at.ended (lyre_card_at.clauses 𝓛 mem run) (λ κs r at. r)
    lyre_card_at_one _ _ _ _ _ _ _ = both (λ one two. ap card_out (told_one one two))

    pub lyre_card_write_one : Sole 𝓤 lyre_card_write.ended (lyre_card_write.clauses 𝓛 mem run) (λ κs r at. filled r (at.1.1.1.1.0.now))
    lyre_card_write_one _ _ _ _ _ _ _ = same (λ v. filled (text_out v.written) v.after)

    -- what is laid out for C
    pub answer_from_verdict_answer_one : Sole 𝓤 answer_from_verdict_answer.ended (answer_from_verdict_answer.clauses 𝓛 mem run) (λ κs r at. r)
    answer_from_verdict_answer_one _ _ _ _ _ _ _ = same answer_out

    pub read_answer_from_doors_read_answer_one : Sole 𝓤 read_answer_from_doors_read_answer.ended (read_answer_from_doors_read_answer.clauses 𝓛 mem run) (λ κs r at. r)
    read_answer_from_doors_read_answer_one _ _ _ _ _ _ _ = same read_answer_out

    pub part_from_doors_part_one : Sole 𝓤 part_from_doors_part.ended (part_from_doors_part.clauses 𝓛 mem run) (λ κs r at. r)
    part_from_doors_part_one _ _ _ _ _ _ _ = same part_out

    pub kept_from_kept_kept_one : Sole 𝓤 kept_from_kept_kept.ended (kept_from_kept_kept.clauses 𝓛 mem run) (λ κs r at. r)
    kept_from_kept_kept_one _ _ _ _ _ _ _ = same kept_laid

    pub room_from_left_room_one : Sole 𝓤 room_from_left_room.ended (room_from_left_room.clauses 𝓛 mem run) (λ κs r at. r)
    room_from_left_room_one _ _ _ _ _ _ _ = same room_out

    pub hex_from_intelhex_answer_one : Sole 𝓤 hex_from_intelhex_answer.ended (hex_from_intelhex_answer.clauses 𝓛 mem run) (λ κs r at. r)
    hex_from_intelhex_answer_one _ _ _ _ _ _ _ = same hex_out

    pub card_from_result_card_wear_card_refusal_one : Sole 𝓤 card_from_result_card_wear_card_refusal.ended (card_from_result_card_wear_card_refusal.clauses 𝓛 mem run) (λ κs r at. r)
    card_from_result_card_wear_card_refusal_one _ _ _ _ _ _ _ = same card_out

    pub text_from_result_usize_card_refusal_one : Sole 𝓤 text_from_result_usize_card_refusal.ended (text_from_result_usize_card_refusal.clauses 𝓛 mem run) (λ κs r at. r)
    text_from_result_usize_card_refusal_one _ _ _ _ _ _ _ = both (λ one two. ap (λ (o : Outcome). text_out o.written) (one [] ∙ sym (two [])))

    pub write_image_one : Sole 𝓤 write_image.ended (write_image.clauses 𝓛 mem run) (λ κs r at. filled r (at.1.0.now))
    write_image_one _ _ _ one two _ _ = both (one_result (written_alike one two))

    pub read_image_one : Sole 𝓤 read_image.ended (read_image.clauses 𝓛 mem run) (λ κs r at. filled r (at.1.0.now))
    read_image_one _ _ _ one two _ _ = both (one_result (read_alike one two))

    pub u32_from_fault_one : Sole 𝓤 u32_from_fault.ended (u32_from_fault.clauses 𝓛 mem run) (λ κs r at. r)
    u32_from_fault_one _ _ _ _ _ _ _ = same (λ r. r)

    pub answer_from_refusal_one : Sole 𝓤 answer_from_refusal.ended (answer_from_refusal.clauses 𝓛 mem run) (λ κs r at. r)
    answer_from_refusal_one _ _ _ _ _ _ _ = same (λ r. r)

    pub answer_from_result_usize_refusal_one : Sole 𝓤 answer_from_result_usize_refusal.ended (answer_from_result_usize_refusal.clauses 𝓛 mem run) (λ κs r at. r)
    answer_from_result_usize_refusal_one _ _ _ _ _ _ _ = same (λ r. r)

    pub answer_from_result_unit_refusal_one : Sole 𝓤 answer_from_result_unit_refusal.ended (answer_from_result_unit_refusal.clauses 𝓛 mem run) (λ κs r at. r)
    answer_from_result_unit_refusal_one _ _ _ _ _ _ _ = same (λ r. r)

    pub write_byte_one : Sole 𝓤 write_byte.ended (write_byte.clauses 𝓛 mem run) (λ κs r at. filled r (at.1.0.now))
    write_byte_one _ _ _ _ _ _ _ = both one_text

    pub write_bytes_one : Sole 𝓤 write_bytes.ended (write_bytes.clauses 𝓛 mem run) (λ κs r at. filled r (at.1.0.now))
    write_bytes_one _ _ _ _ _ _ _ = both one_text

    pub write_decimal_one : Sole 𝓤 write_decimal.ended (write_decimal.clauses 𝓛 mem run) (λ κs r at. filled r (at.1.0.now))
    write_decimal_one _ _ _ _ _ _ _ = both one_text

    pub write_signed_one : Sole 𝓤 write_signed.ended (write_signed.clauses 𝓛 mem run) (λ κs r at. filled r (at.1.0.now))
    write_signed_one _ _ _ _ _ _ _ = both one_text

    -- whatever the number's type, and the text that it says of a number
    module _ (N : _) (shown : _) (written : _) (clone : _) (cloned : _) where
      pub write_line_one : Sole 𝓤 (write_line.ended N shown written clone cloned) (write_line.clauses N shown written clone cloned 𝓛 mem run) (λ κs r at. filled r (at.1.1.0.now))
      write_line_one _ _ _ _ _ _ _ = both one_text

      -- and of whatever writes such a number
      pub write_one : Sole 𝓤 (write.ended N shown written clone cloned) (write.clauses N shown written clone cloned 𝓛 mem run) (λ κs r at. filled r (at.1.0.now))
      write_one _ _ _ _ _ _ _ = both one_text

    pub decimal_length_one : Sole 𝓤 decimal_length.ended (decimal_length.clauses 𝓛 mem run) (λ κs r at. r)
    decimal_length_one _ _ _ _ _ _ _ = both (λ one two. one.0 ∙ sym two.0)

    pub read_decimal_line_one : Sole 𝓤 read_decimal_line.ended (read_decimal_line.clauses 𝓛 mem run) (λ κs r at. seen r)
    read_decimal_line_one _ _ _ one two _ _ = both (finds_one (line_ends _ Small) _ one two)

    pub write_card_one : Sole 𝓤 write_card.ended (write_card.clauses 𝓛 mem run) (λ κs r at. filled r (at.1.0.now))
    write_card_one _ _ _ one two _ _ = both (written_one one two)

    pub write_rows_one : Sole 𝓤 write_rows.ended (write_rows.clauses 𝓛 mem run) (λ κs r at. filled r (at.1.1.1.1.0.now))
    write_rows_one _ _ _ one two _ _ = both (written_one one two)

    pub read_card_one : Sole 𝓤 read_card.ended (read_card.clauses 𝓛 mem run) (λ κs r at. r)
    read_card_one _ _ _ one two _ _ = both (λ first second. sym (card_back one) ∙ ap card_of (told_one first second) ∙ card_back two)

    pub answer_at_one : Sole 𝓤 answer_at.ended (answer_at.clauses 𝓛 mem run) (λ κs r at. r)
    answer_at_one _ _ _ one two _ _ = both (λ first second. sym (wear_back one) ∙ ap wear_in (first ∙ sym second) ∙ wear_back two)

    pub answer_of_text_one : Sole 𝓤 answer_of_text.ended (answer_of_text.clauses 𝓛 mem run) (λ κs r at. r)
    answer_of_text_one _ _ _ one two _ _ = both (λ first second. sym (wear_back one) ∙ ap wear_in (told_one first second) ∙ wear_back two)

    pub answer_of_chip_one : Sole 𝓤 answer_of_chip.ended (answer_of_chip.clauses 𝓛 mem run) (λ κs r at. r)
    answer_of_chip_one _ _ _ one two _ _ = both (λ first second. sym (chip_back one) ∙ ap chip_in (first ∙ sym second) ∙ chip_back two)

    pub u32_from_refusal_one : Sole 𝓤 u32_from_refusal.ended (u32_from_refusal.clauses 𝓛 mem run) (λ κs r at. r)
    u32_from_refusal_one _ _ _ _ _ _ _ = same (λ r. r)

    pub read_tray_one : Sole 𝓤 read_tray.ended (read_tray.clauses 𝓛 mem run) (λ κs r at. filled_rows r (at.1.1.1.0.now) (at.1.1.1.1.0.now))
    read_tray_one _ _ _ one two _ _ = both (tray_one one two)
