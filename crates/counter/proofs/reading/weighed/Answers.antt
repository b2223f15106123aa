-- `reading::weighed` meets its contract: the entries tell what the bytes come to.
use Rattle.std.proofs.Common.{◌≡◌, ◌+◌, ◌&&◌, ◌||◌, sym, ◌∙◌}
use Rattle.code.specs.Readings.{is_lost}
use Rattle.code.specs.Entries.{reading_at, twofold_at}
use Rattle.counter.specs.declared.verdict.Refusal.TheVariants.{TwoCodes, LostNibble}
use Rattle.counter.specs.Slots.{lowest}
use Rattle.counter.specs.Reading.{weigh, on_found, count_in, decide}
use Rattle.counter.specs.Inside.{listed}
use Rattle.counter.proofs.Weighed.{weigh_entries}
use Rattle.counter.specs.Layout.{two}
use Rattle.counter.proofs.reading.weighed.Goals as goal

pub returns-in-Some : goal.returns-in-Some
returns-in-Some c =
    let told : let byte = listed c.args.«data».now in let entry = listed c.entries_of-entries.result in weigh two byte
    ≡ on_found (lowest 8 0 (λ n. twofold_at (entry n) || twofold_at (entry (8 + n)))) TwoCodes
    (on_found (lowest 8 0 (λ n. is_lost (reading_at (entry n)) && is_lost (reading_at (entry (8 + n))))) LostNibble
    (decide (count_in two (λ k. reading_at (entry k)) 0) (count_in two (λ k. reading_at (entry k)) 1))) =
    weigh_entries _ _ (λ k l. (c.entries_of-entries.ensures k l).1) (λ k l. (c.entries_of-entries.ensures k l).0) in sym (told ∙ rw (sym (c.lowest_amiss.ensures _ (λ a b says small little e. e)) ∙ c.in-Some.is))

pub returns-in-Some-lowest_amiss : goal.returns-in-Some-lowest_amiss
returns-in-Some-lowest_amiss c =
    let told : let byte = listed c.args.«data».now in let entry = listed c.entries_of-entries.result in weigh two byte
    ≡ on_found (lowest 8 0 (λ n. twofold_at (entry n) || twofold_at (entry (8 + n)))) TwoCodes
    (on_found (lowest 8 0 (λ n. is_lost (reading_at (entry n)) && is_lost (reading_at (entry (8 + n))))) LostNibble
    (decide (count_in two (λ k. reading_at (entry k)) 0) (count_in two (λ k. reading_at (entry k)) 1))) =
    weigh_entries _ _ (λ k l. (c.entries_of-entries.ensures k l).1) (λ k l. (c.entries_of-entries.ensures k l).0) in
    sym (told ∙ rw (sym (c.lowest_amiss.ensures _ (λ a b says small little e. e)) ∙ c.in_default.is) (rw (sym (c.lowest_amiss-2.ensures _ (λ a b says small little e. e)) ∙ c.in-Some-lowest_amiss.is)))

pub returns : goal.returns
returns c =
    let told : let byte = listed c.args.«data».now in let entry = listed c.entries_of-entries.result in weigh two byte
    ≡ on_found (lowest 8 0 (λ n. twofold_at (entry n) || twofold_at (entry (8 + n)))) TwoCodes
    (on_found (lowest 8 0 (λ n. is_lost (reading_at (entry n)) && is_lost (reading_at (entry (8 + n))))) LostNibble
    (decide (count_in two (λ k. reading_at (entry k)) 0) (count_in two (λ k. reading_at (entry k)) 1))) =
    weigh_entries _ _ (λ k l. (c.entries_of-entries.ensures k l).1) (λ k l. (c.entries_of-entries.ensures k l).0) in
    c.decided.ensures
    ∙ rw (c.count_in.ensures, c.count_in-2.ensures)
    (sym (told ∙ rw (sym (c.lowest_amiss.ensures _ (λ a b says small little e. e)) ∙ c.in_default.is) (rw (sym (c.lowest_amiss-2.ensures _ (λ a b says small little e. e)) ∙ c.in_default-lowest_amiss.is))))
