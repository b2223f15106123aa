-- Reading two copies, by the bytes of the slots or by their entries in the table of readings.
--   nibble_two                a nibble of one copy takes the other's where it is lost
--   weigh_same                bytes that agree on all slots come to the same
--   weigh_entries             what the bytes come to, by their entries
use Rattle.std.proofs.Common.{◌≡◌, ℕ, zero, suc, ◌+◌, ◌-◌, ◌*◌, ◌<◌, cond, ◌&&◌, ◌||◌, List, sym, refl, ap, ◌∙◌, zero-add, arith}
use Rattle.code.specs.declared.reading.Reading.{Reading}
use Rattle.code.specs.Readings.{reading_of, twofold, is_lost, nibble_read}
use Rattle.code.specs.Entries.{reading_at, twofold_at, entry_of}
use Rattle.code.specs.Gray.{count_of}
use Rattle.code.specs.Nibbles.{word_of}
use Rattle.code.proofs.ReadingLaws.{entry_reading, entry_twofold, lost_zero, read_or_lent}
use Rattle.code.proofs.TabulateLaws.{alike}
use Rattle.counter.specs.declared.verdict.Refusal.TheVariants.{TwoCodes, LostNibble}
use Rattle.counter.specs.Layout.{two}
use Rattle.counter.specs.Slots.{every, some, lowest}
use Rattle.counter.specs.Reading.{first_read, nibble_in, count_in, some_twofold, lost_at, decide, on_found, weigh}
use Rattle.counter.proofs.RangeTests.{every_same, some_same, lowest_same}

-- the nibble of a reading, by way of a test that it is not lost
kept : (r : Reading) → cond (is_lost r) 0 (nibble_read r) ≡ nibble_read r
kept r = read_or_lent r 0 (nibble_read r) (λ e. refl) (λ e. sym (lost_zero r e))

-- a nibble of one copy takes the other's where it is lost
pub nibble_two : (reading : ℕ → Reading) (copy n : ℕ) → copy < 2
    → nibble_in two reading copy n ≡ cond (is_lost (reading (8 * copy + n))) (nibble_read (reading (8 - 8 * copy + n))) (nibble_read (reading (8 * copy + n)))
unfolding nibble_in first_read
nibble_two reading zero n l = read_or_lent (reading (0 + n)) _ _ (λ e. rw e) (λ e. rw e (kept (reading (8 + n))))
nibble_two reading (suc zero) n l = read_or_lent (reading (8 + n)) _ _ (λ e. rw e) (λ e. rw e (kept (reading (0 + n))))
nibble_two reading (suc (suc copy)) n l = absurd (omega arith)

-- readings that agree on all slots give the same counts
count_same : (one other : ℕ → Reading) → ((k : ℕ) → k < 16 → one k ≡ other k) → (copy : ℕ) → copy < 2 → count_in two one copy ≡ count_in two other copy
unfolding count_in
count_same one other agree copy l = ap (λ (ns : List ℕ). count_of (word_of ns)) (alike _ _ 8 same)
  where
    same : (n : ℕ) → n < 8 → nibble_in two one copy n ≡ nibble_in two other copy n
    same n to =
        nibble_two one copy n l
        ∙ rw (agree (8 * copy + n) (omega arith), agree (8 - 8 * copy + n) (omega arith)) (sym (nibble_two other copy n l))

module _ (byte entry : ℕ → ℕ) (small : (k : ℕ) → k < 16 → byte k < 256) (are : (k : ℕ) → k < 16 → entry k ≡ entry_of (byte k)) where
  read : (k : ℕ) → k < 16 → reading_of (byte k) ≡ reading_at (entry k)
  read k l = sym (entry_reading (byte k) (small k l)) ∙ ap reading_at (sym (are k l))

  folded : (k : ℕ) → k < 16 → twofold (byte k) ≡ twofold_at (entry k)
  folded k l = sym (entry_twofold (byte k) (small k l)) ∙ ap twofold_at (sym (are k l))

  twofold_entries : lowest 8 0 (some_twofold two byte) ≡ lowest 8 0 (λ n. twofold_at (entry n) || twofold_at (entry (8 + n)))
  unfolding some
  twofold_entries = lowest_same 8 0 _ _ (λ n from to. same n to)
    where
      same : (n : ℕ) → n < 0 + 8 → some_twofold two byte n ≡ twofold_at (entry n) || twofold_at (entry (8 + n))
      same n to = rw (zero-add n, folded n (omega arith), folded (8 + n) (omega arith))

  lost_entries : lowest 8 0 (lost_at two (λ k. reading_of (byte k))) ≡ lowest 8 0 (λ n. is_lost (reading_at (entry n)) && is_lost (reading_at (entry (8 + n))))
  unfolding every
  lost_entries = lowest_same 8 0 _ _ (λ n from to. same n to)
    where
      same : (n : ℕ) → n < 0 + 8 → lost_at two (λ k. reading_of (byte k)) n ≡ is_lost (reading_at (entry n)) && is_lost (reading_at (entry (8 + n)))
      same n to = rw (zero-add n, read n (omega arith), read (8 + n) (omega arith))

  -- what the bytes come to, by their entries
  pub weigh_entries : weigh two byte
      ≡ on_found (lowest 8 0 (λ n. twofold_at (entry n) || twofold_at (entry (8 + n)))) TwoCodes
      (on_found (lowest 8 0 (λ n. is_lost (reading_at (entry n)) && is_lost (reading_at (entry (8 + n))))) LostNibble
      (decide (count_in two (λ k. reading_at (entry k)) 0) (count_in two (λ k. reading_at (entry k)) 1)))
  unfolding weigh
  weigh_entries = rw (twofold_entries, lost_entries, count_same _ (λ k. reading_at (entry k)) read 0 (omega arith), count_same _ (λ k. reading_at (entry k)) read 1 (omega arith))

-- bytes that agree on all slots come to the same
pub weigh_same : (one other : ℕ → ℕ) → ((k : ℕ) → k < 16 → one k ≡ other k) → weigh two one ≡ weigh two other
unfolding weigh
weigh_same one other agree =
    rw (twofolds, losts, count_same (λ k. reading_of (one k)) (λ k. reading_of (other k)) read 0 (omega arith), count_same (λ k. reading_of (one k)) (λ k. reading_of (other k)) read 1 (omega arith))
  where
    read : (k : ℕ) → k < 16 → reading_of (one k) ≡ reading_of (other k)
    read k l = ap reading_of (agree k l)

    twofolds : lowest 8 0 (some_twofold two one) ≡ lowest 8 0 (some_twofold two other)
    twofolds = lowest_same 8 0 _ _ (λ n from to. some_same 2 _ _ (λ copy l. ap twofold (agree (8 * copy + n) (omega arith))))

    losts : lowest 8 0 (lost_at two (λ k. reading_of (one k))) ≡ lowest 8 0 (lost_at two (λ k. reading_of (other k)))
    losts = lowest_same 8 0 _ _ (λ n from to. every_same 2 _ _ (λ copy l. ap is_lost (read (8 * copy + n) (omega arith))))
