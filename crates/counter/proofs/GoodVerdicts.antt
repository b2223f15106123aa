-- What a good verdict says: no refusal's test failed, and the count is one of 32 bits.
--   same_count                verdicts that are the same have the same count
--   unless_good, found_good   a test passed on the way to a count
--   CellsGood, cells_good     what a good verdict of an image says
--   VerdictGood, verdict_good  and of a chip
--   below_last                a count of 32 bits that is not the last
--   of_storing, cells_reads, verdict_reads  what storing alone is refused for, reading is not
use Rattle.counter.specs.Verdict.{Verdict, read_as}
use Rattle.std.proofs.Common.{◌≡◌, ℕ, ◌-◌, ◌^◌, ◌<◌, Bool, true, false, cond, List, length, ℤ, pos, ◌-ℤ◌, refl, ap, true≢false, arith, eqb-true, Option, Some, None, Ok, Err}
use Rattle.code.specs.declared.reading.Reading.{Reading}
use Rattle.code.specs.Readings.{reading_of}
use Rattle.code.proofs.GrayLaws.{count_small}
use Rattle.code.proofs.NibbleLaws.{word_small}
use Rattle.cells.specs.Chip.{Chip}
use Rattle.counter.specs.declared.places.Places.{Places}
use Rattle.counter.specs.declared.verdict.Refusal.{Refusal}
use Rattle.counter.specs.declared.verdict.Refusal.TheVariants.{BadLength, BadPlaces, NoMark, UnsoundMap, TwoCodes, BadCopy, LostNibble, Apart, LastCount, NoSpare, MapByte, PowerLost}
use Rattle.code.specs.Tabulate.{tabulate}
use Rattle.counter.specs.Layout.{Layout, slots}
use Rattle.counter.specs.Slots.{lowest}
use Rattle.counter.specs.Places.{length_good, places_good, lives_good}
use Rattle.counter.specs.Map.{map_in, marked, pointer_of, sound}
use Rattle.counter.specs.Reading.{data_at, nibble_in, count_in, close, decide, some_twofold, lost_at, unless, on_found, weigh, examine, verdict_of}
use Rattle.counter.specs.Doors.{last_count, chip_verdict}
use Rattle.counter.proofs.SoundPointers.{Sound, test_sound}
use Rattle.counter.proofs.Ready.{pointers, Ready}

-- verdicts that are the same have the same count
pub same_count : {c d : ℕ} {l m : ℤ} → read_as d l ≡ read_as c m → d ≡ c
same_count {c} e = ap count e
  where
    count : Verdict → ℕ
    count (Ok (d, lag)) = d
    count (Err why) = c

module _ {c : ℕ} {lag : ℤ} where
  -- what is refused is not good
  pub not_good : {A : Type 0} {why : Refusal} → Err why ≡ read_as c lag → A
  not_good e = absurd (true≢false cc)

  pub unless_good : (test : Bool) (why : Refusal) (rest : Verdict) → unless test why rest ≡ read_as c lag → (test ≡ true) × (rest ≡ read_as c lag)
  unless_good true why rest e = (refl, e)
  unless_good false why rest e = not_good e

  pub found_good : (f : Option ℕ) (why : ℕ → Refusal) (rest : Verdict) → on_found f why rest ≡ read_as c lag → rest ≡ read_as c lag
  found_good (Some n) why rest e = not_good e
  found_good None why rest e = e

  decided : (t : Bool) (d : ℕ) (l : ℤ) → cond t (read_as d l) (Err (Apart l)) ≡ read_as c lag → d ≡ c
  decided true d l e = same_count e
  decided false d l e = not_good e

  decide_good : (d e : ℕ) → decide d e ≡ read_as c lag → d ≡ c
  unfolding decide
  decide_good d e h = decided (close (pos d -ℤ pos e)) d (pos d -ℤ pos e) h

-- a count read is one of 32 bits
count_small_read : (layout : Layout) (reading : ℕ → Reading) (copy : ℕ) → count_in layout reading copy < 2 ^ 32
unfolding count_in
count_small_read layout reading copy = count_small _ (word_small (tabulate (nibble_in layout reading copy) 0 8))

weigh_good : {c : ℕ} {lag : ℤ} (layout : Layout) (byte : ℕ → ℕ) → weigh layout byte ≡ read_as c lag → c < 2 ^ 32
unfolding weigh
weigh_good layout byte e =
    let reading : ℕ → Reading = λ k. reading_of (byte k) in
    let h = found_good (lowest 8 0 (some_twofold layout byte)) TwoCodes _ e in
    let h' = found_good (lowest 8 0 (lost_at layout reading)) LostNibble _ h in
    let q = decide_good (count_in layout reading 0) (count_in layout reading (layout.copies - 1)) h' in
    rw q at (count_small_read layout reading 0)

pub record CellsGood (layout : Layout) (p : Places) (cells : List ℕ) : Type 0 where
  pub long : length_good layout (length cells) ≡ true
  pub good : places_good layout (length cells) p ≡ true
  pub marks : marked (map_in layout p cells) ≡ true
  pub sound : Sound (slots layout) p (pointer_of (map_in layout p cells))

pub cells_good : {c : ℕ} {lag : ℤ} (layout : Layout) (p : Places) (cells : List ℕ) → verdict_of layout p cells ≡ read_as c lag → CellsGood layout p cells × (c < 2 ^ 32)
unfolding verdict_of examine
cells_good layout p cells e =
    let map = map_in layout p cells in
    let h₁ = unless_good (length_good layout (length cells)) BadLength _ e in
    let h₂ = unless_good (places_good layout (length cells) p) BadPlaces _ h₁.1 in
    let h₃ = unless_good (marked map) NoMark _ h₂.1 in
    let h₄ = unless_good (sound layout p (pointer_of map)) UnsoundMap _ h₃.1 in (
      record { long = h₁.0; good = h₂.0; marks = h₃.0; sound = test_sound layout p (pointer_of map) h₄.0 },
      weigh_good layout (data_at cells map) h₄.1,
    )

pub record VerdictGood (layout : Layout) (p : Places) (c : ℕ) (s : Chip) : Type 0 where
  pub ready : Ready layout p s
  pub marks : marked (map_in layout p s.cells) ≡ true
  pub sound : Sound (slots layout) p (pointers layout p s)
  pub small : c < 2 ^ 32

pub verdict_good :
    {c : ℕ} {lag : ℤ} (layout : Layout) (p : Places) (s : Chip) → chip_verdict layout p s ≡ read_as c lag
    → (verdict_of layout p s.cells ≡ read_as c lag) × VerdictGood layout p c s
unfolding chip_verdict lives_good
verdict_good layout p s e =
    let (paired, reads) = unless_good (lives_good s) BadLength _ e in
    let (facts, small) = cells_good layout p s.cells reads in (
      reads,
      record {
        ready = record { paired = eqb-true _ _ paired; long = facts.long; good = facts.good };
        marks = facts.marks;
        sound = facts.sound;
        small = small;
      },
    )

-- ## What a reading is not refused for

-- what storing alone is refused for
abbrev pub of_storing : Refusal → Bool
of_storing BadLength = false
of_storing BadPlaces = false
of_storing NoMark = false
of_storing UnsoundMap = false
of_storing BadCopy = false
of_storing (TwoCodes nibble) = false
of_storing (LostNibble nibble) = false
of_storing (Apart lag) = false
of_storing LastCount = false
of_storing (NoSpare slot) = true
of_storing (MapByte address) = true
of_storing (PowerLost address) = true

module _ {why : Refusal} where
  unless_reads : (test : Bool) (first : Refusal) (rest : Verdict) → of_storing first ≡ false → (rest ≡ Err why → of_storing why ≡ false) → unless test first rest ≡ Err why → of_storing why ≡ false
  unless_reads true first rest d f e = f e
  unless_reads false first rest d f e = let same : first ≡ why = cc in rw (← same) d

  found_reads : (found : Option ℕ) (first : ℕ → Refusal) (rest : Verdict) → ((n : ℕ) → of_storing (first n) ≡ false) → (rest ≡ Err why → of_storing why ≡ false) → on_found found first rest ≡ Err why → of_storing why ≡ false
  found_reads (Some n) first rest d f e = let same : first n ≡ why = cc in rw (← same) (d n)
  found_reads None first rest d f e = f e

  decided_reads : (t : Bool) (c : ℕ) (lag : ℤ) → cond t (read_as c lag) (Err (Apart lag)) ≡ Err why → of_storing why ≡ false
  decided_reads true c lag e = absurd (true≢false cc)
  decided_reads false c lag e = let same : Apart lag ≡ why = cc in rw (← same) refl

  decide_reads : (c d : ℕ) → decide c d ≡ Err why → of_storing why ≡ false
  unfolding decide
  decide_reads c d e = decided_reads (close (pos c -ℤ pos d)) c (pos c -ℤ pos d) e

  weigh_reads : (layout : Layout) (byte : ℕ → ℕ) → weigh layout byte ≡ Err why → of_storing why ≡ false
  unfolding weigh
  weigh_reads layout byte =
      let reading : ℕ → Reading = λ k. reading_of (byte k) in
      found_reads (lowest 8 0 (some_twofold layout byte)) TwoCodes _ (λ n. refl)
      (found_reads (lowest 8 0 (lost_at layout reading)) LostNibble _ (λ n. refl)
      (decide_reads (count_in layout reading 0) (count_in layout reading (layout.copies - 1))))

  pub cells_reads : (layout : Layout) (p : Places) (cells : List ℕ) → verdict_of layout p cells ≡ Err why → of_storing why ≡ false
  unfolding verdict_of examine
  cells_reads layout p cells =
      unless_reads (length_good layout (length cells)) BadLength _ refl
      (unless_reads (places_good layout (length cells) p) BadPlaces _ refl
      (unless_reads (marked (map_in layout p cells)) NoMark _ refl
      (unless_reads (sound layout p (pointer_of (map_in layout p cells))) UnsoundMap _ refl
      (weigh_reads layout (data_at cells (map_in layout p cells))))))

  pub verdict_reads : (layout : Layout) (p : Places) (s : Chip) → chip_verdict layout p s ≡ Err why → of_storing why ≡ false
  unfolding chip_verdict
  verdict_reads layout p s = unless_reads (lives_good s) BadLength _ refl (cells_reads layout p s.cells)

pub below_last : {c : ℕ} → c < 2 ^ 32 → (c ≡ last_count → ⊥) → c < last_count
below_last small other = omega arith
