-- Map part, by what it finds.
--   part_good, part_refused   its numbers
--   Parted, parted            what a good one says of the copy's number and of where its part ends
--   part_inside               the part lies in the image
use Rattle.std.proofs.Common.{◌≡◌, ℕ, ◌+◌, ◌-◌, ◌≤◌, ◌&&◌, leb, List, length, ℤ, refl, arith, leb-true, Ok, Err}
use Rattle.counter.specs.declared.places.Places.{Places}
use Rattle.counter.specs.declared.verdict.Refusal.{Refusal}
use Rattle.counter.specs.declared.verdict.Refusal.TheVariants.{BadLength, BadPlaces, NoMark, UnsoundMap, BadCopy}
use Rattle.counter.specs.Layout.{two}
use Rattle.counter.specs.Places.{length_good, places_good}
use Rattle.counter.specs.Map.{map_in, marked, pointer_of, sound, part_at}
use Rattle.counter.specs.Verdict.{refusal_of, Verdict, read_as}
use Rattle.counter.specs.Doors.{part, part_verdict, map_part_of}
use Rattle.counter.proofs.RangeTests.{both_hold}
use Rattle.counter.proofs.Settings.{good_placed}
use Rattle.counter.proofs.GoodVerdicts.{unless_good}

module _ (p : Places) (cells : List ℕ) (copy : ℕ) where
  -- what a good verdict of map part says of the copy's number and of where its part ends
  pub record Parted : Type 0 where
    pub first : 1 ≤ copy
    pub last : copy ≤ 2
    pub inside : p.map + part_at two (copy - 1) + 11 ≤ length cells

  pub parted : {count : ℕ} {lag : ℤ} → part_verdict two p cells copy ≡ read_as count lag → Parted
  unfolding part_verdict
  parted e =
      let long = unless_good (length_good two (length cells)) BadLength _ e in
      let good = unless_good (places_good two (length cells) p) BadPlaces _ long.1 in
      let mark = unless_good (marked (map_in two p cells)) NoMark _ good.1 in
      let well = unless_good (sound two p (pointer_of (map_in two p cells))) UnsoundMap _ mark.1 in
      let known = both_hold (leb 1 copy) _ (unless_good (leb 1 copy && leb copy two.copies) BadCopy _ well.1).0 in
      let from = leb-true 1 copy known.0 in
      let to = leb-true copy two.copies known.1 in
      let placed = good_placed two (length cells) p good.0 in
      record { first = from; last = to; inside = omega arith }

  pub part_good : {count : ℕ} {lag : ℤ} → part_verdict two p cells copy ≡ read_as count lag → map_part_of two p cells copy ≡ part 0 (p.map + part_at two (copy - 1)) 11
  unfolding map_part_of
  part_good e = rw e

  pub part_refused : {why : Refusal} → part_verdict two p cells copy ≡ Err why → map_part_of two p cells copy ≡ part (refusal_of why 0 0).code 0 0
  unfolding map_part_of
  part_refused e = rw e

  -- the part lies in the image
  pub part_inside : (map_part_of two p cells copy).start + (map_part_of two p cells copy).size ≤ length cells
  part_inside = go (part_verdict two p cells copy) refl
    where
      go : (v : Verdict) → part_verdict two p cells copy ≡ v → (map_part_of two p cells copy).start + (map_part_of two p cells copy).size ≤ length cells
      go (Ok (count, lag)) e = rw (part_good e) (parted e).inside
      go (Err why) e = rw (part_refused e) (omega arith)
