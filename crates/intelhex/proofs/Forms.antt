-- The line that begins at an index of a text: its parts, and when it is malformed.
use Rattle.std.proofs.Common.{◌≡◌, ℕ, suc, ◌+◌, ◌*◌, ◌<◌, true, false, cond, ◌&&◌, eqb, ltb, List, [], ◌∷◌, ◌++◌, length, get_or, take, drop, sym, refl, ◌∙◌, true≢false, arith, ltb-true}
use native.Mathlib.Decide.{dec_le}
use lib.ListN.{get_or-eq_default}
use Rattle.intelhex.specs.Signs.{colon, no_digit, byte_at, bytes_at, total}
use Rattle.intelhex.specs.Faults.{some_taken}
use Rattle.intelhex.specs.Inside.{all_bytes, end_at, count_at, address_at, kind_at, data_at, all_at, next_at, headed, formed_at, verdict, fault_at}
use Rattle.intelhex.proofs.LineLaws.{choose, both}
use Rattle.intelhex.proofs.Digits.{total_append}
use Rattle.intelhex.proofs.Bytes.{bytes_split, bytes_next, all_append, formed_sum}

-- a line end stands inside the text
pub end_inside : (text : List ℕ) (at : ℕ) → 0 < end_at text at → at < length text
unfolding end_at
end_inside text at there =
    elim (dec_le (length text) at) [
      | yes past ↦ let none : get_or text at 0 ≡ 0 = get_or-eq_default text 0 past in absurd (omega (arith, rw none at there))
      | no inside ↦ omega (arith, inside)
    ]

module _ (text : List ℕ) (at : ℕ) where
  -- the four bytes before the data, and the checksum
  abbrev pub heading : List ℕ
  heading = bytes_at text (at + 1) 4

  abbrev pub check_at : ℕ
  check_at = byte_at text (at + 9 + 2 * count_at text at)

  -- all bytes: those before the data, the data and the checksum
  all_parts : all_at text at ≡ heading ++ (data_at text at ++ (check_at ∷ []))
  all_parts =
      let five : count_at text at + 5 ≡ 4 + (count_at text at + 1) = omega arith in
      let nine : at + 1 + 2 * 4 ≡ at + 9 = omega arith in
      rw five (bytes_split text (at + 1) 4 (count_at text at + 1) ∙ rw (nine, bytes_next text (at + 9) (count_at text at)) refl)

  pub all_total : total (all_at text at) ≡ total heading + total (data_at text at) + check_at
  unfolding total
  all_total = rw (all_parts, total_append, total_append) (omega arith)

  -- where all are bytes the data are, and the count
  pub data_all : all_bytes (all_at text at) ≡ true → all_bytes (data_at text at) ≡ true
  data_all all =
      let behind = (both (all_bytes heading) (all_bytes (data_at text at ++ (check_at ∷ []))) (rw (all_parts, all_append) at all)).1 in
      (both (all_bytes (data_at text at)) (all_bytes (check_at ∷ [])) (rw all_append at behind)).0

  count_byte : all_bytes (all_at text at) ≡ true → ltb (count_at text at) 256 ≡ true
  unfolding bytes_at all_bytes
  count_byte all =
      let first : count_at text at + 5 ≡ suc (count_at text at + 4) = omega arith in
      (both (ltb (count_at text at) 256) (all_bytes (bytes_at text (at + 1 + 2) (count_at text at + 4))) (rw first at all)).0

  -- a line in form has its head and its end
  formed_parts : formed_at text at ≡ true → (headed text at ≡ true) × (0 < next_at text at)
  unfolding formed_at
  formed_parts formed =
      let (begins, rest) = both (eqb (get_or text at 0) colon) (all_bytes (all_at text at) && ltb 0 (next_at text at)) formed in
      let (bytes, ends) = both (all_bytes (all_at text at)) (ltb 0 (next_at text at)) rest in
      (rw (begins, count_byte bytes) refl, ltb-true 0 (next_at text at) ends)

  -- what is no byte shows in the sum
  pub whole_sum : headed text at ≡ true → ltb (total (all_at text at)) no_digit ≡ all_bytes (all_at text at)
  whole_sum there =
      let few = ltb-true (count_at text at) 256 (both (eqb (get_or text at 0) colon) (ltb (count_at text at) 256) there).1 in
      formed_sum text (at + 1) (count_at text at + 5) (omega (arith, few))

  module _ (cells : List ℕ) where
    malformed : (formed_at text at ≡ true → ⊥) → fault_at text at cells ≡ 1
    unfolding fault_at
    malformed never = choose (formed_at text at) (λ formed. absurd (never formed)) (λ not_so. rw not_so refl)

    -- without a colon and a count it is malformed
    pub no_head : headed text at ≡ false → fault_at text at cells ≡ 1
    no_head none = malformed (λ formed. true≢false (sym (formed_parts formed).0 ∙ none))

    -- and so it is where the text is too short for it
    pub too_short : length text < at + 12 + 2 * count_at text at → fault_at text at cells ≡ 1
    too_short short = malformed (λ formed. omega (arith, short, end_inside text (at + 11 + 2 * count_at text at) (formed_parts formed).1))

    -- else its sum and its end decide
    pub by_tail : headed text at ≡ true
        → fault_at text at cells
        ≡ cond (ltb (total (all_at text at)) no_digit && ltb 0 (next_at text at))
        (verdict (total (all_at text at)) (kind_at text at) (address_at text at) (count_at text at) (length cells)
        (some_taken (take (count_at text at) (drop (address_at text at) cells))))
        1
    unfolding fault_at formed_at
    by_tail there = rw (whole_sum there, (both (eqb (get_or text at 0) colon) (ltb (count_at text at) 256) there).0) refl
