-- The first line of a text from an index on, and the line that begins there: a line in form is one whose parts stand at the index, and
-- the next line begins where it ends.
use Rattle.std.proofs.Common.{◌≡◌, ℕ, zero, suc, ◌+◌, ◌*◌, ◌<◌, ◌≤◌, Bool, true, false, cond, not, ◌&&◌, eqb, ltb, ◌⊎◌, List, [], ◌∷◌, ◌++◌, length, get_or, take, drop, sym, refl, ap, ◌∙◌, inl, inr, true≢false, arith, length-drop, take-append-drop, length-take, get_or-drop, drop-cons, drop-drop, get_or-append-add, ltb-true, lt-ltb, eq-eqb, eqb-true}
use mathlib.Core.List.{head-eq_of_cons-eq, tail-eq_of_cons-eq}
use native.Mathlib.Decide.{dec_le}
use lib.ListN.{get_or-append, get_or-eq_default}
use lib.Seq.{sets, drop-append-add}
use Rattle.intelhex.specs.Signs.{line_feed, carriage_return, colon, value_of, byte_at, bytes_at}
use Rattle.intelhex.specs.Records.{end_kind}
use Rattle.intelhex.specs.Lines.{Line, line, lines_of}
use Rattle.intelhex.specs.Faults.{count_of, address_of, kind_of, all_digits, colon_and_digits, whole_length, lawful, in_form, memory, fault_of, after}
use Rattle.intelhex.specs.Inside.{all_bytes, end_at, count_at, address_at, kind_at, data_at, all_at, next_at, formed_at, verdict, fault_at}
use Rattle.intelhex.proofs.LineLaws.{choose, both, line_feed_lem, line_return, ended_line, digits_plain}
use Rattle.intelhex.proofs.Values.{digit_of}
use Rattle.intelhex.proofs.Forms.{end_inside}
use Rattle.intelhex.proofs.RecordLaws.{Bytes}
use Rattle.intelhex.proofs.ReadLaws.{data_bytes}

-- a byte, and bytes, in signs that others follow
byte_front : (signs tail : List ℕ) (i : ℕ) → i + 1 < length signs → byte_at (signs ++ tail) i ≡ byte_at signs i
unfolding byte_at
byte_front signs tail i inside = rw (get_or-append signs tail 0 i (omega arith), get_or-append signs tail 0 (i + 1) inside) refl

byte_drop : (text : List ℕ) (at i : ℕ) → byte_at (drop at text) i ≡ byte_at text (at + i)
unfolding byte_at
byte_drop text at i =
    let next : at + (i + 1) ≡ at + i + 1 = omega arith in
    rw (get_or-drop at text i 0, get_or-drop at text (i + 1) 0, next) refl

-- signs that stand at an index of a text, with others behind them
module _ (text : List ℕ) (at : ℕ) (signs tail : List ℕ) (split : drop at text ≡ signs ++ tail) where
  byte_there : (i : ℕ) → i + 1 < length signs → byte_at signs i ≡ byte_at text (at + i)
  byte_there i inside = sym (byte_front signs tail i inside) ∙ ap (λ (l : List ℕ). byte_at l i) (sym split) ∙ byte_drop text at i

  bytes_there : (i n : ℕ) → i + 2 * n ≤ length signs → bytes_at signs i n ≡ bytes_at text (at + i) n
  unfolding bytes_at
  bytes_there i zero inside = refl
  bytes_there i (suc n) inside =
      let next : at + (i + 2) ≡ at + i + 2 = omega arith in
      rw (byte_there i (omega arith), bytes_there (i + 2) n (omega arith), next) refl

  behind : (k : ℕ) → get_or text (at + length signs + k) 0 ≡ get_or tail k 0
  behind k =
      let place : at + length signs + k ≡ at + (length signs + k) = omega arith in
      rw place (sym (get_or-drop at text (length signs + k) 0) ∙ ap (λ (l : List ℕ). get_or l (length signs + k) 0) split ∙ get_or-append-add signs tail k 0)

  rest_behind : (k : ℕ) → drop (at + length signs + k) text ≡ drop k tail
  rest_behind k =
      let place : at + length signs + k ≡ at + (length signs + k) = omega arith in
      rw place (sym (drop-drop (length signs + k) at text) ∙ ap (λ (l : List ℕ). drop (length signs + k) l) split ∙ drop-append-add signs tail k)

-- a line end, and what follows it
abbrev pub Ends : List ℕ → List ℕ → Type 0
Ends tail rest = (tail ≡ line_feed ∷ rest) ⊎ (tail ≡ carriage_return ∷ line_feed ∷ rest)

-- a whole line stands at an index of a text: a colon and digits, as many as its count asks for, and its end
pub record Whole (text : List ℕ) (at : ℕ) (signs : List ℕ) : Type 0 where
  pub tail : List ℕ
  pub rest : List ℕ
  pub split : drop at text ≡ signs ++ tail
  pub ends : Ends tail rest
  pub digits : colon_and_digits signs ≡ true
  pub whole : length signs ≡ 11 + 2 * count_of signs

-- its end, by which the next line begins
end_feed : (text : List ℕ) (at : ℕ) → get_or text at 0 ≡ line_feed → end_at text at ≡ at + 1
unfolding end_at
end_feed text at feed = rw feed refl

end_return : (text : List ℕ) (at : ℕ) → get_or text at 0 ≡ carriage_return → get_or text (at + 1) 0 ≡ line_feed → end_at text at ≡ at + 2
unfolding end_at
end_return text at return feed = rw (return, feed) refl

bytes_all : (bytes : List ℕ) → Bytes bytes → all_bytes bytes ≡ true
unfolding all_bytes
bytes_all [] each = refl
bytes_all (byte ∷ bytes) each = rw (lt-ltb byte 256 (each 0 (omega arith)), bytes_all bytes (λ k inside. each (suc k) (omega arith))) refl

colon_first : (signs : List ℕ) → colon_and_digits signs ≡ true → get_or signs 0 0 ≡ colon
unfolding colon_and_digits
colon_first [] digits = absurd (true≢false (sym digits))
colon_first (sign ∷ signs) digits = eqb-true sign colon (both (eqb sign colon) (all_digits signs) digits).0

module _ {text : List ℕ} {at : ℕ} {signs : List ℕ} (w : Whole text at signs) where
  -- its parts are those that stand at the index
  pub part_there : (i : ℕ) → i < 10 → byte_at signs i ≡ byte_at text (at + i)
  part_there i few = byte_there text at signs w.tail w.split i (omega (arith, w.whole))

  pub run_there : (i n : ℕ) → i + 2 * n ≤ 11 + 2 * count_of signs → bytes_at signs i n ≡ bytes_at text (at + i) n
  run_there i n few = bytes_there text at signs w.tail w.split i n (omega (arith, w.whole))

  pub count_there : count_of signs ≡ count_at text at
  count_there = part_there 1 (omega arith)

  long : at + 11 + 2 * count_at text at ≡ at + length signs + 0
  long = omega (arith, w.whole, count_there)

  -- where the next line begins
  pub next_there : (at < next_at text at) × (lines_of (drop at text) ≡ line signs true ∷ lines_of (drop (next_at text at) text))
  next_there = by_end w.ends
    where
      by_end : Ends w.tail w.rest → (at < next_at text at) × (lines_of (drop at text) ≡ line signs true ∷ lines_of (drop (next_at text at) text))
      by_end (inl feed) =
          let past : next_at text at ≡ at + length signs + 1 =
          rw long (end_feed text (at + length signs + 0) (behind text at signs w.tail w.split 0 ∙ ap (λ (l : List ℕ). get_or l 0 0) feed) ∙ omega arith) in
          let left : drop (next_at text at) text ≡ w.rest = rw past (rest_behind text at signs w.tail w.split 1 ∙ ap (drop 1) feed) in
          (omega (arith, past), rw (left, w.split, feed) (line_feed_lem signs w.rest (digits_plain signs w.digits)))
      by_end (inr return) =
          let next : at + length signs + 0 + 1 ≡ at + length signs + 1 = omega arith in
          let past : next_at text at ≡ at + length signs + 2 =
          rw long (end_return text (at + length signs + 0) (behind text at signs w.tail w.split 0 ∙ ap (λ (l : List ℕ). get_or l 0 0) return)
          (rw next (behind text at signs w.tail w.split 1 ∙ ap (λ (l : List ℕ). get_or l 1 0) return)) ∙ omega arith) in
          let left : drop (next_at text at) text ≡ w.rest = rw past (rest_behind text at signs w.tail w.split 2 ∙ ap (drop 2) return) in
          (omega (arith, past), rw (left, w.split, return) (line_return signs w.rest (digits_plain signs w.digits)))

  -- so it is formed
  pub whole_formed : formed_at text at ≡ true
  unfolding formed_at
  whole_formed =
      let here : at + 0 ≡ at = omega arith in
      let first : get_or text at 0 ≡ colon =
      rw here at (sym (get_or-drop at text 0 0) ∙ ap (λ (l : List ℕ). get_or l 0 0) w.split ∙ get_or-append signs w.tail 0 0 (omega (arith, w.whole)) ∙ colon_first signs w.digits) in
      let bytes : all_bytes (all_at text at) ≡ true =
      rw (← count_there) (ap all_bytes (sym (run_there 1 (count_of signs + 5) (omega arith))) ∙ bytes_all _ (data_bytes signs 1 (count_of signs + 5) w.digits (omega arith) (omega (arith, w.whole)))) in
      rw (first, bytes, lt-ltb 0 (next_at text at) (omega (arith, next_there.0))) refl

return_there : (text : List ℕ) (at : ℕ) → eqb (get_or text at 0) line_feed ≡ false → 0 < end_at text at
    → (get_or text at 0 ≡ carriage_return) × (get_or text (at + 1) 0 ≡ line_feed)
unfolding end_at
return_there text at other there =
    choose (eqb (get_or text at 0) carriage_return && eqb (get_or text (at + 1) 0) line_feed)
    (λ is. let (return, feed) = both (eqb (get_or text at 0) carriage_return) (eqb (get_or text (at + 1) 0) line_feed) is in (eqb-true _ _ return, eqb-true _ _ feed))
    (λ none. absurd (omega (arith, rw (other, none) at there)))

-- a line feed stands inside the text
not_past : (text : List ℕ) (at : ℕ) → get_or text at 0 ≡ line_feed → at < length text
not_past text at feed =
    elim (dec_le (length text) at) [
      | yes past ↦ absurd (omega (arith, feed, get_or-eq_default text 0 past))
      | no inside ↦ omega (arith, inside)
    ]

-- the first sign from an index on, and the first two
pub one_more : (text : List ℕ) (at : ℕ) → at < length text → drop at text ≡ get_or text at 0 ∷ drop (at + 1) text
one_more text at inside = let next : suc at ≡ at + 1 = omega arith in rw next at (drop-cons text at 0 inside)

two_more : (text : List ℕ) (at : ℕ) → at + 1 < length text → drop at text ≡ get_or text at 0 ∷ get_or text (at + 1) 0 ∷ drop (at + 2) text
two_more text at inside =
    let next : at + 1 + 1 ≡ at + 2 = omega arith in
    one_more text at (omega arith) ∙ ap (λ (l : List ℕ). get_or text at 0 ∷ l) (rw next at (one_more text (at + 1) inside))

-- pairs of signs that make bytes are digits
pair_digits : (text : List ℕ) (at n : ℕ) → at + 2 * n ≤ length text → all_bytes (bytes_at text at n) ≡ true → all_digits (take (2 * n) (drop at text)) ≡ true
unfolding bytes_at all_bytes byte_at all_digits
pair_digits text at zero inside bytes = refl
pair_digits text at (suc n) inside bytes =
    let two : 2 * suc n ≡ suc (suc (2 * n)) = omega arith in
    let high = value_of (get_or text at 0) in
    let low = value_of (get_or text (at + 1) 0) in
    let (byte, more) = both (ltb (16 * high + low) 256) (all_bytes (bytes_at text (at + 2) n)) bytes in
    let small = ltb-true (16 * high + low) 256 byte in
    ap (λ (l : List ℕ). all_digits (take (2 * suc n) l)) (two_more text at (omega arith))
    ∙ rw (two, lt-ltb high 16 (omega (arith, small)), lt-ltb low 16 (digit_of (get_or text (at + 1) 0) (omega (arith, small))))
    (pair_digits text (at + 2) n (omega arith) more)

-- a line end that stands at an index
end_there : (text : List ℕ) (at : ℕ) → 0 < end_at text at → Ends (drop at text) (drop (end_at text at) text)
end_there text at there =
    choose (eqb (get_or text at 0) line_feed)
    (λ is.
    let feed = eqb-true (get_or text at 0) line_feed is in
    rw (end_feed text at feed) (inl (one_more text at (end_inside text at there) ∙ ap (λ (sign : ℕ). sign ∷ drop (at + 1) text) feed)))
    (λ other. by_return other)
  where
    by_return : eqb (get_or text at 0) line_feed ≡ false → Ends (drop at text) (drop (end_at text at) text)
    by_return other =
        let (return, feed) = return_there text at other there in
        let within : at + 1 < length text = not_past text (at + 1) feed in
        rw (end_return text at return feed) (inr (two_more text at within ∙ (λ i. return i ∷ feed i ∷ drop (at + 2) text)))

-- the line that is formed at an index is whole
pub formed_whole : (text : List ℕ) (at : ℕ) → formed_at text at ≡ true → Whole text at (take (11 + 2 * count_at text at) (drop at text))
unfolding formed_at colon_and_digits
formed_whole text at formed =
    let (first, more) = both (eqb (get_or text at 0) colon) (all_bytes (all_at text at) && ltb 0 (next_at text at)) formed in
    let (bytes, ends) = both (all_bytes (all_at text at)) (ltb 0 (next_at text at)) more in
    let there = ltb-true 0 (next_at text at) ends in
    let inside = end_inside text (at + 11 + 2 * count_at text at) there in
    let size = 11 + 2 * count_at text at in
    let split : drop at text ≡ take size (drop at text) ++ drop size (drop at text) = sym (take-append-drop size (drop at text)) in
    let long : length (take size (drop at text)) ≡ size = omega (arith, length-take size (drop at text), length-drop at text) in
    let place : at + size ≡ at + 11 + 2 * count_at text at = omega arith in
    let behind : drop size (drop at text) ≡ drop (at + 11 + 2 * count_at text at) text = rw place at (drop-drop size at text) in
    let digits : size ≡ suc (2 * (count_at text at + 5)) = omega arith in
    record {
      tail = drop size (drop at text);
      rest = drop (next_at text at) text;
      split = split;
      ends = rw behind (end_there text (at + 11 + 2 * count_at text at) there);
      digits =
          ap (λ (l : List ℕ). colon_and_digits (take size l)) (one_more text at (omega arith))
          ∙ rw (digits, first) (pair_digits text (at + 1) (count_at text at + 5) (omega arith) bytes);
      whole = rw (byte_there text at (take size (drop at text)) (drop size (drop at text)) split 1 (omega (arith, long))) long;
    }

-- and so is a first line in form
pub form_whole : (text : List ℕ) (at : ℕ) (first : Line) (more : List Line) → lines_of (drop at text) ≡ first ∷ more → in_form first ≡ true → Whole text at first.signs
unfolding in_form
form_whole text at first more lines form =
    let signs = first.signs in
    let (ended, rest) = both first.ended _ form in
    let (digits, sized) = both (colon_and_digits signs) _ rest in
    let whole = (both (whole_length signs) (lawful (kind_of signs) (address_of signs) (count_of signs)) sized).0 in
    let (left, split, same) = ended_line (drop at text) signs more (lines ∙ ap (λ (e : Bool). line signs e ∷ more) ended) in
    by_end left split digits (eqb-true (length signs) (11 + 2 * count_of signs) whole)
  where
    by_end : (left : List ℕ) → (drop at text ≡ first.signs ++ line_feed ∷ left) ⊎ (drop at text ≡ first.signs ++ carriage_return ∷ line_feed ∷ left)
        → colon_and_digits first.signs ≡ true → length first.signs ≡ 11 + 2 * count_of first.signs → Whole text at first.signs
    by_end left (inl split) digits whole = record { tail = line_feed ∷ left; rest = left; split = split; ends = inl refl; digits = digits; whole = whole }
    by_end left (inr split) digits whole =
        record { tail = carriage_return ∷ line_feed ∷ left; rest = left; split = split; ends = inr refl; digits = digits; whole = whole }

swapped : (b : Bool) (x y : ℕ) → cond (not b) x y ≡ cond b y x
swapped true x y = refl
swapped false x y = refl

module _ (text : List ℕ) (at : ℕ) (cells : List ℕ) (first : Line) (more : List Line) (lines : lines_of (drop at text) ≡ first ∷ more) where
  -- a formed line is the first one
  first_is : {signs : List ℕ} (w : Whole text at signs) → first ≡ line signs true
  first_is w = head-eq_of_cons-eq (sym lines ∙ (next_there w).1)

  -- where none is formed the first line is malformed
  not_first : formed_at text at ≡ false → fault_of (memory cells false) first ≡ 1
  unfolding fault_of
  not_first not_so =
      choose (in_form first) (λ form. absurd (true≢false (sym (whole_formed (form_whole text at first more lines form)) ∙ not_so))) (λ none. rw none refl)

  -- what the first line is at fault for
  pub fault_is : fault_of (memory cells false) first ≡ fault_at text at cells
  unfolding fault_of in_form fault_at verdict
  fault_is =
      choose (formed_at text at)
      (λ formed.
      let w = formed_whole text at formed in
      let signs = take (11 + 2 * count_at text at) (drop at text) in
      rw (
        first_is w,
        w.digits,
        eq-eqb (length signs) (11 + 2 * count_of signs) w.whole,
        run_there w 1 (count_of signs + 5) (omega arith),
        count_there w,
        part_there w 3 (omega arith),
        part_there w 5 (omega arith),
        part_there w 7 (omega arith),
        formed,
      )
      (swapped (lawful (kind_at text at) (address_at text at) (count_at text at)) _ _))
      (λ not_so. rw not_so (not_first not_so))

  -- without a fault: where the next line begins, and what the first one leaves
  pub goes_on : fault_at text at cells ≡ 0
      → (at < next_at text at) × (more ≡ lines_of (drop (next_at text at) text)) × (count_of first.signs ≡ count_at text at)
      × (after (memory cells false) first ≡ memory (sets cells (address_at text at) (data_at text at)) (eqb (kind_at text at) end_kind))
  unfolding after
  goes_on none =
      let w = formed_whole text at (formed none) in
      let signs = take (11 + 2 * count_at text at) (drop at text) in (
        (next_there w).0,
        tail-eq_of_cons-eq (sym lines ∙ (next_there w).1),
        ap (λ (l : Line). count_of l.signs) (first_is w) ∙ count_there w,
        rw (first_is w, run_there w 9 (count_of signs) (omega arith), count_there w, part_there w 3 (omega arith), part_there w 5 (omega arith), part_there w 7 (omega arith)) refl,
      )
    where
      formed : fault_at text at cells ≡ 0 → formed_at text at ≡ true
      formed none = choose (formed_at text at) (λ is. is) (λ not_so. absurd (omega (arith, none, fault_is, not_first not_so)))
