-- The laws of writing into a lent text: no byte, one byte, one run after another, the next byte of a run, four runs, the next of
-- some lines.
use Prim.Native.Nat.{ℕ, suc, ◌+◌, ◌-◌, ◌≤◌, ◌<◌, min}
use mathlib.Core.Path.{◌≡◌, refl, sym, ap, ◌∙◌}
use mathlib.Core.List.{List, [], ◌∷◌, ◌++◌, flatten, append_assoc, append-nil}
use native.Mathlib.Nat.{add-zero, suc-add, add-suc}
use native.Mathlib.Numerals.{add-one}
use native.Mathlib.Omega.{arith}
use lib.ListN.{length, take, get_or, set, length-append, length-take, length-drop}
use lib.Seq.{sets, length-sets, sets-eq, take-suc}
use Rattle.text.specs.Text.{equals, line_feed, line, Wrote}

-- storing two runs, one after the other, is storing the two joined
sets_append : (xs ys text : List ℕ) (at : ℕ) → sets text at (xs ++ ys) ≡ sets (sets text at xs) (at + length xs) ys
sets_append [] ys text at = rw add-zero
sets_append (x ∷ xs) ys text at = rw (add-suc, ← suc-add) (sets_append xs ys (set text at x) (suc at))

-- what was written is what storing the bytes one by one leaves
stored : {before after bytes : List ℕ} {at next : ℕ} → at + length bytes ≤ length before → Wrote before at bytes next after
    → after ≡ sets before at bytes
stored {before} {after} {bytes} {at} room wrote = wrote.holds ∙ sym (sets-eq bytes before at room)

-- storing bytes one by one, where there is room, writes them
writes : (before : List ℕ) (at : ℕ) (bytes : List ℕ) → at + length bytes ≤ length before
    → Wrote before at bytes (at + length bytes) (sets before at bytes)
writes before at bytes room = record { ends = refl; holds = sets-eq bytes before at room }

-- no byte
pub wrote_none : (text : List ℕ) (at : ℕ) → at ≤ length text → Wrote text at [] at text
wrote_none text at room = rw add-zero at (writes text at [] (rw add-zero room))

-- one byte
pub wrote_one : (text : List ℕ) (at byte : ℕ) → at < length text → Wrote text at (byte ∷ []) (at + 1) (set text at byte)
wrote_one text at byte room = writes text at (byte ∷ []) (omega arith)

-- what was written ends within the text
pub wrote_within : {before after bytes : List ℕ} {at next : ℕ} → at ≤ length before → Wrote before at bytes next after → next ≤ length after
wrote_within {before} {after} {bytes} {at} inside wrote =
    let parts : length after ≡ min at (length before) + length bytes + (length before - (at + length bytes)) =
    ap length wrote.holds ∙ simp (length-append, length-take, length-drop) in
    omega (arith, wrote.ends)

module _ {before between : List ℕ} {at middle : ℕ} (xs ys : List ℕ) (room : at + length (xs ++ ys) ≤ length before)
    (first : Wrote before at xs middle between) where
  whole : at + (length xs + length ys) ≤ length before
  whole = rw length-append at room

  same : length between ≡ length before
  same = ap length (stored (omega (arith, whole)) first) ∙ length-sets before at xs

  -- past the first of two runs there is room for the second
  pub room_left : middle + length ys ≤ length between
  room_left = omega (arith, whole, same, first.ends)

  -- two runs, one after the other
  pub wrote_more : {after : List ℕ} {next : ℕ} → Wrote between middle ys next after → Wrote before at (xs ++ ys) next after
  wrote_more second = record {
    ends = second.ends ∙ omega (arith, first.ends, length-append xs ys);
    holds = stored room_left second
        ∙ cc (stored (omega (arith, whole)) first, first.ends, sets_append xs ys before at)
        ∙ sets-eq (xs ++ ys) before at room;
  }

-- a run of bytes of which the first `done` were written
module _ {before text : List ℕ} {at next : ℕ} (bytes : List ℕ) (done : ℕ) (more : done < length bytes)
    (room : at + length bytes ≤ length before) (first : Wrote before at (take done bytes) next text) where
  room_both : at + length (take done bytes ++ (get_or bytes done 0 ∷ [])) ≤ length before
  room_both = simp (length-append, length-take) (omega arith)

  -- there is room for the next
  pub room_next : next < length text
  room_next = omega (arith, room_left (take done bytes) (get_or bytes done 0 ∷ []) room_both first)

  -- the next is written
  pub wrote_next : {after : List ℕ} {past : ℕ} → Wrote text next (get_or bytes done 0 ∷ []) past after
      → Wrote before at (take (done + 1) bytes) past after
  wrote_next second = rw (add-one, take-suc bytes done 0) (wrote_more (take done bytes) (get_or bytes done 0 ∷ []) room_both first second)

-- four runs, one after another
module _ (ws xs ys zs : List ℕ) where
  pub length_four : length (ws ++ xs ++ ys ++ zs) ≡ length ws + length xs + length ys + length zs
  length_four = simp length-append

  pub wrote_four : {before t₁ t₂ t₃ after : List ℕ} {at n₁ n₂ n₃ next : ℕ}
      → at + length (ws ++ xs ++ ys ++ zs) ≤ length before
      → Wrote before at ws n₁ t₁ → Wrote t₁ n₁ xs n₂ t₂ → Wrote t₂ n₂ ys n₃ t₃ → Wrote t₃ n₃ zs next after
      → Wrote before at (ws ++ xs ++ ys ++ zs) next after
  wrote_four {before = before} {at = at} room first second third fourth =
      let room₃ : at + length (ws ++ xs ++ ys) ≤ length before = simp length-append (omega (arith, rw length_four at room)) in
      let room₂ : at + length (ws ++ xs) ≤ length before = simp length-append (omega (arith, rw length_four at room)) in
      wrote_more (ws ++ xs ++ ys) zs room (wrote_more (ws ++ xs) ys room₃ (wrote_more ws xs room₂ first second) third) fourth

-- a line is its key, the equals sign, its value and the line feed
pub length_line : (key value : List ℕ) → length (line key value) ≡ length key + length value + 2
unfolding line
length_line key value = length_four key (equals ∷ []) value (line_feed ∷ []) ∙ omega arith

-- two runs, one after the other, that end within the text
pub wrote_on : {before between after : List ℕ} {at middle next : ℕ} (xs ys : List ℕ) → next ≤ length before
    → Wrote before at xs middle between → Wrote between middle ys next after → Wrote before at (xs ++ ys) next after
wrote_on xs ys within first second = wrote_more xs ys (simp length-append (omega (arith, within, first.ends, second.ends))) first second

-- lines, one after another
flatten_append : (xs ys : List (List ℕ)) → flatten (xs ++ ys) ≡ flatten xs ++ flatten ys
unfolding flatten
flatten_append [] ys = refl
flatten_append (x ∷ xs) ys = ap (λ (rest : List ℕ). x ++ rest) (flatten_append xs ys) ∙ sym (append_assoc x (flatten xs) (flatten ys))

flatten_next : (lines : List (List ℕ)) (done : ℕ) → done < length lines → flatten (take (done + 1) lines) ≡ flatten (take done lines) ++ get_or lines done []
unfolding flatten
flatten_next lines done more =
    rw (add-one, take-suc lines done [] more)
    (flatten_append (take done lines) _ ∙ ap (λ (last : List ℕ). flatten (take done lines) ++ last) (append-nil (get_or lines done [])))

-- no line
pub wrote_no_line : (text : List ℕ) (at : ℕ) → at ≤ length text → Wrote text at (flatten []) at text
unfolding flatten
wrote_no_line = wrote_none

-- of lines of which the first `done` were written the next is written
pub wrote_line : {before text after : List ℕ} {at next past : ℕ} (lines : List (List ℕ)) (done : ℕ) → done < length lines → past ≤ length before
    → Wrote before at (flatten (take done lines)) next text → Wrote text next (get_or lines done []) past after
    → Wrote before at (flatten (take (done + 1) lines)) past after
wrote_line lines done more within first second = rw (flatten_next lines done more) (wrote_on _ _ within first second)
