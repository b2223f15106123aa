-- Every good text is read, whatever the order and the size of its records, and no other.
use Rattle.std.proofs.Common.{◌≡◌, ℕ, suc, ◌+◌, ◌%◌, ◌<◌, ◌≤◌, true, false, cond, not, ◌&&◌, ◌||◌, eqb, ltb, List, [], ◌∷◌, ◌++◌, length, get_or, take, drop, replicate, sym, refl, ap, ◌∙◌, true≢false, arith, length-take, get_or-drop, get_or-take, ltb-false, ltb-true, le-ltb, lt-ltb, eqb-true, le-leb}
use borrow.Author.Tests.{eqb-false, not-false}
use lib.ListN.{get_or-replicate, length-replicate}
use lib.Seq.{sets, length-sets}
use Rattle.intelhex.specs.Signs.{bytes_at}
use Rattle.intelhex.specs.Records.{data_kind, end_kind}
use Rattle.intelhex.specs.Lines.{Line, line, lines_of}
use Rattle.intelhex.specs.Faults.{count_of, address_of, kind_of, data_of, sum_of, colon_and_digits, whole_length, lawful, in_form}
use Rattle.intelhex.specs.Faults.{Memory, memory, not_yet, some_taken, all_taken, fault_of, after}
use Rattle.intelhex.specs.Doors.{answer, sized, at_end, read_lines, blank, read_of}
use Rattle.intelhex.specs.Covered.{has, how_often, byte_for}
use Rattle.intelhex.proofs.LineLaws.{choose, both}
use Rattle.intelhex.proofs.ReadLaws.{no_code, neither, Faultless, faultless}
use Rattle.intelhex.proofs.RoundTrip.{all_taken_lem}
use Rattle.intelhex.proofs.Covered.{stays, was_free, is_stored, is_byte, each, covers_once}

-- ---- good lines

-- a data line that is good by itself, for an image of n bytes
pub record Good (n : ℕ) (line : Line) : Type 0 where
  pub form : in_form line ≡ true
  pub sum : sum_of line.signs % 256 ≡ 0
  pub kind : kind_of line.signs ≡ data_kind
  pub inside : address_of line.signs + count_of line.signs ≤ n

-- an end record that is good
pub record GoodEnd (line : Line) : Type 0 where
  pub form : in_form line ≡ true
  pub sum : sum_of line.signs % 256 ≡ 0
  pub kind : kind_of line.signs ≡ end_kind

-- what holds of every line
abbrev pub Every : (Line → Type 0) → List Line → Type 0
Every P lines = (k : ℕ) → k < length lines → P (get_or lines k (line [] false))

-- a good text: data lines that have each address once, in any order, and the end record
pub record GoodText (n : ℕ) (lines : List Line) : Type 0 where
  pub front : List Line
  pub last : Line
  pub split : lines ≡ front ++ (last ∷ [])
  pub goods : Every (Good n) front
  pub end : GoodEnd last
  pub once : (a : ℕ) → a < n → how_often a front ≡ 1

-- a line that passes every test has no fault
no_fault : (cells : List ℕ) (line : Line) → in_form line ≡ true → sum_of line.signs % 256 ≡ 0 → kind_of line.signs ≤ 1
    → address_of line.signs + count_of line.signs ≤ length cells
    → some_taken (take (count_of line.signs) (drop (address_of line.signs) cells)) ≡ false → fault_of (memory cells false) line ≡ 0
unfolding fault_of
no_fault cells line form sum kind inside free =
    rw (form, sum, le-ltb end_kind (kind_of line.signs) kind, le-ltb (length cells) _ inside, free) refl

-- ---- what is still to come

-- a part of which no cell is taken is free
part_free : (cells : List ℕ) → ((k : ℕ) → k < length cells → not_yet ≤ get_or cells k 0) → some_taken cells ≡ false
unfolding some_taken
part_free [] free = refl
part_free (cell ∷ cells) free = rw (le-ltb cell not_yet (free 0 (omega arith))) (part_free cells (λ k inside. free (suc k) (omega arith)))

-- each free address comes once more, and no other
abbrev Awaited : List Line → List ℕ → Type 0
Awaited lines cells = (a : ℕ) → a < length cells → how_often a lines ≡ cond (ltb (get_or cells a 0) not_yet) 0 1

module _ (cells : List ℕ) (line : Line) (lines : List Line) (awaited : Awaited (line ∷ lines) cells) where
  abbrev address : ℕ
  address = address_of line.signs

  abbrev count : ℕ
  count = count_of line.signs

  -- the addresses of the next line are free
  next_free : address + count ≤ length cells → some_taken (take count (drop address cells)) ≡ false
  unfolding how_often
  next_free inside =
      part_free (take count (drop address cells))
      (λ k near.
      let few : k < count = omega (arith, length-take count (drop address cells), near) in
      let comes = rw (le-leb address (address + k) (omega arith), lt-ltb (address + k) (address + count) (omega (arith, few))) at
      (awaited (address + k) (omega (arith, few, inside))) in
      rw (get_or-take count (drop address cells) k 0 few, get_or-drop address cells k 0)
      (choose (ltb (get_or cells (address + k) 0) not_yet) (λ taken. absurd (omega (arith, rw taken at comes))) (λ free. ltb-false _ _ free)))

  -- and when its bytes are stored the other lines are awaited
  next_awaited : Faultless cells line.signs → Awaited lines (sets cells address (data_of line.signs))
  unfolding how_often
  next_awaited fine a inside =
      let signs = line.signs in
      let comes = awaited a (omega (arith, inside, length-sets cells address (data_of signs))) in
      choose (has a signs)
      (λ hit.
      rw (is_stored cells signs fine a hit, lt-ltb (byte_for a signs) not_yet (is_byte cells signs fine a hit))
      (omega (arith, rw (hit, le-ltb (get_or cells a 0) not_yet (was_free cells signs fine a hit)) at comes)))
      (λ miss. rw (stays cells signs fine a miss) (omega (arith, rw miss at comes)))

-- ---- reading

-- an end record in form has no data and the address 0
end_empty : (line : Line) → GoodEnd line → (count_of line.signs ≡ 0) × (address_of line.signs ≡ 0)
unfolding in_form lawful
end_empty line end =
    let signs = line.signs in
    let shape = (both (colon_and_digits signs) _ (both line.ended _ end.form).1).1 in
    let empty = both (eqb (count_of signs) 0) (eqb (address_of signs) 0) (rw end.kind at (both (whole_length signs) _ shape).1) in
    (eqb-true _ _ empty.0, eqb-true _ _ empty.1)

-- where no more is awaited every address has its byte, and the end record closes the text
read_last : (image : List ℕ) (done : ℕ) (last : Line) (cells : List ℕ) → GoodEnd last → Awaited [] cells
    → (read_lines image done (last ∷ []) (memory cells false)).answer ≡ answer 0 0 0
unfolding read_lines at_end after how_often bytes_at some_taken
read_last image done last cells end awaited =
    let (none, start) = end_empty last end in
    let fault = no_fault cells last end.form end.sum (omega (arith, end.kind)) (omega (arith, none, start)) (rw none refl) in
    let taken = all_taken_lem cells
    (λ a inside. choose (ltb (get_or cells a 0) not_yet) (ltb-true _ _) (λ free. absurd (omega (arith, rw free at (awaited a inside))))) in
    rw (fault, end.kind, none, taken) refl

-- good lines that are awaited, and the end record, are read
read_lines_lem : (image : List ℕ) (done : ℕ) (lines : List Line) (last : Line) (cells : List ℕ) → Every (Good (length cells)) lines
    → GoodEnd last → Awaited lines cells → (read_lines image done (lines ++ (last ∷ [])) (memory cells false)).answer ≡ answer 0 0 0
unfolding read_lines after
read_lines_lem image done [] last cells goods end awaited = read_last image done last cells end awaited
read_lines_lem image done (line ∷ lines) last cells goods end awaited =
    let good = goods 0 (omega arith) in
    let next = sets cells (address_of line.signs) (data_of line.signs) in
    let free = next_free cells line lines awaited good.inside in
    let none = no_fault cells line good.form good.sum (omega (arith, good.kind)) good.inside free in
    rw (none, good.kind)
    (read_lines_lem image (done + 1) lines last next (rw length-sets (λ k inside. goods (suc k) (omega arith))) end
    (next_awaited cells line lines awaited (faultless (memory cells false) line none)))

-- every good text is read, into an image of a length that it may have
pub good_text : (text before : List ℕ) → 41 ≤ length before → length before ≤ 4096 → GoodText (length before) (lines_of text)
    → (read_of text before).answer ≡ answer 0 0 0
unfolding read_of
good_text text before least most good =
    let cells = replicate (length before) not_yet in
    let long : length cells ≡ length before = length-replicate (length before) not_yet in
    rw (le-leb 41 (length before) least, le-leb (length before) 4096 most, good.split)
    (read_lines_lem before 0 good.front good.last cells (rw long good.goods) good.end
    (λ a inside. rw (get_or-replicate (length before) a not_yet 0 (omega (arith, long, inside))) (good.once a (omega (arith, long, inside)))))

-- ---- a text that is read is good

-- what more a line with no fault is known for
record Tested (m : Memory) (line : Line) : Type 0 where
  early : m.closed ≡ false
  form : in_form line ≡ true
  sum : sum_of line.signs % 256 ≡ 0
  kind : kind_of line.signs ≤ 1

tested : (m : Memory) (line : Line) → fault_of m line ≡ 0 → Tested m line
unfolding fault_of
tested m line none =
    let signs = line.signs in
    let first = no_code (m.closed || not (in_form line)) 0 _ none in
    let second = no_code (not (eqb (sum_of signs % 256) 0)) 1 _ first.1 in
    let third = no_code (ltb end_kind (kind_of signs)) 2 _ second.1 in
    let (early, form) = neither m.closed (not (in_form line)) first.0 in
    record {
      early = early;
      form = not-false (in_form line) form;
      sum = eqb-true _ _ (not-false _ second.0);
      kind = ltb-false _ _ third.0;
    }

module _ (image : List ℕ) where
  -- the first line has no fault, and the others are read after it
  first_read_lem : (done : ℕ) (line : Line) (lines : List Line) (m : Memory) → (read_lines image done (line ∷ lines) m).answer.code ≡ 0
      → (fault_of m line ≡ 0) × ((read_lines image (done + 1) lines (after m line)).answer.code ≡ 0)
  unfolding read_lines
  first_read_lem done line lines m fine =
      choose (eqb (fault_of m line) 0) (λ t. (eqb-true _ _ t, rw t at fine)) (λ f. absurd (eqb-false (fault_of m line) 0 f (rw f at fine)))

  -- past the last line the end record was met
  end_met : (done : ℕ) (m : Memory) → (read_lines image done [] m).answer.code ≡ 0 → m.closed ≡ true
  unfolding read_lines at_end
  end_met done m fine =
      choose (m.closed && all_taken m.cells) (λ t. (both m.closed _ t).0) (λ f. absurd (omega (arith, rw f at fine)))

  -- and before it not yet
  not_met : (done : ℕ) (lines : List Line) (last : Line) (m : Memory) → (read_lines image done (lines ++ (last ∷ [])) m).answer.code ≡ 0
      → m.closed ≡ false
  not_met done [] last m fine = (tested m last (first_read_lem done last [] m fine).0).early
  not_met done (line ∷ lines) last m fine = (tested m line (first_read_lem done line (lines ++ (last ∷ [])) m fine).0).early

  -- so the last line is the end record, and the others are data lines
  good_lines : (done : ℕ) (lines : List Line) (last : Line) (m : Memory) → (read_lines image done (lines ++ (last ∷ [])) m).answer.code ≡ 0
      → Every (Good (length m.cells)) lines × GoodEnd last
  unfolding after
  good_lines done [] last m fine =
      let (none, closes) = first_read_lem done last [] m fine in
      let is = tested m last none in
      let end = eqb-true _ _ (end_met (done + 1) (after m last) closes) in
      (λ k inside. absurd (omega arith), record { form = is.form; sum = is.sum; kind = end })
  good_lines done (line ∷ lines) last m fine =
      let (none, more) = first_read_lem done line (lines ++ (last ∷ [])) m fine in
      let is = tested m line none in
      let other = eqb-false (kind_of line.signs) end_kind (not_met (done + 1) lines last (after m line) more) in
      let (goods, end) = good_lines (done + 1) lines last (after m line) more in
      let inside = (faultless m line none).inside in
      let good : Good (length m.cells) line = record { form = is.form; sum = is.sum; kind = omega (arith, is.kind, other); inside = inside } in
      (each (Good (length m.cells)) line lines good (rw length-sets at goods), end)

-- lines, one at least, end with a last one
split_last : (line : Line) (lines : List Line) → (front : List Line) × (last : Line) × (line ∷ lines ≡ front ++ (last ∷ []))
split_last line [] = ([], line, refl)
split_last line (next ∷ lines) =
    let (front, last, split) = split_last next lines in
    (line ∷ front, last, ap (λ (more : List Line). line ∷ more) split)

-- how often lines and others behind them have an address
pub often_append : (a : ℕ) (lines others : List Line) → how_often a (lines ++ others) ≡ how_often a lines + how_often a others
unfolding how_often
often_append a [] others = omega arith
often_append a (line ∷ lines) others = omega (arith, often_append a lines others)

-- an end record has no address
end_none : (a : ℕ) (last : Line) → GoodEnd last → how_often a (last ∷ []) ≡ 0
unfolding how_often
end_none a last end =
    let (none, start) = end_empty last end in
    rw (none, start, le-leb 0 a (omega arith), le-ltb a (0 + 0) (omega arith)) refl

module _ (text before : List ℕ) (fine : (read_of text before).answer.code ≡ 0) where
  -- the lines of a text that is read are read
  lines_read : (read_lines before 0 (lines_of text) (blank (length before))).answer.code ≡ 0
  unfolding read_of
  lines_read = choose (sized (length before)) (λ t. rw t at fine) (λ f. absurd (omega (arith, rw f at fine)))

  -- the last one is the end record, and the others have each address once
  pub good_parts : (lines : List Line) (last : Line) → lines_of text ≡ lines ++ (last ∷ [])
      → Every (Good (length before)) lines × GoodEnd last × ((a : ℕ) → a < length before → how_often a lines ≡ 1)
  good_parts lines last split =
      let (goods, end) = good_lines before 0 lines last (blank (length before)) (rw split at lines_read) in (
        rw length-replicate at goods,
        end,
        λ a inside.
            omega (arith, rw (split, often_append a lines (last ∷ []), end_none a last end) at (covers_once text before fine a inside)),
      )

  -- a text that is read is good
  pub read_good : GoodText (length before) (lines_of text)
  read_good = by_lines (lines_of text) refl
    where
      by_lines : (lines : List Line) → lines_of text ≡ lines → GoodText (length before) (lines_of text)
      by_lines [] none = absurd (true≢false (sym (end_met before 0 (blank (length before)) (rw none at lines_read))))
      by_lines (line ∷ lines) some =
          let (front, last, split) = split_last line lines in
          let (goods, end, once) = good_parts front last (some ∙ split) in
          record { front = front; last = last; split = some ∙ split; goods = goods; end = end; once = once }
