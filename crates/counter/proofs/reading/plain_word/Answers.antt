-- `reading::plain_word` meets its contract: where nothing was apart and no entry above 15 was seen, the bytes passed are the codes of
-- the word's nibbles, the same in both copies.
use mathlib.Core.Bool.{false≢true}
use Rattle.std.proofs.Common.{Bool, true, false, Some, refl, ltb-true, ne_eqb, ◌≡◌, ℕ, ◌<◌, List, get_or, sym, ap, ◌∙◌, arith}
use lib.Bits.{bit_xor}
use Rattle.code.specs.Codes.{code_of}
use Rattle.code.specs.Entries.{entry_of}
use Rattle.counter.specs.Reading.{data_at}
use Rattle.code.proofs.ReadingLaws.{entry_at, clean_code}
use Rattle.counter.proofs.PlainBytes.{plain_more}
use Rattle.counter.proofs.BitMarks.{or_left, or_right, xor_none}
use Rattle.counter.proofs.reading.plain_word.Goals as goal
use Rattle.counter.proofs.reading.plain_word.Goals.{then-apart-eq0, else-apart-eq0}
use Rattle.std.specs.Bool.{then_some}

pub loop-n-init : goal.loop-n-init
loop-n-init c =
    record {
      rule = λ b h. ap (λ (table : List ℕ). get_or table b 0) c.lent-table.ensures ∙ entry_at b h;
      plain = λ same clean. (omega arith, λ k l. absurd (omega arith));
    }

pub loop-n-preserved : goal.loop-n-preserved
loop-n-preserved c =
    let wide = c.from in
    let other = c.byte_of in
    let own = c.byte_of-byte in
    let loop = c.loop-n in
    let s = c.args in
    let byte : ℕ → ℕ = data_at s.image.now s.map.now in
    let read : wide.result ≡ byte loop.n = wide.ensures ∙ own.ensures in
    let small : byte loop.n < 256 = rw (← own.ensures) c.byte_of-byte.type_inv in
    let found = get_or c.lent-table.result.now wide.result 0 in
    let entry : found ≡ entry_of (byte loop.n) = loop.invariant.rule wide.result (rw read small) ∙ ap entry_of read in
    let differ = bit_xor own.result other.result in
    record {
      rule = loop.invariant.rule;
      plain =
          λ same clean.
          let equal : own.result ≡ other.result = xor_none _ _ (omega (arith, or_right loop.apart differ, same)) in
          let low : found < 16 = omega (arith, or_right loop.seen found, clean) in
          let before = loop.invariant.plain (omega (arith, or_left loop.apart differ, same)) (omega (arith, or_left loop.seen found, clean)) in
          rw c.from-in-loop-n.ensures
          (plain_more byte loop.word found loop.n before (omega arith) low
          (clean_code (byte loop.n) small (rw entry at low) ∙ ap code_of (sym entry))
          (sym other.ensures ∙ sym equal ∙ own.ensures));
    }

-- what `then_some` gave was kept where the test held
kept : (b : Bool) (x w : ℕ) → then_some b x ≡ Some w → (b ≡ true) × (x ≡ w)
kept true x w e = (refl, cc)
kept false x w e = absurd (false≢true cc)

pub returns : goal.returns
returns c word e =
    let loop = c.loop-n in
    let got = kept _ loop.word word (sym c.then_some.ensures ∙ e) in
    let clean : (loop.apart ≡ 0) × (loop.seen < 16) =
    elim c.if-apart-eq0.branch [
      | then-apart-eq0 w ↦ (w.if-apart-eq0.true, ltb-true _ _ (sym w.then_some-is ∙ got.0))
      | else-apart-eq0 w ↦ absurd (false≢true (sym (ne_eqb _ _ w.if-apart-eq0.false) ∙ sym w.then_some-is ∙ got.0))
    ] in
    let end : loop.n ≡ 8 = omega arith in
    rw (end, got.1) at (loop.invariant.plain clean.0 clean.1).1
