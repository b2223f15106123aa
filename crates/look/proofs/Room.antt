-- The lines of an answer and of a bit are no longer than is said.
use Prim.Native.Nat.{ℕ, ◌+◌, ◌^◌, ◌≤◌, ◌<◌}
use native.Mathlib.Omega.{arith}
use lib.ListN.{length}
use mir.Syntax.{w64}
use mir.Val.{SFits}
use Rattle.counter.specs.declared.verdict.Answer.{Answer}
use Rattle.text.specs.Text.{decimal, signed, line}
use Rattle.text.proofs.Writing.{length_four, length_line}
use Rattle.text.proofs.Decimals.{length_u32, length_u64, length_i64}
use Rattle.look.specs.Look.{code_key, count_key, lag_key, place_key, bit_key, answer_text, answer_longest, bit_longest}

module _ (a : Answer) (code : a.code < 2 ^ 32) (count : a.count < 2 ^ 32) (lag : SFits w64 a.lag) (place : a.place < 2 ^ 64) where
  pub lines_fit : length (line code_key (decimal a.code)) + length (line count_key (decimal a.count))
      + length (line lag_key (signed a.lag)) + length (line place_key (decimal a.place)) ≤ answer_longest
  lines_fit =
      simp length_line
      (omega (arith, length_u32 a.code code, length_u32 a.count count, length_i64 a.lag lag, length_u64 a.place place))

  pub text_fits : length (answer_text a) ≤ answer_longest
  unfolding answer_text
  text_fits = rw length_four lines_fit

pub bit_fits : (i n : ℕ) → n < 2 ^ 32 → length (line (bit_key i) (decimal n)) ≤ bit_longest
bit_fits i n small = simp length_line (omega (arith, length_u32 n small))
