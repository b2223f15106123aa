-- The lines of what a card answers fit in their text; and the code of that answer.
use Prim.Native.Nat.{ℕ, ◌+◌, ◌≤◌, ◌<◌, ◌^◌}
use mathlib.Core.Path.{◌≡◌, refl}
use native.Mathlib.Omega.{arith}
use lib.IntN.{ℤ}
use lib.ListN.{length}
use mir.Syntax.{w64}
use mir.Val.{SFits}
use Rattle.text.specs.Text.{bytes_of, decimal, signed, line}
use Rattle.text.proofs.Decimals.{length_u32, length_u64, length_i64}
use Rattle.text.proofs.Writing.{length_line}
use Rattle.std.specs.Prelude.{Result, Ok, Err}
use Rattle.card.specs.declared.Wear.{Wear}
use Rattle.card.specs.declared.Refusal.{Refusal}
use Rattle.card.specs.Refusals.{code_of}
use Rattle.card.specs.Answers.{answered}
use Rattle.stylus.specs.Prints.{first_longest, last_longest}

-- the code of an answer, by number or as it was given
pub same_code : (answer : Result Wear Refusal) → code_of answer ≡ (answered answer).code
same_code (Ok wear) = refl
same_code (Err refusal) = refl

pub first_fit : (read code used : ℕ) → read < 2 ^ 32 → code < 2 ^ 32 → used < 2 ^ 32
    → length (line (bytes_of "read") (decimal read)) + length (line (bytes_of "code") (decimal code)) + length (line (bytes_of "used") (decimal used)) ≤ first_longest
first_fit read code used first second third =
    omega (
      arith,
      length_line (bytes_of "read") (decimal read),
      length_u32 read first,
      length_line (bytes_of "code") (decimal code),
      length_u32 code second,
      length_line (bytes_of "used") (decimal used),
      length_u32 used third,
    )

pub last_fit : (left : ℤ) (time : ℕ) → SFits w64 left → time < 2 ^ 64
    → length (line (bytes_of "left") (signed left)) + length (line (bytes_of "time") (decimal time)) ≤ last_longest
last_fit left time first second =
    omega (
      arith,
      length_line (bytes_of "left") (signed left),
      length_i64 left first,
      length_line (bytes_of "time") (decimal time),
      length_u64 time second,
    )
