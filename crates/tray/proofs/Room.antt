-- The line of an image is no longer than is said.
use Prim.Native.Nat.{ℕ, ◌+◌, ◌^◌, ◌≤◌, ◌<◌}
use native.Mathlib.Omega.{arith}
use lib.ListN.{length, length-append}
use Rattle.text.specs.Text.{bytes_of}
use Rattle.text.proofs.Writing.{length_four}
use Rattle.text.proofs.Decimals.{length_u32, length_u64}
use Rattle.tray.specs.Prints.{field, line_of, line_longest}

-- what its numbers and its line feed come to
abbrev pub Fit : ℕ → ℕ → ℕ → Type 0
Fit number code count =
    length (field (bytes_of "number=") number) + length (field (bytes_of " code=") code)
    + length (field (bytes_of " count=") count) + 1 ≤ line_longest

module _ (number code count : ℕ) (first : number < 2 ^ 64) (second : code < 2 ^ 32) (third : count < 2 ^ 32) where
  pub fields_fit : Fit number code count
  fields_fit = simp length-append (omega (arith, length_u64 number first, length_u32 code second, length_u32 count third))

  pub line_fits : length (line_of number code count) ≤ line_longest
  unfolding line_of
  line_fits = rw length_four fields_fit
