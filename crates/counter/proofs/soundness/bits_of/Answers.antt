-- `soundness::bits_of` meets its contract: the slots passed are marked.
use Rattle.std.proofs.Common.{◌≡◌, ℕ, ◌+◌, ◌%◌, ◌<◌, ◌⊎◌, inl, inr, arith}
use native.Mathlib.Decide.{dec_lt}
use Rattle.counter.specs.Inside.{Among}
use Rattle.counter.proofs.BitMarks.{marks_more, marks_same}
use Rattle.counter.proofs.soundness.bits_of.Goals as goal

-- a slot of one nibble more
passed : (from n k : ℕ) → n < 8 → Among from (n + 1) k → (Among from n k ⊎ (k ≡ n)) ⊎ (k ≡ 8 + n)
passed from n k l (m, least, most) = go (dec_lt (k % 8) n) (dec_lt k 8)
  where
    go : Dec (k % 8 < n) → Dec (k < 8) → (Among from n k ⊎ (k ≡ n)) ⊎ (k ≡ 8 + n)
    go (yes h) g = inl (inl (m, least, h))
    go (no h) (yes g) = inl (inr (omega arith))
    go (no h) (no g) = inr (omega arith)

pub loop-n-preserved : goal.loop-n-preserved
loop-n-preserved c =
    let loop = c.loop-n in
    let n = loop.n in
    rw (c.with_bit-bits-in-loop-n.ensures, c.with_bit-bits.ensures, c.pointer_of.ensures.0, c.pointer_of-in-loop-n.ensures.0)
    (marks_same (marks_more (marks_more loop.invariant n) (8 + n)) (λ k o. passed c.args.from n k (omega arith) o) (omega arith))
