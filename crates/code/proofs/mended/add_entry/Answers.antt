-- `mended::add_entry` meets its contract: a mended entry adds to the count of its bit, and any other to none.
use Prim.Native.Nat.{◌<◌}
use mathlib.Core.Path.{sym, ◌∙◌}
use native.Mathlib.Omega.{arith}
use native.Mathlib.Nat.{add-zero}
use lib.ListN.{length-set}
use Rattle.code.specs.Mended.{mended_in}
use Rattle.code.proofs.ReadingLaws.{entry_bit}
use Rattle.code.proofs.MendedLaws.{one_more, in_none}
use Rattle.code.proofs.mended.add_entry.Goals as goal

pub returns-in-Mended : goal.returns-in-Mended
unfolding mended_in
returns-in-Mended c =
    let reads = sym c.reading_at.ensures ∙ c.in-Mended.is in
    let inside : c.wide.result < 8 = rw c.wide.ensures.0 (entry_bit c.args.entry _ _ reads) in (
      simp length-set c.requires.0,
      λ i l. rw (reads, ← c.wide.ensures.0) (one_more c.args.counts.now c.wide.result (omega (arith, inside, c.requires.0)) i),
    )

pub returns-in_default : goal.returns-in_default
returns-in_default c =
    (c.requires.0, λ i l. rw (sym c.reading_at.ensures, in_none i c.reading_at.result c.in_default.not-Mended) (sym (add-zero _)))
