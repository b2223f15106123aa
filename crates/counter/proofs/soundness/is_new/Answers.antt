-- `soundness::is_new` meets its contract.
use Rattle.std.proofs.Common.{Bool, ℕ, ◌==◌, not, refl, sym, ap, ◌∙◌, arith, rules, take, slice_index}
use Rattle.std.specs.List.{list_any}
use Rattle.std.proofs.lemmas.List.Recursion.{or_is}
use Rattle.counter.proofs.RangeTests.{every_none}
use Rattle.counter.proofs.soundness.is_new.Goals as goal

pub returns : goal.returns
returns c =
    let s = c.args in
    let own : ℕ → Bool = λ y. y == slice_index s.pointers.now s.slot in
    ap not (or_is (list_any own) own refl (λ _ _. refl) (take s.slot s.pointers.now) 0 _ (search rules) (search rules))
    ∙ sym (every_none own s.pointers.now s.slot (omega arith))
