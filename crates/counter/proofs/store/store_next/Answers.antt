-- `store::store_next` meets its contract: what changes is one nibble, in each copy.
use Rattle.counter.specs.Verdict.{Work}
use Rattle.std.proofs.Common.{◌≡◌, ◌+◌, ◌/◌, ◌<◌, sym, ap, ◌∙◌, arith, rules}
use Rattle.code.specs.Codes.{code_of}
use Rattle.code.specs.Gray.{gray_of}
use Rattle.code.specs.Nibbles.{nibble_of}
use Rattle.code.proofs.ChangeLaws.{step_nibble_small}
use Rattle.cells.specs.Run.{Run, view}
use Rattle.counter.proofs.NextStores.{changed_nibble, next_is}
use Rattle.counter.proofs.store.store_next.Goals as goal

pub store_pair-requires : goal.store_pair-requires
store_pair-requires c =
    let here : c.changed_bit.result / 4 ≡ changed_nibble c.args.count =
    rw c.changed_bit.ensures in
    let small : c.changed_bit.result / 4 < 8 =
    omega (arith, here, step_nibble_small c.args.count (omega (arith, c.requires.2))) in
    (search rules, search rules, small)

pub returns : goal.returns
returns c =
    let here : c.changed_bit.result / 4 ≡ changed_nibble c.args.count =
    rw c.changed_bit.ensures in
    let code :
    c.code_of-byte.result ≡ code_of (nibble_of (gray_of (c.args.count + 1)) (c.changed_bit.result / 4)) =
    c.code_of-byte.ensures ∙ ap code_of (c.nibble_of.ensures ∙ ap (λ w. nibble_of w (c.changed_bit.result / 4)) c.gray_of.ensures) in
    c.store_pair.ensures
    ∙ sym (ap (λ (r : Run Work). view r) (next_is _ c.args.count _ c.requires.0 c.requires.1 c.requires.2 c.requires.3 here code))
