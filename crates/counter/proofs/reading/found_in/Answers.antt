-- `reading::found_in` meets its contract: bytes that are the same codes in both copies hold their count exactly.
use mathlib.Core.Bool.{false≢true}
use Rattle.std.proofs.Common.{◌≡◌, ℕ, ◌^◌, ◌<◌, Err, sym, ap, ◌∙◌, to_z-of_z, w64, arith, rules}
use Rattle.counter.specs.Verdict.{read_as}
use Rattle.counter.specs.Reading.{data_at}
use Rattle.counter.specs.Store.{slot_code}
use Rattle.counter.proofs.ReadBack.{weigh_exact}
use Rattle.counter.proofs.Weighed.{weigh_same}
use Rattle.counter.proofs.PlainBytes.{plain_held}
use Rattle.counter.specs.Layout.{two}
use Rattle.counter.proofs.reading.found_in.Goals as goal

pub returns-in-Some : goal.returns-in-Some
returns-in-Some c =
    let word = c.in-Some.word in
    let s = c.args in
    let byte : ℕ → ℕ = data_at s.image.now s.map.now in
    let facts = c.plain_word.ensures word c.in-Some.is in
    let fits : word < 2 ^ 32 = search rules in
    let count = c.count_of.ensures in
    let held : (k : ℕ) → k < 16 → byte k ≡ slot_code c.count_of.result k = λ k l. plain_held byte word fits facts k l ∙ ap (λ (x : ℕ). slot_code x k) (sym count) in
    let small : c.count_of.result < 4294967296 = c.count_of.type_inv in
    (sym (weigh_exact two {byte = byte} small held (omega arith)), λ e. held)

pub returns-in_err-count : goal.returns-in_err-count
returns-in_err-count c =
    let same : c.from_residual.result ≡ Err c.in_err-count.field-0.0 = search rules in
    rw same (c.in_err-count.ensures ∙ weigh_same _ _ c.data_of.ensures, tt)

pub returns : goal.returns
returns c =
    let exact = to_z-of_z {w = w64} {z = c.in_ok-count.lag} (search rules) in
    (ap (read_as c.in_ok-count.count) exact ∙ c.in_ok-count.ensures ∙ weigh_same _ _ c.data_of.ensures, λ e. absurd (false≢true e))
