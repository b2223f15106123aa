-- `map::Map::cells` meets its contract.
use Rattle.std.proofs.Common.{◌≡◌, ℕ, ◌+◌, ◌-◌, take, drop, ap, ◌∙◌, arith}
use Rattle.counter.proofs.map.Map.cells.Goals as goal

pub returns : goal.returns
returns c =
    let s = c.args in
    let long : s.self.place + 24 - s.self.place ≡ 24 = omega arith in
    let whole = rw c.unwrap.ensures at c.as_array.ensures.cases in
    whole.same ∙ ap (λ (n : ℕ). take n (drop s.self.place s.image.now)) long
