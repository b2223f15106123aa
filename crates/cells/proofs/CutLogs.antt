-- A log that is cut, write by write.
--   tear_here       without power the first write is torn
--   tear_later      with power it is made, and the rest is cut
--   cut_at          with power for so many writes the one behind them is torn
use Prim.Native.Nat.{ℕ, suc}
use mathlib.Core.Path.{◌≡◌, refl, ap, ◌∙◌}
use mathlib.Core.List.{List, [], ◌∷◌, ◌++◌}
use lib.ListN.{length}
use Rattle.cells.specs.Chip.{Chip, write_at}
use Rattle.cells.specs.Run.{Write, Run, Seen, view}
use Rattle.cells.specs.Log.{write_all}
use Rattle.cells.specs.Cut.{Cut.lost, tear, cut}

module _ {A : Type 0} (b : ℕ) (w : Write) (ws : List Write) (v : Seen A) (s : Chip) where
  pub tear_here : tear 0 b (w ∷ ws) v s ≡ lost w.at (write_at w.at b s)
  unfolding tear
  tear_here = refl

  pub tear_later : (n : ℕ) → tear (suc n) b (w ∷ ws) v s ≡ tear n b ws v (write_at w.at w.byte s)
  unfolding tear
  tear_later n = refl

-- with power for the first writes of a log the next one is torn
tear_at : {A : Type 0} (b : ℕ) (l : List Write) (w : Write) (m : List Write) (v : Seen A) (s : Chip) → tear (length l) b (l ++ (w ∷ m)) v s ≡ lost w.at (write_at w.at b (write_all l s))
unfolding tear write_all
tear_at b [] w m v s = refl
tear_at b (x ∷ l) w m v s = tear_at b l w m v (write_at x.at x.byte s)

pub cut_at : {A : Type 0} (b : ℕ) (r : Run A) (s : Chip) (l : List Write) (w : Write) (m : List Write) → r.log ≡ l ++ (w ∷ m) → cut (length l) b r s ≡ lost w.at (write_at w.at b (write_all l s))
cut_at b r s l w m e = ap (λ (log : List Write). tear (length l) b log (view r) s) e ∙ tear_at b l w m (view r) s
