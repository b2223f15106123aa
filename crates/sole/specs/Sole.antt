-- No second answer (document 01, "What the promises owe", (a)), said of a function's own contract: of two ends of a call that it
-- allows, for whatever was lent, a caller sees the same. An end is the result and what stands in the parameters at exit.
use Rattle.std.specs.Prelude.{◌≡◌, List, ℕ}
use Rattle.cells.specs.Chip.{Chip, chip}
use seplogic.Ra.Ura.{Ura}
use base.Logic.{ent}
use contract.Conj.{conj}
use contract.Fact.{fact}
use contract.Lifetimes.{Lfts}
use denote.Triple.Clauses.{Ended, Clauses, AtExit}
use denote.Triple.Entry.{Res}

-- a result beside the chip as it is left
pub record Left (R : Type 0) : Type 0 where
  pub result : R
  pub chip : Chip

abbrev pub left : {R : Type 0} → R → List ℕ → List ℕ → Left R
left r cells lives = record { result = r; chip = chip cells lives }

-- a part handed back: where it starts, its cells, and the code beside it
pub record Handed : Type 0 where
  pub place : ℕ × ℕ
  pub cells : List ℕ
  pub code : ℕ

abbrev pub handed : ℕ × ℕ → List ℕ → ℕ → Handed
handed place cells code = record { place = place; cells = cells; code = code }

-- a result, as where what was written ends, beside the lent bytes as they are left
pub record Filled (R : Type 0) : Type 0 where
  pub result : R
  pub bytes : List ℕ

abbrev pub filled : {R : Type 0} → R → List ℕ → Filled R
filled r bytes = record { result = r; bytes = bytes }

-- a result beside two lent rows as they are left
pub record FilledRows (R : Type 0) : Type 0 where
  pub result : R
  pub counts : List ℕ
  pub codes : List ℕ

abbrev pub filled_rows : {R : Type 0} → R → List ℕ → List ℕ → FilledRows R
filled_rows r counts codes = record { result = r; counts = counts; codes = codes }

-- what a caller sees of an end
abbrev pub Sight : Ended → Type 0 → Type 0
Sight T Seen = (κs : Lfts T.signature.lifetimes) → Res T.signature κs → AtExit T κs → Seen

abbrev pub Sole : {M : Type 1} (𝓤 : Ura M) (T : Ended) → Clauses 𝓤 T → {Seen : Type 0} → Sight T Seen → Type 1
Sole 𝓤 T promise sees =
    (κs : _) (lent : _) (ghost : (promise κs lent).ghost) (one two : _) (left right : _)
    → ent 𝓤
    (conj 𝓤 ((promise κs lent).ensures ghost one left) ((promise κs lent).ensures ghost two right))
    (fact 𝓤 (sees κs one left ≡ sees κs two right))
