-- The laws of the sixteen codes (document 01, "Nibbles, bytes and Gray words").
--   code_small        a code is a byte
--   code_complement   the codes of d and 15 - d are complements
--   code_apart        any two codes differ in at least four bits
--   code_zero           the code of 0
use mathlib.Core.Path.{◌≡◌, refl}
use mathlib.Core.Logic.{◌≢◌}
use mathlib.Core.Bool.{Bool, true, ◌||◌}
use Prim.Native.Nat.{ℕ, ◌+◌, ◌-◌, ◌%◌, ◌≤◌, ◌<◌}
use native.Mathlib.Nat.{mod-lt}
use borrow.Author.Tests.{ltb-true, leb-true, ne_eqb}
use lib.Count.{ones}
use lib.Dec.{ltb, leb, eqb, lit<}
use lib.ListN.{get_or}
use Rattle.code.specs.Codes.{codes, code_of, distance}
use Rattle.code.specs.Tabulate.{tabulate}
use Rattle.code.proofs.TabulateLaws.{agree}

-- a code is a byte
pub code_small : (d : ℕ) → code_of d < 256
unfolding codes code_of
code_small d =
    ltb-true _ _ (agree (λ n. ltb (get_or codes n 0) 256) (λ n. true) 16 refl (d % 16) (mod-lt d (lit< tt)))

-- the codes of d and 15 - d are complements
pub code_complement : (d : ℕ) → d < 16 → code_of d + code_of (15 - d) ≡ 255
unfolding codes code_of
code_complement = agree (λ d. code_of d + code_of (15 - d)) (λ d. 255) 16 refl

-- d and e are the same, or their codes differ in at least four bits
apart : ℕ → ℕ → Bool
apart d e = eqb d e || leb 4 (distance (code_of d) (code_of e))

-- so it is in each row of the sixteen by sixteen
row_apart : (d : ℕ) → d < 16 → tabulate (apart d) 0 16 ≡ tabulate (λ e. true) 0 16
unfolding codes code_of distance ones apart
row_apart = agree (λ d. tabulate (apart d) 0 16) (λ d. tabulate (λ e. true) 0 16) 16 refl

-- any two codes differ in at least four bits
pub code_apart : (d e : ℕ) → d < 16 → e < 16 → d ≢ e → 4 ≤ distance (code_of d) (code_of e)
unfolding apart
code_apart d e hd he differ =
    let far : apart d e ≡ true = agree (apart d) (λ e. true) 16 (row_apart d hd) e he in
    leb-true _ _ (rw (ne_eqb d e differ) at far)

-- the code of 0
pub code_zero : code_of 0 ≡ 0x80
unfolding codes code_of
code_zero = refl
