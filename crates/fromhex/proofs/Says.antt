-- The line of a refusal: the place before its words, and that there is a line just where a text is refused.
use Prim.Native.Nat.{ℕ, ◌<◌}
use mathlib.Core.Path.{◌≡◌, refl}
use mathlib.Core.Bool.{Bool, true, false, cond}
use mathlib.Core.List.{List, [], ◌++◌}
use native.Mathlib.Omega.{arith}
use borrow.Author.Tests.{ne_eqb, eqb-true}
use lib.Dec.{eqb}
use lib.ListN.{length, length-append}
use Rattle.intelhex.specs.declared.Answer.{Answer}
use Rattle.intelhex.specs.declared.Fault.{Fault}
use Rattle.intelhex.specs.declared.Fault.TheVariants.{Malformed, Checksum, Kind, PastEnd, Twice, Missing}
use Rattle.intelhex.specs.declared.Refusal.TheVariants.{AtLine}
use Rattle.intelhex.specs.Doors.{number_of, refusal_told}
use Rattle.intelhex.proofs.LineLaws.{choose}
use Rattle.fromhex.specs.Refusals.{words_of, place_of, refusal_of}

-- there are words of every refusal
cond_some : (b : Bool) (xs ys : List ℕ) → 0 < length xs → 0 < length ys → 0 < length (cond b xs ys)
cond_some true xs ys some other = some
cond_some false xs ys some other = other

some_words : (code : ℕ) → 0 < length (words_of code)
unfolding words_of
some_words code =
    cond_some (eqb code 1) _ _ (omega arith)
    (cond_some (eqb code 2) _ _ (omega arith)
    (cond_some (eqb code 3) _ _ (omega arith)
    (cond_some (eqb code 4) _ _ (omega arith)
    (cond_some (eqb code 5) _ _ (omega arith)
    (cond_some (eqb code 6) _ _ (omega arith) (omega arith))))))

-- nothing is said just where a text is read
pub said_nothing : (a : Answer) → length (refusal_of a) ≡ 0 → a.code ≡ 0
unfolding refusal_of
said_nothing a none = choose (eqb a.code 0)
    (λ read. eqb-true _ _ read)
    (λ refused. absurd (omega (
      arith,
      rw refused at none,
      cond_some (eqb a.code 7) (words_of 7) (place_of a.line ++ words_of a.code) (some_words 7)
          (omega (arith, length-append (place_of a.line) (words_of a.code), some_words a.code)),
    )))

pub nothing_said : (a : Answer) → a.code ≡ 0 → refusal_of a ≡ []
unfolding refusal_of
nothing_said a read = rw read

-- where a line of the text is to blame, the words stand behind its place
pub said_of_line : (a : Answer) → (a.code ≡ 0 → ⊥) → (a.code ≡ 7 → ⊥) → refusal_of a ≡ place_of a.line ++ words_of a.code
unfolding refusal_of
said_of_line a refused sized = rw (ne_eqb a.code 0 refused, ne_eqb a.code 7 sized)

-- and so they do of a fault
pub said_of_fault : (fault : Fault) (line : ℕ) → refusal_of (refusal_told (AtLine fault line)) ≡ place_of line ++ words_of (number_of fault)
unfolding refusal_of
said_of_fault Malformed line = refl
said_of_fault Checksum line = refl
said_of_fault Kind line = refl
said_of_fault PastEnd line = refl
said_of_fault Twice line = refl
said_of_fault Missing line = refl
