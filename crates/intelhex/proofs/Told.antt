-- What a door tells in numbers stands for one result: a fault and a refusal have numbers of their own, and no refusal has 0.
use Rattle.std.specs.Prelude.{Result, Ok, Err}
use Rattle.std.proofs.Common.{◌≡◌, ℕ, cond, eqb, sym, refl, ap, ◌∙◌, arith, ne_eqb}
use Rattle.intelhex.specs.declared.Answer.{Answer}
use Rattle.intelhex.specs.declared.Fault.{Fault}
use Rattle.intelhex.specs.declared.Fault.TheVariants.{Malformed, Checksum, Kind, PastEnd, Twice, Missing}
use Rattle.intelhex.specs.declared.Refusal.{Refusal}
use Rattle.intelhex.specs.declared.Refusal.TheVariants.{AtLine, BadLength, NoRoom}
use Rattle.intelhex.specs.Doors.{number_of, refusal_told, written_told, read_told}

pub no_fault : (fault : Fault) → number_of fault ≡ 0 → ⊥
no_fault Malformed none = absurd (omega (arith, none))
no_fault Checksum none = absurd (omega (arith, none))
no_fault Kind none = absurd (omega (arith, none))
no_fault PastEnd none = absurd (omega (arith, none))
no_fault Twice none = absurd (omega (arith, none))
no_fault Missing none = absurd (omega (arith, none))

pub no_refusal : (refusal : Refusal) → (refusal_told refusal).code ≡ 0 → ⊥
no_refusal (AtLine fault line) none = no_fault fault none
no_refusal BadLength none = absurd (omega (arith, none))
no_refusal NoRoom none = absurd (omega (arith, none))

-- the fault, the refusal and the result that numbers stand for
abbrev fault_in : ℕ → Fault
fault_in n =
    cond (eqb n 1) Malformed (cond (eqb n 2) Checksum (cond (eqb n 3) Kind (cond (eqb n 4) PastEnd (cond (eqb n 5) Twice Missing))))

abbrev refusal_in : Answer → Refusal
refusal_in a = cond (eqb a.code 7) BadLength (cond (eqb a.code 8) NoRoom (AtLine (fault_in a.code) a.line))

refusal_back : (refusal : Refusal) → refusal_in (refusal_told refusal) ≡ refusal
refusal_back (AtLine Malformed line) = refl
refusal_back (AtLine Checksum line) = refl
refusal_back (AtLine Kind line) = refl
refusal_back (AtLine PastEnd line) = refl
refusal_back (AtLine Twice line) = refl
refusal_back (AtLine Missing line) = refl
refusal_back BadLength = refl
refusal_back NoRoom = refl

abbrev result_in : {A : Type 0} → (ℕ → A) → Answer → Result A Refusal
result_in done a = cond (eqb a.code 0) (Ok (done a.length)) (Err (refusal_in a))

refused_back : {A : Type 0} (done : ℕ → A) (refusal : Refusal) → result_in done (refusal_told refusal) ≡ Err refusal
refused_back done refusal = rw (ne_eqb (refusal_told refusal).code 0 (no_refusal refusal)) (ap Err (refusal_back refusal))

written_back : (written : Result ℕ Refusal) → result_in (λ n. n) (written_told written) ≡ written
written_back (Ok length) = refl
written_back (Err refusal) = refused_back (λ n. n) refusal

read_back : (read : Result (Unit {0}) Refusal) → result_in (λ n. tt) (read_told read) ≡ read
read_back (Ok done) = refl
read_back (Err refusal) = refused_back (λ n. tt) refusal

-- two results that tell the same are the same
pub written_alike : (one two : Result ℕ Refusal) → written_told one ≡ written_told two → one ≡ two
written_alike one two same = sym (written_back one) ∙ ap (result_in (λ n. n)) same ∙ written_back two

pub read_alike : (one two : Result (Unit {0}) Refusal) → read_told one ≡ read_told two → one ≡ two
read_alike one two same = sym (read_back one) ∙ ap (result_in (λ n. tt)) same ∙ read_back two
