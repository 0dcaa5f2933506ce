-- One verdict only has each of the paper's numbers, so a promise made through them fixes the verdict. Assumes nothing.
use Prim.Native.Nat.{ℕ}
use mathlib.Core.Bool.{Bool, false}
use mathlib.Core.Path.{◌≡◌, refl, sym, ap, ◌∙◌}
use mathlib.Core.List.{List, [], ◌∷◌}
use lib.ListN.{get_or}
use lib.Dec.{eqb}
use Rattle.std.specs.Prelude.{Result, Ok, Err}
use Rattle.basis.specs.Choice.{pick}
use Rattle.basis.specs.Answers.{is_fine}
use Rattle.runtime.specs.declared.CoreAdmissionProfile.{CoreAdmissionProfile}
use Rattle.image.specs.Records.{RecordLayout}
use Rattle.image.specs.declared.ImageFault.TheVariants.{Short, Form, Layout, FunctionTable, Instruction}
use Rattle.image.proofs.Unique.{fault_of}
use Rattle.admission.specs.Verdict.{refusal_numbers, verdict_numbers, verdict}
use Rattle.runtime.proofs.Unique.{error_of, error_back}
use Rattle.runtime.specs.declared.CoreProfileError.TheVariants.{ZeroLimit, UnboundedLimit}
use Rattle.admission.specs.declared.CoreValidationError.{CoreValidationError}
use Rattle.admission.specs.declared.CoreValidationError.TheVariants.{Image, Profile, EmptyProgram, InvalidEntry, TooManyFunctions, TooManyRegisters, TooManyInstructions, InvalidRegister, InvalidJump, InvalidCall, MissingReturn, InvalidArgWindow}

-- the verdict that has these numbers
verdict_of : List ℕ → Result Unit CoreValidationError
verdict_of ns =
    let is : ℕ → Bool = λ n. eqb (get_or ns 0 0) n in
    let x = get_or ns 1 0 in
    let y = get_or ns 2 0 in
    let z = get_or ns 3 0 in
    pick (is 0) (Ok tt)
    (Err (pick (is 10) (Profile (error_of (x ∷ y ∷ [])))
    (pick (is 11) EmptyProgram
    (pick (is 12) (InvalidEntry x)
    (pick (is 13) (TooManyFunctions x y)
    (pick (is 14) (TooManyRegisters x y z)
    (pick (is 15) (TooManyInstructions x y z)
    (pick (is 16) (InvalidRegister x y)
    (pick (is 17) (InvalidJump x y)
    (pick (is 18) (InvalidCall x y)
    (pick (is 19) (MissingReturn x)
    (pick (is 20) (InvalidArgWindow x y z)
    (Image (fault_of ns))))))))))))))

verdict_back : (v : Result Unit CoreValidationError) → verdict_of (verdict_numbers v) ≡ v
unfolding verdict_of fault_of error_of
verdict_back (Ok u) = refl
verdict_back (Err (Image Short)) = refl
verdict_back (Err (Image Form)) = refl
verdict_back (Err (Image Layout)) = refl
verdict_back (Err (Image (FunctionTable k))) = refl
verdict_back (Err (Image (Instruction k))) = refl
verdict_back (Err (Profile (ZeroLimit f))) = ap (λ e. Err (Profile e)) (error_back (ZeroLimit f))
verdict_back (Err (Profile (UnboundedLimit f))) = ap (λ e. Err (Profile e)) (error_back (UnboundedLimit f))
verdict_back (Err EmptyProgram) = refl
verdict_back (Err (InvalidEntry e)) = refl
verdict_back (Err (TooManyFunctions n m)) = refl
verdict_back (Err (TooManyRegisters k r m)) = refl
verdict_back (Err (TooManyInstructions k n m)) = refl
verdict_back (Err (InvalidRegister k r)) = refl
verdict_back (Err (InvalidJump k t)) = refl
verdict_back (Err (InvalidCall k t)) = refl
verdict_back (Err (MissingReturn k)) = refl
verdict_back (Err (InvalidArgWindow k b n)) = refl

-- a refusal is a fault
pub refusal_unfine : (e : CoreValidationError) → is_fine (refusal_numbers e) ≡ false
refusal_unfine (Image Short) = refl
refusal_unfine (Image Form) = refl
refusal_unfine (Image Layout) = refl
refusal_unfine (Image (FunctionTable k)) = refl
refusal_unfine (Image (Instruction k)) = refl
refusal_unfine (Profile error) = refl
refusal_unfine EmptyProgram = refl
refusal_unfine (InvalidEntry e) = refl
refusal_unfine (TooManyFunctions n m) = refl
refusal_unfine (TooManyRegisters k r m) = refl
refusal_unfine (TooManyInstructions k n m) = refl
refusal_unfine (InvalidRegister k r) = refl
refusal_unfine (InvalidJump k t) = refl
refusal_unfine (InvalidCall k t) = refl
refusal_unfine (MissingReturn k) = refl
refusal_unfine (InvalidArgWindow k b n) = refl

pub verdict_unique : (v u : Result Unit CoreValidationError) → verdict_numbers v ≡ verdict_numbers u → v ≡ u
verdict_unique v u e = sym (verdict_back v) ∙ ap verdict_of e ∙ verdict_back u

-- just one verdict meets the promise of `validate_program`
pub one_verdict : (L : RecordLayout) (s : List ℕ) (profile : CoreAdmissionProfile) (v u : Result Unit CoreValidationError) → verdict_numbers v ≡ verdict L s profile → verdict_numbers u ≡ verdict L s profile → v ≡ u
one_verdict L s profile v u p q = verdict_unique v u (p ∙ sym q)
