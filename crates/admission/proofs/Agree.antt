-- The verdict finds nothing wrong exactly in a well-formed image of an admissible program. Assumes nothing.
use Prim.Native.Nat.{ℕ, zero, suc, ◌+◌, ◌<◌}
use mathlib.Core.Bool.{Bool, true, false, ◌||◌}
use mathlib.Core.Path.{◌≡◌, refl, sym, ◌∙◌, ap, subst}
use mathlib.Core.List.{List, [], ◌∷◌}
use mathlib.Core.Logic.{◌↔◌, ⊎_elim}
use native.Mathlib.Nat.{eq-or-lt_of_le, le_of_suc-le-suc, not-suc-le-zero}
use native.Mathlib.Omega.{arith}
use lib.Dec.{eqb}
use Rattle.std.specs.Prelude.{Result, Ok}
use Rattle.basis.specs.Answers.{under}
use Rattle.basis.proofs.Says.{Says, Tests, says_always, says_demand, says_both, says_each, tests_both, tests_lt, tests_le, tests_eq}
use Rattle.runtime.specs.Profile.{profile_fault, Usable}
use Rattle.runtime.specs.declared.CoreAdmissionProfile.{CoreAdmissionProfile}
use Rattle.runtime.proofs.Usable.{usable_valid, valid_usable}
use Rattle.instr.specs.declared.Instr.{Instr}
use Rattle.image.specs.Fields.{Use, fields_of}
use Rattle.image.specs.Fields.Use.{unused, register, quad, bool, signed, unsigned, target, callee, arg_base, arg_count}
use Rattle.image.specs.Records.{RecordLayout}
use Rattle.image.specs.WellFormed.{WellFormed}
use Rattle.image.specs.Program.{Program, decode}
use Rattle.image.proofs.Agree.{well_formed}
use Rattle.image.specs.Parts.{functions_of, regs_of, length_of, code_of, Ret}
use Rattle.admission.specs.Verdict.{verdict_numbers, register_fault, jump_fault, call_fault, window_fault, field_fault, fields_fault, instr_fault, returns_before, code_fault, function_fault, program_fault, verdict}
use Rattle.admission.specs.declared.CoreValidationError.{CoreValidationError}
use Rattle.admission.proofs.Unique.{verdict_unique}
use Rattle.admission.specs.Admissible.{Allowed, Operands, FunctionRule, Admissible}

says_field : (u : Use) (p : Program) (k : ℕ) (i : Instr) (x : ℕ) → Says (field_fault u p k i x) (Allowed u p k i x)
unfolding field_fault register_fault jump_fault call_fault window_fault
says_field unused p k i x = says_always
says_field register p k i x = says_demand _ _ _ (tests_lt x (regs_of p k))
says_field quad p k i x = says_always
says_field bool p k i x = says_always
says_field signed p k i x = says_always
says_field unsigned p k i x = says_always
says_field target p k i x = says_demand _ _ _ (tests_lt x (length_of p k))
says_field callee p k i x = says_demand _ _ _ (tests_lt x (functions_of p))
says_field arg_base p k i x = says_always
says_field arg_count p k i x =
    says_demand _ _ _ (tests_both _ _ (tests_le (i.c + x) (regs_of p k)) (tests_le x (regs_of p i.b)))

says_instr : (p : Program) (k : ℕ) (i : Instr) → Says (instr_fault p k i) (Operands p k i)
unfolding instr_fault fields_fault
says_instr p k i =
    let u = fields_of i.op in
    let r = says_both _ _ (says_field u.small p k i i.small) (says_both _ _ (says_field u.a p k i i.a) (says_both _ _ (says_field u.b p k i i.b) (says_both _ _ (says_field u.c p k i i.c) (says_field u.w p k i i.w)))) in (
      λ e. let x = r.0 e in record { small = x.0; a = x.1.0; b = x.1.1.0; c = x.1.1.1.0; w = x.1.1.1.1 },
      λ o. r.1 (o.small, (o.a, (o.b, (o.c, o.w)))),
    )

-- ---- some instruction before place n returns
abbrev ReturnsBefore : (ℕ → Instr) → ℕ → Type 0
ReturnsBefore code n = (j : ℕ) × (j < n) × ((code j).op ≡ Ret)

one_more : (code : ℕ → Instr) (n : ℕ) (b : Bool) → Tests b (ReturnsBefore code n) → Tests (b || eqb (code n).op Ret) (ReturnsBefore code (suc n))
one_more code n true t = (λ e. let x = t.0 refl in (x.0, let l = x.1 in omega arith, x.2), λ x. refl)
one_more code n false t =
    let last = tests_eq (code n).op Ret in (
      λ e. (n, omega arith, last.0 e),
      λ x. ⊎_elim (λ m. last.1 (subst (λ (y : ℕ). (code y).op ≡ Ret) m x.2)) (λ l. let z = t.1 (x.0, l, x.2) in cc) (eq-or-lt_of_le (le_of_suc-le-suc x.1)),
    )

tests_returns : (code : ℕ → Instr) (n : ℕ) → Tests (returns_before code n) (ReturnsBefore code n)
unfolding returns_before
tests_returns code zero =
    (λ e. absurd (let z : ◌≡◌ {A = ℕ} 0 1 = cc in omega arith), λ x. absurd (not-suc-le-zero x.1))
tests_returns code (suc n) = one_more code n (returns_before code n) (tests_returns code n)

-- ---- functions, programs, images
module _ (profile : CoreAdmissionProfile) (p : Program) where
  says_function : (k : ℕ) → Says (function_fault profile p k) (FunctionRule profile p k)
  unfolding function_fault code_fault
  says_function k =
      let operands = says_each _ _ (length_of p k) (λ j. says_instr p k (code_of p k j)) in
      let returns = says_demand _ 19 (k ∷ []) (tests_returns (code_of p k) (length_of p k)) in
      let r = says_both _ _ (says_demand _ _ _ (tests_le (regs_of p k) profile.max_registers)) (says_both _ _ (says_demand _ _ _ (tests_le (length_of p k) profile.max_instrs_per_function)) (says_both _ _ operands returns)) in (
        λ e. let x = r.0 e in record { registers = x.0; size = x.1.0; operands = x.1.1.0; returns = x.1.1.1 },
        λ f. r.1 (f.registers, (f.size, (f.operands, f.returns))),
      )

  under_nothing : (n : ℕ) (a : List ℕ) → under n a ≡ [] → a ≡ []
  under_nothing n [] e = refl
  under_nothing n (x ∷ xs) e = let z : ◌≡◌ {A = ℕ} 0 1 = cc in absurd (omega arith)

  says_profile : Says (under 10 (profile_fault profile)) (Usable profile)
  says_profile = (λ e. valid_usable profile (under_nothing 10 _ e), λ u. rw (usable_valid profile u))

  pub says_program : Says (program_fault profile p) (Admissible profile p)
  unfolding program_fault
  says_program =
      let n = functions_of p in
      let functions = says_each (function_fault profile p) (FunctionRule profile p) n says_function in
      let entry = says_demand _ 12 (p.entry ∷ []) (tests_lt p.entry n) in
      let few = says_demand _ 13 (n ∷ profile.max_functions ∷ []) (tests_le n profile.max_functions) in
      let some = says_demand _ 11 [] (tests_lt 0 n) in
      let r = says_both _ _ says_profile (says_both _ _ some (says_both _ _ few (says_both _ _ entry functions))) in (
        λ e. let x = r.0 e in record { usable = x.0; some = x.1.0; few = x.1.1.0; entry = x.1.1.1.0; each = x.1.1.1.1 },
        λ a. r.1 (a.usable, (a.some, (a.few, (a.entry, a.each)))),
      )

-- admitted exactly where the image is well formed and its program admissible, for every list of bytes and every profile
pub admitted : (L : RecordLayout) (s : List ℕ) (profile : CoreAdmissionProfile) → (verdict L s profile ≡ []) ↔ (WellFormed L s × Admissible profile (decode L s))
unfolding verdict
admitted L s profile = says_both _ _ (well_formed L s) (says_program profile (decode L s))

-- the same of the verdict itself: whatever meets the promise of `validate_program` is Ok exactly there
pub admits : (L : RecordLayout) (s : List ℕ) (profile : CoreAdmissionProfile) (v : Result Unit CoreValidationError) → verdict_numbers v ≡ verdict L s profile → (v ≡ Ok tt) ↔ (WellFormed L s × Admissible profile (decode L s))
admits L s profile v e =
    let a = admitted L s profile in
    (λ q. a.0 (sym e ∙ ap verdict_numbers q), λ x. verdict_unique v (Ok tt) (e ∙ a.1 x))

-- on well-formed images the verdict depends on the decoded program and the profile alone, whatever the layouts are
pub same_program : (L M : RecordLayout) (s t : List ℕ) (profile : CoreAdmissionProfile) → WellFormed L s → WellFormed M t → decode L s ≡ decode M t → verdict L s profile ≡ verdict M t profile
unfolding verdict
same_program L M s t profile W X e = rw ((well_formed L s).1 W, (well_formed M t).1 X, e)
