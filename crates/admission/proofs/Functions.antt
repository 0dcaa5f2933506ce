-- What each step of a function's check comes to, over plain numbers. Assumes nothing.
use Prim.Native.Nat.{ℕ, ◌+◌, ◌*◌, ◌≤◌, ◌<◌}
use mathlib.Core.Bool.{Bool, true, false, ◌||◌}
use mathlib.Core.Path.{◌≡◌, refl, sym, ◌∙◌, ap}
use mathlib.Core.List.{List, [], ◌∷◌}
use lib.Dec.{eqb}
use native.Mathlib.Numerals.{add-one}
use native.Mathlib.Omega.{arith}
use borrow.Author.Tests.{le-leb, lt-leb}
use Rattle.basis.specs.Answers.{first_of}
use Rattle.basis.proofs.First.{or_unfine, first_more, first_found}
use Rattle.runtime.specs.declared.CoreAdmissionProfile.{CoreAdmissionProfile}
use Rattle.instr.specs.declared.Instr.{Instr}
use Rattle.image.specs.Records.{form1, form1_instr, header_of, function_no, instr_place}
use Rattle.image.specs.Program.{Program, decode}
use Rattle.image.specs.Parts.{regs_of, length_of, code_of, Ret}
use Rattle.image.specs.declared.record.FunctionRecord.{FunctionRecord}
use Rattle.image.proofs.Numbers.{numbers, fetched}
use Rattle.admission.specs.Verdict.{refusal_numbers, instr_fault, returns_before, code_fault, function_fault}
use Rattle.admission.specs.declared.CoreValidationError.{CoreValidationError}
use Rattle.admission.proofs.Unique.{refusal_unfine}

abbrev pub fault_at : Program → ℕ → ℕ → List ℕ
fault_at p k j = instr_fault p k (code_of p k j)

pub returns_none : (code : ℕ → Instr) → false ≡ returns_before code 0
unfolding returns_before
returns_none code = refl

-- a function of an image, with its row of the function table
module _ (s : List ℕ) (k : ℕ) (f : FunctionRecord) (l : k < (header_of s).functions) (h : f ≡ function_no s k) where
  abbrev p : Program
  p = decode form1 s

  er : regs_of p k ≡ f.regs
  er = (numbers form1 s k (header_of s).functions f refl l h).0

  el : length_of p k ≡ f.count
  el = (numbers form1 s k (header_of s).functions f refl l h).1

  -- ---- a turn of the loop over the code
  module _ (start j : ℕ) (i : Instr) (c : start ≡ instr_place form1 (header_of s).functions f.first) (b : j < f.count) (a : i ≡ form1_instr s (start + 12 * j)) where
    fetched_here : i ≡ code_of p k j
    fetched_here = fetched s k (header_of s).functions f j i refl l h b (a ∙ ap (λ (n : ℕ). form1_instr s (n + 12 * j)) c)

    pub returns_more : (r : Bool) → r ≡ returns_before (code_of p k) j → (r || eqb i.op Ret) ≡ returns_before (code_of p k) (j + 1)
    unfolding returns_before
    returns_more r q = rw (add-one, ← q, ← fetched_here)

    module _ (none : first_of (fault_at p k) j ≡ []) where
      pub code_more : [] ≡ instr_fault p k i → first_of (fault_at p k) (j + 1) ≡ []
      code_more q = first_more (fault_at p k) j none (ap (instr_fault p k) (sym fetched_here) ∙ sym q)

      pub code_found : (e : CoreValidationError) → refusal_numbers e ≡ instr_fault p k i → refusal_numbers e ≡ code_fault p k
      unfolding code_fault
      code_found e q =
          let u = refusal_unfine e in
          let g = first_found (fault_at p k) j (length_of p k) (refusal_numbers e) (rw el b) none (q ∙ ap (instr_fault p k) fetched_here) u in
          rw (← g) (sym (or_unfine (refusal_numbers e) _ u))

  -- ---- its end
  module _ (j : ℕ) (r : Bool) (least : j ≤ f.count) (most : f.count ≤ j) (e : r ≡ returns_before (code_of p k) j) (none : first_of (fault_at p k) j ≡ []) where
    at_end : j ≡ length_of p k
    at_end = omega (arith, el)

    pub code_fine : r ≡ true → [] ≡ code_fault p k
    unfolding code_fault
    code_fine t = rw (← at_end, none, ← e, t)

    pub code_missing : r ≡ false → 19 ∷ k ∷ [] ≡ code_fault p k
    unfolding code_fault
    code_missing t = rw (← at_end, none, ← e, t)

  -- ---- the whole function
  module _ (profile : CoreAdmissionProfile) where
    pub too_wide : profile.max_registers < f.regs → 14 ∷ k ∷ f.regs ∷ profile.max_registers ∷ [] ≡ function_fault profile p k
    unfolding function_fault
    too_wide w = rw (er, lt-leb _ _ w)

    module _ (fits : f.regs ≤ profile.max_registers) where
      pub too_long : profile.max_instrs_per_function < f.count → 15 ∷ k ∷ f.count ∷ profile.max_instrs_per_function ∷ [] ≡ function_fault profile p k
      unfolding function_fault
      too_long w = rw (er, le-leb _ _ fits, el, lt-leb _ _ w)

      pub by_code : (v : List ℕ) → f.count ≤ profile.max_instrs_per_function → v ≡ code_fault p k → v ≡ function_fault profile p k
      unfolding function_fault
      by_code v w q = rw (er, le-leb _ _ fits, el, le-leb _ _ w) q

-- ---- the loop over the functions
module _ (f : ℕ → List ℕ) (j : ℕ) (none : first_of f j ≡ []) where
  pub all_found : (n : ℕ) (e : CoreValidationError) → j < n → refusal_numbers e ≡ f j → refusal_numbers e ≡ first_of f n
  all_found n e b q = first_found f j n (refusal_numbers e) b none q (refusal_unfine e)
