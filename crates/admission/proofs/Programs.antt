-- What each step of a program's check comes to, over plain numbers. Assumes nothing.
use Prim.Native.Nat.{ℕ, ◌≤◌, ◌<◌}
use mathlib.Core.Path.{◌≡◌, sym, ap, ◌∙◌}
use mathlib.Core.List.{List, [], ◌∷◌}
use native.Mathlib.Omega.{arith}
use borrow.Author.Tests.{lt-ltb, le-ltb, le-leb, lt-leb}
use Rattle.basis.specs.Answers.{first_of}
use Rattle.runtime.specs.Profile.{error_numbers, profile_fault}
use Rattle.runtime.specs.declared.CoreAdmissionProfile.{CoreAdmissionProfile}
use Rattle.runtime.specs.declared.CoreProfileError.{CoreProfileError}
use Rattle.runtime.specs.declared.CoreProfileError.TheVariants.{ZeroLimit, UnboundedLimit}
use Rattle.image.specs.Records.{RecordLayout, form1, header_of}
use Rattle.image.specs.Image.{fault_numbers, image_fault}
use Rattle.image.specs.Program.{Program, decode}
use Rattle.image.specs.declared.ImageFault.{ImageFault}
use Rattle.image.proofs.Checks.{fault_first}
use Rattle.image.proofs.Parts.{entry_is, functions_length}
use Rattle.image.specs.Parts.{functions_of}
use Rattle.admission.specs.Verdict.{function_fault, program_fault, verdict}

-- where nothing else is wrong the functions are left
functions_left : (profile : CoreAdmissionProfile) (p : Program) → [] ≡ profile_fault profile → (n : ℕ) → functions_of p ≡ n → (n ≡ 0 → ⊥) → n ≤ profile.max_functions
    → (entry : ℕ) → p.entry ≡ entry → entry < n → first_of (function_fault profile p) n ≡ program_fault profile p
unfolding program_fault
functions_left profile p valid n en some few entry ee l =
    rw (← valid, en, lt-ltb 0 n (omega arith), le-leb _ _ few, ee, lt-ltb _ _ l)

module _ (profile : CoreAdmissionProfile) (s : List ℕ) where
  pub by_profile : (e : CoreProfileError) → error_numbers e ≡ profile_fault profile → 10 ∷ error_numbers e ≡ program_fault profile (decode form1 s)
  unfolding program_fault
  by_profile (ZeroLimit f) q = rw (← q)
  by_profile (UnboundedLimit f) q = rw (← q)

  module _ (valid : [] ≡ profile_fault profile) (n : ℕ) (en : n ≡ (header_of s).functions) where
    counted : functions_of (decode form1 s) ≡ n
    counted = functions_length form1 s ∙ sym en

    pub no_functions : n ≡ 0 → 11 ∷ [] ≡ program_fault profile (decode form1 s)
    unfolding program_fault
    no_functions z = rw (← valid, counted, z)

    module _ (some : n ≡ 0 → ⊥) where
      pub too_many : profile.max_functions < n → 13 ∷ n ∷ profile.max_functions ∷ [] ≡ program_fault profile (decode form1 s)
      unfolding program_fault
      too_many l = rw (← valid, counted, lt-ltb 0 n (omega arith), lt-leb _ _ l)

      module _ (few : n ≤ profile.max_functions) (entry : ℕ) (e : entry ≡ (header_of s).entry) where
        entered : (decode form1 s).entry ≡ entry
        entered = entry_is form1 s ∙ sym e

        pub no_entry : n ≤ entry → 12 ∷ entry ∷ [] ≡ program_fault profile (decode form1 s)
        unfolding program_fault
        no_entry l = rw (← valid, counted, lt-ltb 0 n (omega arith), le-leb _ _ few, entered, le-ltb _ _ l)

        pub by_functions : (v : List ℕ) → entry < n → v ≡ first_of (function_fault profile (decode form1 s)) (header_of s).functions → v ≡ program_fault profile (decode form1 s)
        by_functions v l q =
            q
            ∙ (ap (first_of (function_fault profile (decode form1 s))) (sym en)
            ∙ functions_left profile (decode form1 s) valid n counted some few entry entered l)

module _ (L : RecordLayout) (s : List ℕ) (profile : CoreAdmissionProfile) where
  pub by_image : (f : ImageFault) → fault_numbers f ≡ image_fault L s → fault_numbers f ≡ verdict L s profile
  unfolding verdict
  by_image f e = rw (← e, fault_first)

  pub by_program : (t v : List ℕ) → t ≡ s → image_fault L s ≡ [] → v ≡ program_fault profile (decode L t) → v ≡ verdict L s profile
  unfolding verdict
  by_program t v same fine q = rw (fine, ← same) q
