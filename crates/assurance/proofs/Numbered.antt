-- The numbers that refusals have: an image's fault 1 to 5, a verdict 1 to 20, never 0. Assumes nothing.
use Prim.Native.Nat.{ℕ, zero, suc, ◌+◌, ◌≤◌}
use mathlib.Core.Bool.{Bool, true, false, ◌&&◌}
use mathlib.Core.List.{List, [], ◌∷◌}
use native.Mathlib.Omega.{arith}
use lib.Dec.{ltb, leb, eqb}
use lib.ListN.{length}
use Rattle.basis.specs.Answers.{demand, or_else, first_of, under}
use Rattle.runtime.specs.declared.CoreAdmissionProfile.{CoreAdmissionProfile}
use Rattle.runtime.specs.Profile.{profile_fault}
use Rattle.instr.specs.declared.Instr.{Instr}
use Rattle.image.specs.Fields.{Use, Fields, fields_of}
use Rattle.image.specs.Fields.Use.{unused, register, quad, bool, signed, unsigned, target, callee, arg_base, arg_count}
use Rattle.image.specs.Records.{RecordLayout, header_of, header_size, function_no, instr_no, start_of}
use Rattle.image.specs.declared.ImageFault.TheVariants.{Short, Form, Layout}
use Rattle.image.specs.Image.{fault_numbers, layout_holds, row_fault, table_fault, record_holds, record_fault, image_fault}
use Rattle.image.specs.Program.{Program, decode}
use Rattle.image.specs.Parts.{functions_of, regs_of, length_of, code_of}
use Rattle.admission.specs.Verdict.{register_fault, jump_fault, call_fault, window_fault, field_fault, fields_fault, instr_fault, returns_before, code_fault, function_fault, program_fault, verdict}

-- where something is wrong, its number is at least 1 and at most `most`
abbrev pub Numbered : ℕ → List ℕ → Type 0
Numbered most [] = Unit {0}
Numbered most (n ∷ ns) = (1 ≤ n) × (n ≤ most)

more : (k most : ℕ) (a : List ℕ) → k ≤ most → Numbered k a → Numbered most a
more k most [] l h = tt
more k most (n ∷ ns) l h = (h.0, omega (arith, h.1))

module _ (most : ℕ) where
  demanded : (b : Bool) (n : ℕ) (ns : List ℕ) → 1 ≤ n → n ≤ most → Numbered most (demand b (n ∷ ns))
  demanded true n ns l h = tt
  demanded false n ns l h = (l, h)

  either : (a b : List ℕ) → Numbered most a → Numbered most b → Numbered most (or_else a b)
  either [] b h k = k
  either (n ∷ ns) b h k = h

  first : (f : ℕ → List ℕ) → ((k : ℕ) → Numbered most (f k)) → (n : ℕ) → Numbered most (first_of f n)
  unfolding first_of
  first f h zero = tt
  first f h (suc n) = either (first_of f n) (f n) (first f h n) (h n)

  below : (n : ℕ) (a : List ℕ) → 1 ≤ n → n ≤ most → Numbered most (under n a)
  below n [] l h = tt
  below n (k ∷ ks) l h = (l, h)

-- ---- images
row_numbered : (b : List ℕ) (k : ℕ) → Numbered 5 (row_fault b k)
unfolding row_fault
row_numbered b k = demanded 5 (eqb (function_no b k).zero 0 && eqb (function_no b k).first (start_of b k)) 4 (k ∷ []) (omega arith) (omega arith)

table_numbered : (b : List ℕ) (functions instructions : ℕ) → Numbered 5 (table_fault b functions instructions)
unfolding table_fault
table_numbered b functions instructions =
    either 5 (first_of (row_fault b) functions) _ (first 5 (row_fault b) (row_numbered b) functions)
    (demanded 5 (eqb (start_of b functions) instructions) 4 (functions ∷ []) (omega arith) (omega arith))

record_numbered : (instr : ℕ → Instr) (k : ℕ) → Numbered 5 (record_fault instr k)
unfolding record_fault
record_numbered instr k = demanded 5 (record_holds (instr k)) 5 (k ∷ []) (omega arith) (omega arith)

pub image_numbered : (L : RecordLayout) (b : List ℕ) → Numbered 5 (image_fault L b)
unfolding image_fault
image_numbered L b =
    let form : List ℕ = demand (eqb (header_of b).form L.form) (fault_numbers Form) in
    let layout : List ℕ = demand (layout_holds L (header_of b) (length b)) (fault_numbers Layout) in
    let table : List ℕ = table_fault b (header_of b).functions (header_of b).instructions in
    let records : List ℕ = first_of (record_fault (instr_no L b)) (header_of b).instructions in
    either 5 (demand (leb header_size (length b)) (fault_numbers Short)) (or_else form (or_else layout (or_else table records)))
    (demanded 5 (leb header_size (length b)) 1 (0 ∷ []) (omega arith) (omega arith))
    (either 5 form (or_else layout (or_else table records)) (demanded 5 (eqb (header_of b).form L.form) 2 (0 ∷ []) (omega arith) (omega arith))
    (either 5 layout (or_else table records) (demanded 5 (layout_holds L (header_of b) (length b)) 3 (0 ∷ []) (omega arith) (omega arith))
    (either 5 table records (table_numbered b (header_of b).functions (header_of b).instructions)
    (first 5 (record_fault (instr_no L b)) (record_numbered (instr_no L b)) (header_of b).instructions))))

-- ---- programs
module _ (p : Program) (k : ℕ) where
  field_numbered : (u : Use) (i : Instr) (x : ℕ) → Numbered 20 (field_fault u p k i x)
  unfolding field_fault register_fault jump_fault call_fault window_fault
  field_numbered unused i x = tt
  field_numbered register i x = demanded 20 (ltb x (regs_of p k)) 16 (k ∷ x ∷ []) (omega arith) (omega arith)
  field_numbered quad i x = tt
  field_numbered bool i x = tt
  field_numbered signed i x = tt
  field_numbered unsigned i x = tt
  field_numbered target i x = demanded 20 (ltb x (length_of p k)) 17 (k ∷ x ∷ []) (omega arith) (omega arith)
  field_numbered callee i x = demanded 20 (ltb x (functions_of p)) 18 (k ∷ x ∷ []) (omega arith) (omega arith)
  field_numbered arg_base i x = tt
  field_numbered arg_count i x = demanded 20 (leb (i.c + x) (regs_of p k) && leb x (regs_of p i.b)) 20 (k ∷ i.c ∷ x ∷ []) (omega arith) (omega arith)

  instr_numbered : (i : Instr) → Numbered 20 (instr_fault p k i)
  unfolding instr_fault fields_fault
  instr_numbered i =
      let u : Fields = fields_of i.op in
      either 20 (field_fault u.small p k i i.small) _ (field_numbered u.small i i.small)
      (either 20 (field_fault u.a p k i i.a) _ (field_numbered u.a i i.a)
      (either 20 (field_fault u.b p k i i.b) _ (field_numbered u.b i i.b)
      (either 20 (field_fault u.c p k i i.c) _ (field_numbered u.c i i.c) (field_numbered u.w i i.w))))

  code_numbered : Numbered 20 (code_fault p k)
  unfolding code_fault
  code_numbered =
      either 20 (first_of (λ (j : ℕ). instr_fault p k (code_of p k j)) (length_of p k)) _
      (first 20 (λ (j : ℕ). instr_fault p k (code_of p k j)) (λ j. instr_numbered (code_of p k j)) (length_of p k))
      (demanded 20 (returns_before (code_of p k) (length_of p k)) 19 (k ∷ []) (omega arith) (omega arith))

module _ (profile : CoreAdmissionProfile) (p : Program) where
  function_numbered : (k : ℕ) → Numbered 20 (function_fault profile p k)
  unfolding function_fault
  function_numbered k =
      either 20 (demand (leb (regs_of p k) profile.max_registers) (14 ∷ k ∷ regs_of p k ∷ profile.max_registers ∷ [])) _
      (demanded 20 (leb (regs_of p k) profile.max_registers) 14 (k ∷ regs_of p k ∷ profile.max_registers ∷ []) (omega arith) (omega arith))
      (either 20 (demand (leb (length_of p k) profile.max_instrs_per_function) (15 ∷ k ∷ length_of p k ∷ profile.max_instrs_per_function ∷ [])) _
      (demanded 20 (leb (length_of p k) profile.max_instrs_per_function) 15 (k ∷ length_of p k ∷ profile.max_instrs_per_function ∷ []) (omega arith) (omega arith))
      (code_numbered p k))

  program_numbered : Numbered 20 (program_fault profile p)
  unfolding program_fault
  program_numbered =
      let n : ℕ = functions_of p in
      let most : ℕ = profile.max_functions in
      either 20 (under 10 (profile_fault profile)) _ (below 20 10 (profile_fault profile) (omega arith) (omega arith))
      (either 20 (demand (ltb 0 n) (11 ∷ [])) _ (demanded 20 (ltb 0 n) 11 [] (omega arith) (omega arith))
      (either 20 (demand (leb n most) (13 ∷ n ∷ most ∷ [])) _ (demanded 20 (leb n most) 13 (n ∷ most ∷ []) (omega arith) (omega arith))
      (either 20 (demand (ltb p.entry n) (12 ∷ p.entry ∷ [])) _ (demanded 20 (ltb p.entry n) 12 (p.entry ∷ []) (omega arith) (omega arith))
      (first 20 (function_fault profile p) function_numbered n))))

pub verdict_numbered : (L : RecordLayout) (b : List ℕ) (profile : CoreAdmissionProfile) → Numbered 20 (verdict L b profile)
unfolding verdict
verdict_numbered L b profile =
    either 20 (image_fault L b) _ (more 5 20 (image_fault L b) (omega arith) (image_numbered L b)) (program_numbered profile (decode L b))
