-- The numbers of a decoded program, by the records of its image. Assumes nothing.
use Prim.Native.Nat.{ℕ, ◌+◌, ◌*◌, ◌≤◌, ◌<◌}
use mathlib.Core.Path.{◌≡◌, sym, ◌∙◌, ap}
use mathlib.Core.List.{List}
use lib.ListN.{length}
use native.Mathlib.Omega.{arith}
use Rattle.instr.specs.declared.Instr.{Instr}
use Rattle.image.specs.Records.{header_of, function_no, RecordLayout, form1, instr_place, instr_no, form1_instr}
use Rattle.image.specs.Program.{Function, decode, instr_in}
use Rattle.image.specs.declared.record.FunctionRecord.{FunctionRecord}
use Rattle.image.specs.WellFormed.{WellFormed}
use Rattle.image.proofs.Parts.{functions_length, function_in_lem, function_out, regs_is, code_length, code_at, inside}
use Rattle.image.specs.Parts.{functions_of, regs_of, length_of, code_of}

module _ (L : RecordLayout) (s : List ℕ) (k : ℕ) where
  pub regs_out : (header_of s).functions ≤ k → regs_of (decode L s) k ≡ 0
  regs_out q = ap (λ (f : Function). f.regs) (function_out L s k q)

  module _ (q : k < (header_of s).functions) where
    pub regs_in : regs_of (decode L s) k ≡ (function_no s k).regs
    regs_in = ap (λ (f : Function). f.regs) (function_in_lem L s k q) ∙ regs_is L s k

    pub length-in : length_of (decode L s) k ≡ (function_no s k).count
    length-in = ap (λ (f : Function). length f.code) (function_in_lem L s k q) ∙ code_length L s k

    pub code_in : (j : ℕ) → j < (function_no s k).count → code_of (decode L s) k j ≡ instr_no L s ((function_no s k).first + j)
    code_in j l = ap (λ (f : Function). instr_in f j) (function_in_lem L s k q) ∙ code_at L s k j l

-- instruction j of a function whose first is at base
pub placed : (s : List ℕ) (functions first j : ℕ) → functions ≡ (header_of s).functions → form1_instr s (instr_place form1 functions first + form1.size * j) ≡ instr_no form1 s (first + j)
placed s functions first j e =
    let p : instr_place form1 functions first + form1.size * j ≡ instr_place form1 functions (first + j) = omega arith in
    ap (form1_instr s) p ∙ ap (λ (n : ℕ). form1_instr s (instr_place form1 n (first + j))) e

-- all three, by a function record that was read
pub numbers : (L : RecordLayout) (s : List ℕ) (k functions : ℕ) (f : FunctionRecord) → functions ≡ (header_of s).functions → k < functions → f ≡ function_no s k → (regs_of (decode L s) k ≡ f.regs) × (length_of (decode L s) k ≡ f.count) × (functions_of (decode L s) ≡ functions)
numbers L s k functions f e l h =
    let q : k < (header_of s).functions = omega arith in (
      regs_in L s k q ∙ ap (λ (g : FunctionRecord). g.regs) (sym h),
      length-in L s k q ∙ ap (λ (g : FunctionRecord). g.count) (sym h),
      functions_length L s ∙ sym e,
    )

-- instruction j of function k is what stands at its place
pub fetched : (s : List ℕ) (k functions : ℕ) (f : FunctionRecord) (j : ℕ) (i : Instr) → functions ≡ (header_of s).functions → k < functions → f ≡ function_no s k → j < f.count → i ≡ form1_instr s (instr_place form1 functions f.first + form1.size * j) → i ≡ code_of (decode form1 s) k j
fetched s k functions f j i e l h b a =
    let q : k < (header_of s).functions = omega arith in
    let c : j < (function_no s k).count = rw (← h) b in
    a ∙ (placed s functions f.first j e ∙ (ap (λ (g : FunctionRecord). instr_no form1 s (g.first + j)) h ∙ sym (code_in form1 s k q j c)))

-- in a well-formed image the records of a function's instructions lie among the bytes
pub code_room : (s : List ℕ) (W : WellFormed form1 s) (k : ℕ) (l : k < (header_of s).functions) (f : FunctionRecord) (h : f ≡ function_no s k) (code j : ℕ) → code ≡ instr_place form1 (header_of s).functions f.first → j < f.count → code + 12 * j + 12 ≤ length s
code_room s W k l f h code j c b =
    let n : (function_no s k).first + (function_no s k).count ≤ (header_of s).instructions = inside form1 s W k l in
    let m : f.first + f.count ≤ (header_of s).instructions = rw h n in
    omega (arith, W.size)
