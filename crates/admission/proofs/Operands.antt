-- What an instruction's operands come to, by the form that its opcode takes. Assumes nothing.
use Prim.Native.Nat.{ℕ, ◌≤◌, ◌<◌}
use mathlib.Core.Path.{◌≡◌, refl, sym, ◌∙◌, ap}
use mathlib.Core.List.{List, [], ◌∷◌}
use native.Mathlib.Decide.{dec_le}
use native.Mathlib.Omega.{arith}
use Rattle.basis.specs.Answers.{or_else}
use Rattle.basis.proofs.First.{or_nothing}
use Rattle.basis.proofs.Ranges.{◌&◌, each}
use Rattle.instr.specs.declared.Instr.{Instr}
use Rattle.image.specs.Fields.{Fields, forms, fields_of, bare, two, three, jump, branch, call}
use Rattle.image.specs.Records.{form1, header_of, function_no}
use Rattle.image.specs.Program.{Program, decode}
use Rattle.image.specs.declared.record.FunctionRecord.{FunctionRecord}
use Rattle.image.proofs.Forms.{Among, span, by_end}
use Rattle.image.proofs.Numbers.{numbers}
use Rattle.image.specs.Parts.{functions_of, regs_of, length_of}
use Rattle.admission.specs.Verdict.{register_fault, jump_fault, call_fault, window_fault, field_fault, fields_fault, instr_fault}

module _ (s : List ℕ) (k : ℕ) (f : FunctionRecord) (l : k < (header_of s).functions) (h : f ≡ function_no s k) (i : Instr) (v : List ℕ) where
  abbrev p : Program
  p = decode form1 s

  er : regs_of p k ≡ f.regs
  er = (numbers form1 s k (header_of s).functions f refl l h).0

  el : length_of p k ≡ f.count
  el = (numbers form1 s k (header_of s).functions f refl l h).1

  -- what an answer comes to, once the form is known
  by_form : (u : Fields) → fields_of i.op ≡ u → v ≡ fields_fault u p k i → v ≡ instr_fault p k i
  unfolding instr_fault
  by_form u q a = a ∙ ap (λ (x : Fields). fields_fault x p k i) (sym q)

  pub in_bare : fields_of i.op ≡ bare → v ≡ [] → v ≡ instr_fault p k i
  unfolding fields_fault field_fault
  in_bare = by_form bare

  pub in_two : fields_of i.op ≡ two → v ≡ or_else (register_fault k f.regs i.a) (register_fault k f.regs i.b) → v ≡ instr_fault p k i
  unfolding fields_fault field_fault
  in_two q a = by_form two q (rw (er, or_nothing) a)

  pub in_three : fields_of i.op ≡ three → v ≡ or_else (register_fault k f.regs i.a) (or_else (register_fault k f.regs i.b) (register_fault k f.regs i.c)) → v ≡ instr_fault p k i
  unfolding fields_fault field_fault
  in_three q a = by_form three q (rw (er, or_nothing) a)

  pub in_jump : fields_of i.op ≡ jump → v ≡ jump_fault k f.count i.w → v ≡ instr_fault p k i
  unfolding fields_fault field_fault
  in_jump q a = by_form jump q (rw (el) a)

  pub in_branch : fields_of i.op ≡ branch → v ≡ or_else (register_fault k f.regs i.a) (jump_fault k f.count i.w) → v ≡ instr_fault p k i
  unfolding fields_fault field_fault
  in_branch q a = by_form branch q (rw (er, el) a)

  pub in_call : fields_of i.op ≡ call → v ≡ or_else (register_fault k f.regs i.a) (or_else (call_fault k (functions_of p) i.b) (window_fault k f.regs (regs_of p i.b) i.c i.w)) → v ≡ instr_fault p k i
  unfolding fields_fault field_fault
  in_call q a = by_form call q (rw (er) a)

  -- Assert, the loads and Ret name one register, in a
  abbrev OneRegister : ℕ → Type 0
  OneRegister n = register_fault k f.regs i.a ≡ fields_fault (fields_of n) p k i

  named : register_fault k f.regs i.a ≡ or_else (register_fault k (regs_of p k) i.a) []
  named = rw (er, or_nothing)

  in_loads : 2 ≤ i.op → i.op < 9 → v ≡ register_fault k f.regs i.a → v ≡ instr_fault p k i
  unfolding fields_fault field_fault forms fields_of
  in_loads lo hi a =
      by_form (fields_of i.op) refl
      (a ∙ each OneRegister 2 7 i.op (named & named & named & named & named & named & named & tt) lo hi)

  in_ret : i.op ≡ 55 → v ≡ register_fault k f.regs i.a → v ≡ instr_fault p k i
  unfolding fields_fault field_fault forms fields_of
  in_ret q a = by_form (fields_of i.op) refl (a ∙ rw (q) named)

  pub in_one : Among i.op (span 2 7) (span 55 1 ∷ []) → v ≡ register_fault k f.regs i.a → v ≡ instr_fault p k i
  in_one o a = by_end 9 i.op (dec_le 9 i.op) (λ e. in_loads o.0 e a) (λ e. in_ret (omega arith) a)
