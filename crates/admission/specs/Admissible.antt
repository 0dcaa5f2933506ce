-- What an admissible program is, rule by rule. Nothing here speaks of a check, an order or a verdict.
use Rattle.std.specs.Prelude.{ℕ, ◌+◌, ◌≤◌, ◌<◌, ◌≡◌}
use Rattle.runtime.specs.Profile.{Usable}
use Rattle.runtime.specs.declared.CoreAdmissionProfile.{CoreAdmissionProfile}
use Rattle.instr.specs.declared.Instr.{Instr}
use Rattle.image.specs.Fields.{Use, fields_of}
use Rattle.image.specs.Fields.Use.{unused, register, quad, bool, signed, unsigned, target, callee, arg_base, arg_count}
use Rattle.image.specs.Program.{Program}
use Rattle.image.specs.Parts.{functions_of, regs_of, length_of, code_of, Ret}

-- what a field x of an instruction i of function k may be, by its use
abbrev pub Allowed : Use → Program → ℕ → Instr → ℕ → Type 0
Allowed unused p k i x = Unit {0}
Allowed register p k i x = x < regs_of p k
Allowed quad p k i x = Unit {0}
Allowed bool p k i x = Unit {0}
Allowed signed p k i x = Unit {0}
Allowed unsigned p k i x = Unit {0}
Allowed target p k i x = x < length_of p k
Allowed callee p k i x = x < functions_of p
Allowed arg_base p k i x = Unit {0}
Allowed arg_count p k i x = (i.c + x ≤ regs_of p k) × (x ≤ regs_of p i.b)

-- each field of the instruction is allowed
pub record Operands (p : Program) (k : ℕ) (i : Instr) : Type 0 where
  pub small : Allowed (fields_of i.op).small p k i i.small
  pub a : Allowed (fields_of i.op).a p k i i.a
  pub b : Allowed (fields_of i.op).b p k i i.b
  pub c : Allowed (fields_of i.op).c p k i i.c
  pub w : Allowed (fields_of i.op).w p k i i.w

-- function k has no more registers and instructions than the profile lets it, each instruction's operands are allowed, and one of
-- them returns
pub record FunctionRule (profile : CoreAdmissionProfile) (p : Program) (k : ℕ) : Type 0 where
  pub registers : regs_of p k ≤ profile.max_registers
  pub size : length_of p k ≤ profile.max_instrs_per_function
  pub operands : (j : ℕ) → j < length_of p k → Operands p k (code_of p k j)
  pub returns : (j : ℕ) × (j < length_of p k) × ((code_of p k j).op ≡ Ret)

-- the profile is usable, there are functions and not too many, the entry is one of them, and each obeys its rule
pub record Admissible (profile : CoreAdmissionProfile) (p : Program) : Type 0 where
  pub usable : Usable profile
  pub some : 0 < functions_of p
  pub few : functions_of p ≤ profile.max_functions
  pub entry : p.entry < functions_of p
  pub each : (k : ℕ) → k < functions_of p → FunctionRule profile p k
