-- Numbers of a program that rules speak of.
use Rattle.std.specs.Prelude.{ℕ, length}
use Rattle.instr.specs.declared.Instr.{Instr}
use Rattle.image.specs.Program.{Program, function_in, instr_in}

-- how many functions there are; how many registers and instructions function k has; its instruction j
abbrev pub functions_of : Program → ℕ
functions_of p = length p.functions

abbrev pub regs_of : Program → ℕ → ℕ
regs_of p k = (function_in p k).regs

abbrev pub length_of : Program → ℕ → ℕ
length_of p k = length (function_in p k).code

abbrev pub code_of : Program → ℕ → ℕ → Instr
code_of p k = instr_in (function_in p k)

-- the two opcodes that leave their frame
abbrev pub Call : ℕ
Call = 54

abbrev pub Ret : ℕ
Ret = 55
