-- The shapes that the rules of opcodes have, and the words that their results become.
use Rattle.std.specs.Prelude.{ℕ, ℤ, Bool, Option, Some, Result, Ok, Err}
use Rattle.basis.specs.Choice.{pick}
use Rattle.runtime.specs.declared.CoreTrap.{CoreTrap}
use Rattle.value.specs.Checked.{payload}
use Rattle.value.specs.Value.{bool_kind, i32_kind, u32_kind, fx_kind, register}
use Rattle.value.specs.declared.fx.Fx.{Fx}

-- what an instruction makes of the registers: a register word, no value, or a trap
abbrev pub Outcome : Type 0
Outcome = Result (Option ℕ) CoreTrap

-- what an opcode computes, in terms of the payloads of its operands
pub data Rule : Type 0 where
  -- it computes no value
  nothing : Rule
  -- a value of the kind, its payload out of the instruction's fields small and w
  loads : ℕ → (ℕ → ℕ → ℕ) → Rule
  -- src is read as the kind
  one : ℕ → (ℕ → Outcome) → Rule
  -- lhs is read as the kind, then rhs
  two : ℕ → (ℕ → ℕ → Outcome) → Rule
  -- rhs is read as the kind and must not be zero, then lhs is read
  dividing : ℕ → (ℕ → ℕ → Outcome) → Rule
  -- a Bool lhs that is this payload is the answer, and rhs is never read; else a Bool rhs is the answer
  shortcut : ℕ → Rule
  -- the word of src, whatever it is
  moves : Rule

-- ---- results as register words
abbrev pub valued : ℕ → ℕ → Outcome
valued kind p = Ok (Some (register kind p))

unfoldable pub bool_result : Bool → Outcome
bool_result b = valued bool_kind (pick b 1 0)

abbrev pub i32_result : Result ℤ CoreTrap → Outcome
i32_result (Ok v) = valued i32_kind (payload v)
i32_result (Err t) = Err t

abbrev pub u32_result : Result ℕ CoreTrap → Outcome
u32_result (Ok v) = valued u32_kind v
u32_result (Err t) = Err t

abbrev pub fx_result : Result Fx CoreTrap → Outcome
fx_result (Ok v) = valued fx_kind (payload v.0)
fx_result (Err t) = Err t
