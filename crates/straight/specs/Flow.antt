-- What each opcode does besides computing a value.
use Rattle.std.specs.Prelude.{ℕ, ltb, eqb}
use Rattle.basis.specs.Choice.{pick}
use Rattle.runtime.specs.declared.CoreTrap.{CoreTrap}
use Rattle.runtime.specs.declared.CoreTrap.TheVariants.{ExplicitTrap}

pub data Flow : Type 0 where
  -- a value goes into dst, and the frame goes on
  computes : Flow
  -- the frame goes on
  goes_on : Flow
  -- the run ends with this trap
  ends : CoreTrap → Flow
  -- the frame goes on where the condition is true
  asserts : Flow
  -- the frame goes on at the target
  jumps : Flow
  -- it does so where the condition is this truth value
  jumps_if : ℕ → Flow
  -- Call and Ret: another frame goes on
  leaves : Flow

-- 0 Nop, 1 Trap, 2 Assert, 3 to 50 what computes, 51 Jump, 52 JumpIfTrue, 53 JumpIfFalse, 54 Call, 55 Ret. No well-formed image has
-- a number above.
unfoldable pub flow_of : ℕ → Flow
flow_of op =
    pick (eqb op 0) goes_on
    (pick (eqb op 1) (ends ExplicitTrap)
    (pick (eqb op 2) asserts
    (pick (ltb op 51) computes
    (pick (eqb op 51) jumps
    (pick (eqb op 52) (jumps_if 1)
    (pick (eqb op 53) (jumps_if 0) leaves))))))
