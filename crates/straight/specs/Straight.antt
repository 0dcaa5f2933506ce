-- One instruction in one frame: what it asks for, given the frame's registers, and what they are when it is done. Places do not occur.
use Rattle.std.specs.Prelude.{ℕ, List, ltb, eqb, length, set, Some, None, Result, Ok, Err}
use Rattle.basis.specs.Choice.{pick}
use Rattle.runtime.specs.declared.CoreTrap.{CoreTrap}
use Rattle.runtime.specs.declared.CoreTrap.TheVariants.{InvalidRegister, AssertFailed}
use Rattle.value.specs.Value.{bool_kind}
use Rattle.instr.specs.declared.Instr.{Instr}
use Rattle.operate.specs.Rule.{Outcome}
use Rattle.operate.specs.Operate.{read_as, operated}
use Rattle.straight.specs.Flow.{Flow, flow_of}
use Rattle.straight.specs.Flow.Flow.{computes, goes_on, ends, asserts, jumps, jumps_if, leaves}
use Rattle.straight.specs.declared.Deed.{Deed}
use Rattle.straight.specs.declared.Deed.TheVariants.{Put, Next, Jump, Leave}
use Rattle.straight.specs.declared.Went.{Went}
use Rattle.straight.specs.declared.Went.TheVariants.{On, To, Leaves}

-- ---- what an instruction asks for
-- a value is to be stored; an opcode that computes has one, or a trap
unfoldable pub storing : Outcome → Result Deed CoreTrap
storing (Ok (Some v)) = Ok (Put v)
storing (Ok None) = Ok Next
storing (Err t) = Err t

-- the condition stands in the field a and is read as a Bool
abbrev pub tested : Result ℕ CoreTrap → (ℕ → Result Deed CoreTrap) → Result Deed CoreTrap
tested (Ok b) next = next b
tested (Err t) next = Err t

unfoldable pub on_condition : (ℕ → Result Deed CoreTrap) → Instr → List ℕ → Result Deed CoreTrap
on_condition next i win = tested (read_as bool_kind win i.a) next

-- JumpIfTrue and JumpIfFalse: the frame goes on at the target where the condition is this truth value
abbrev pub branched : ℕ → Instr → List ℕ → Result Deed CoreTrap
branched truth i win = on_condition (λ b. pick (eqb b truth) (Ok (Jump i.w)) (Ok Next)) i win

-- the opcode is passed beside the instruction, as `operated` has it
unfoldable pub asked : Flow → ℕ → Instr → List ℕ → Result Deed CoreTrap
asked computes op i win = storing (operated op i win)
asked goes_on op i win = Ok Next
asked (ends t) op i win = Err t
asked asserts op i win = on_condition (λ b. pick (eqb b 0) (Err AssertFailed) (Ok Next)) i win
asked jumps op i win = Ok (Jump i.w)
asked (jumps_if truth) op i win = branched truth i win
asked leaves op i win = Ok Leave

abbrev pub asks : ℕ → Instr → List ℕ → Result Deed CoreTrap
asks op i win = asked (flow_of op) op i win

-- ---- what is done
-- where the frame goes on, if it does, and its registers then
pub record Local : Type 0 where
  pub went : Result Went CoreTrap
  pub regs : List ℕ

abbrev pub local : Result Went CoreTrap → List ℕ → Local
local went regs = record { went = went; regs = regs }

-- dst is looked at last: a register that is not there is InvalidRegister, and nothing is stored
unfoldable pub stored : ℕ → ℕ → List ℕ → Local
stored dst v win = pick (ltb dst (length win)) (local (Ok On) (set win dst v)) (local (Err InvalidRegister) win)

unfoldable pub done : Result Deed CoreTrap → ℕ → List ℕ → Local
done (Ok (Put v)) dst win = stored dst v win
done (Ok Next) dst win = local (Ok On) win
done (Ok (Jump place)) dst win = local (Ok (To place)) win
done (Ok Leave) dst win = local (Ok Leaves) win
done (Err t) dst win = local (Err t) win

unfoldable pub straight : Instr → List ℕ → Local
straight i win = done (asks i.op i win) i.a win
