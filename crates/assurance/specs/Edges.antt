-- The worked cases that document 01 marks P, one row for each, and its own image; both sides of enough room; for each rule of
-- admission that runs rest on a program that breaks it alone and meets what the rule is there to rule out; and one that breaks none
-- and traps InvalidPc; lines of the runner and identifiers as they are read.
use Rattle.std.specs.Prelude.{ℕ, ◌^◌, Bool, true, false, ◌≡◌, List, [], ◌∷◌, ℤ, pos, neg_ℤ, replicate}
use Prim.Native.String.{String}
use Rattle.runtime.specs.Profile.{safe_profile}
use Rattle.runtime.specs.declared.CoreTrap.TheVariants.{InvalidPc, TypeMismatch, DivisionByZero, IntegerOverflow, FuelExceeded, CallDepthExceeded, InvalidFunction}
use Rattle.runtime.specs.declared.CoreTrap.TheVariants as trap
use Rattle.value.specs.Checked.{payload}
use Rattle.value.specs.Value.{bool_kind, i32_kind, fx_kind, register}
use Rattle.instr.specs.declared.Instr.{Instr}
use Rattle.image.specs.Records.{form1}
use Rattle.image.specs.Program.{Program, no_instr}
use Rattle.admission.specs.Verdict.{refusal_numbers, verdict_numbers, program_fault, verdict}
use Rattle.admission.specs.declared.CoreValidationError.{CoreValidationError}
use Rattle.admission.specs.declared.CoreValidationError.TheVariants.{InvalidEntry, InvalidRegister, InvalidJump, InvalidCall, MissingReturn, InvalidArgWindow}
use Rattle.operate.specs.Operate.{operated}
use Rattle.exec.specs.declared.Ending.{Ending}
use Rattle.exec.specs.declared.Ending.TheVariants.{Trapped, FrameRoom, RegisterRoom}
use Rattle.exec.specs.Price.{unit}
use Rattle.exec.specs.Config.{default_config}
use Rattle.exec.specs.Execute.{entered}
use Rattle.exec.specs.Execute as executing
use Rattle.text.specs.Ascii.{ascii}
use Rattle.text.specs.Identifier.{identifier}
use Rattle.text.specs.Line.{printed}
use Rattle.std.specs.Prelude.{Result, Ok, Err, Option, Some}
use Rattle.runtime.specs.declared.CoreTrap.{CoreTrap}

-- ---- registers, by what they hold
abbrev pub bool_false : ℕ
bool_false = register bool_kind 0

abbrev pub bool_true : ℕ
bool_true = register bool_kind 1

abbrev pub i32 : ℤ → ℕ
i32 z = register i32_kind (payload z)

abbrev pub fx : ℤ → ℕ
fx z = register fx_kind (payload z)

abbrev pub minus : ℕ → ℤ
minus n = neg_ℤ (pos n)

-- ---- the opcodes that rows name
abbrev pub BoolAnd : ℕ
BoolAnd = 19

abbrev pub I32Div : ℕ
I32Div = 26

abbrev pub FxMul : ℕ
FxMul = 43

abbrev pub FxDiv : ℕ
FxDiv = 44

abbrev pub Nop : Instr
Nop = no_instr

abbrev pub Ret : ℕ → Instr
Ret src = record { op = 55; small = 0; a = src; b = 0; c = 0; w = 0 }

-- a Call of function 0 without arguments
abbrev pub CallItself : ℕ → ℕ → Instr
CallItself dst base = record { op = 54; small = 0; a = dst; b = 0; c = base; w = 0 }

-- a Call of any function, without arguments and into register 0
abbrev pub CallOf : ℕ → Instr
CallOf function = record { op = 54; small = 0; a = 0; b = function; c = 0; w = 0 }

-- a Call of itself with one argument, register `base`
abbrev pub CallWith : ℕ → Instr
CallWith base = record { op = 54; small = 0; a = 0; b = 0; c = base; w = 1 }

abbrev pub JumpTo : ℕ → Instr
JumpTo place = record { op = 51; small = 0; a = 0; b = 0; c = 0; w = place }

-- a program of one function
abbrev pub alone : ℕ → List Instr → Program
alone regs code = record { entry = 0; functions = record { name = 0; regs = regs; code = code } ∷ [] }

-- one that calls itself as deep as it may
abbrev pub descent : Program
descent = alone 1 (CallOf 0 ∷ Ret 0 ∷ [])

-- one whose entry, with so many registers, calls function 1, which has one: what it returns goes into dst, and the first `count`
-- registers are its arguments
abbrev pub calling : ℕ → ℕ → ℕ → Program
calling regs dst count =
    record {
      entry = 0;
      functions =
          record { name = 0; regs = regs; code = record { op = 54; small = 0; a = dst; b = 1; c = 0; w = count } ∷ Ret 0 ∷ [] }
          ∷ record { name = 1; regs = 1; code = Ret 0 ∷ [] }
          ∷ [];
    }

-- more arguments than the callee has registers
abbrev pub overfull : Program
overfull = calling 2 0 2

-- the result wanted in a register that is not there
abbrev pub nowhere : Program
nowhere = calling 1 5 0

-- one whose entry is not there
abbrev pub headless : Program
headless = record { entry = 1; functions = record { name = 0; regs = 1; code = Ret 0 ∷ [] } ∷ [] }

-- one that returns nowhere on its way: it jumps over its Ret to the last instruction and goes on behind it
abbrev pub overshooting : Program
overshooting = alone 1 (JumpTo 2 ∷ Ret 0 ∷ Nop ∷ [])

-- the image that document 01 writes out: one function, which loads -1 and returns it; its registers are one, or so many as two bytes say
abbrev pub image_with : ℕ → ℕ → List ℕ
image_with low high =
    1 ∷ 0 ∷ 0 ∷ 0 ∷ 1 ∷ 0 ∷ 0 ∷ 0 ∷ 2 ∷ 0 ∷ 0 ∷ 0 ∷ 24 ∷ 0 ∷ 0 ∷ 0 ∷ 40 ∷ 0 ∷ 0 ∷ 0 ∷ 64 ∷ 0 ∷ 0 ∷ 0
    ∷ 7 ∷ 0 ∷ 0 ∷ 0 ∷ low ∷ high ∷ 0 ∷ 0 ∷ 0 ∷ 0 ∷ 0 ∷ 0 ∷ 2 ∷ 0 ∷ 0 ∷ 0
    ∷ 6 ∷ 0 ∷ 0 ∷ 0 ∷ 0 ∷ 0 ∷ 0 ∷ 0 ∷ 255 ∷ 255 ∷ 255 ∷ 255
    ∷ 55 ∷ 0 ∷ 0 ∷ 0 ∷ 0 ∷ 0 ∷ 0 ∷ 0 ∷ 0 ∷ 0 ∷ 0 ∷ 0
    ∷ []

abbrev pub document_image : List ℕ
document_image = image_with 1 0

pub data Edge : Type 0 where
  -- an opcode on two registers computes this
  operation : ℕ → ℕ → ℕ → Result (Option ℕ) CoreTrap → Edge
  -- a program has this verdict under the safe profile
  admission : Program → Result Unit CoreValidationError → Edge
  -- so have these bytes
  image : List ℕ → Result Unit CoreValidationError → Edge
  -- a program under this depth limit and with this fuel ends so, having used this much
  running : Program → ℕ → ℕ → Ending → ℕ → Edge
  -- under this depth limit, with so many lent words of frames and of registers, it ends so, having used this much
  lending : Program → ℕ → ℕ → ℕ → Ending → ℕ → Edge
  -- a program that breaks one rule of admission has this verdict under the safe profile; run all the same, it ends so
  breaking : Program → CoreValidationError → Ending → ℕ → Edge
  -- these bytes under the default configuration are answered with these numbers
  execution : List ℕ → List ℕ → Edge
  -- the runner prints this line for these bytes, with further bytes after them or not
  printing : List ℕ → Bool → String → Edge
  -- a lesson and a digest have this identifier
  naming : ℕ → ℕ → String → Edge

-- room for one frame of up to eight registers, with other words in it
abbrev pub frame_room : List ℕ
frame_room = replicate 4 77

abbrev pub register_room : List ℕ
register_room = replicate 8 77

-- what a row says
unfoldable pub Holds : Edge → Type 0
Holds (operation op lhs rhs answer) = operated op (record { op = op; small = 0; a = 0; b = 0; c = 1; w = 0 }) (lhs ∷ rhs ∷ []) ≡ answer
Holds (admission p answer) = program_fault safe_profile p ≡ verdict_numbers answer
Holds (image bytes answer) = verdict form1 bytes safe_profile ≡ verdict_numbers answer
Holds (running p most fuel what used) =
    let end = entered p unit most fuel frame_room register_room in
    (end.what ≡ what) × (end.used ≡ used)
Holds (lending p most frames regs what used) =
    let end = entered p unit most 9 (replicate frames 77) (replicate regs 77) in
    (end.what ≡ what) × (end.used ≡ used)
Holds (breaking p fault what used) =
    let end = entered p unit 64 9 (replicate 8 77) register_room in
    (program_fault safe_profile p ≡ refusal_numbers fault) × ((end.what ≡ what) × (end.used ≡ used))
Holds (execution bytes answer) =
    (executing.execution form1 unit bytes default_config.max_call_depth default_config.fuel frame_room register_room).answer ≡ answer
Holds (printing bytes more line) = printed bytes more ≡ ascii line
Holds (naming lesson digest id) = identifier lesson digest ≡ ascii id

unfoldable pub edges : List Edge
edges =
    Edge.operation FxMul (fx (minus 1)) (fx (pos 1)) (Ok (Some (fx (minus 1))))
    ∷ Edge.operation FxDiv (fx (minus 1)) (fx (pos 131072)) (Ok (Some (fx (pos 0))))
    ∷ Edge.operation FxDiv (fx (pos 32768)) (fx (minus 1)) (Ok (Some (fx (minus (2 ^ 31)))))
    ∷ Edge.operation FxDiv (fx (pos 32768)) (fx (pos 1)) (Err IntegerOverflow)
    ∷ Edge.operation I32Div (i32 (minus (2 ^ 31))) (i32 (minus 1)) (Err IntegerOverflow)
    ∷ Edge.operation I32Div bool_true (i32 (pos 0)) (Err DivisionByZero)
    ∷ Edge.operation FxDiv bool_true (fx (pos 0)) (Err TypeMismatch)
    ∷ Edge.operation BoolAnd bool_false (i32 (pos 5)) (Ok (Some bool_false))
    ∷ Edge.admission (alone 0 (Nop ∷ [])) (Err (MissingReturn 0))
    ∷ Edge.admission (alone 0 (Ret 0 ∷ [])) (Err (InvalidRegister 0 0))
    ∷ Edge.admission (alone 1 (CallItself 0 1 ∷ Ret 0 ∷ [])) (Ok tt)
    ∷ Edge.admission (alone 1 (CallItself 0 2 ∷ Ret 0 ∷ [])) (Err (InvalidArgWindow 0 2 0))
    ∷ Edge.image document_image (Ok tt)
    ∷ Edge.running (alone 1 []) 64 0 (Trapped InvalidPc) 0
    ∷ Edge.running (alone 1 (Nop ∷ [])) 64 0 (Trapped FuelExceeded) 0
    ∷ Edge.running (alone 1 (CallOf 9 ∷ [])) 0 5 (Trapped CallDepthExceeded) 1
    ∷ Edge.execution document_image (0 ∷ 0 ∷ 3 ∷ 4294967295 ∷ 2 ∷ [])
    ∷ Edge.lending descent 3 12 3 (Trapped CallDepthExceeded) 3
    ∷ Edge.lending descent 3 11 3 FrameRoom 2
    ∷ Edge.lending descent 3 12 2 RegisterRoom 2
    ∷ Edge.lending descent 0 4 1 (Trapped CallDepthExceeded) 1
    ∷ Edge.lending descent 0 3 1 FrameRoom 0
    ∷ Edge.lending descent 0 4 0 RegisterRoom 0
    ∷ Edge.breaking (alone 1 (Ret 1 ∷ [])) (InvalidRegister 0 1) (Trapped trap.InvalidRegister) 1
    ∷ Edge.breaking (alone 1 (JumpTo 3 ∷ Ret 0 ∷ [])) (InvalidJump 0 3) (Trapped InvalidPc) 1
    ∷ Edge.breaking (alone 1 (CallOf 9 ∷ Ret 0 ∷ [])) (InvalidCall 0 9) (Trapped InvalidFunction) 1
    ∷ Edge.breaking (alone 1 (CallWith 1 ∷ Ret 0 ∷ [])) (InvalidArgWindow 0 1 1) (Trapped trap.InvalidRegister) 1
    ∷ Edge.breaking overfull (InvalidArgWindow 0 0 2) (Trapped trap.InvalidRegister) 1
    ∷ Edge.breaking nowhere (InvalidRegister 0 5) (Trapped trap.InvalidRegister) 2
    ∷ Edge.breaking (alone 1 []) (MissingReturn 0) (Trapped InvalidPc) 0
    ∷ Edge.breaking headless (InvalidEntry 1) (Trapped InvalidFunction) 0
    ∷ Edge.admission overshooting (Ok tt)
    ∷ Edge.running overshooting 64 9 (Trapped InvalidPc) 2
    ∷ Edge.printing document_image false "done 0 3 4294967295 2\n"
    ∷ Edge.printing document_image true "refused 8 0\n"
    ∷ Edge.printing (image_with 0 8) false "done 0 3 4294967295 2\n"
    ∷ Edge.printing (image_with 1 8) false "refused 7 0\n"
    ∷ Edge.printing [] false "refused 1 0\n"
    ∷ Edge.naming 42 0x6ffa4144d88d4a53 "0000002a-6ffa4144d88d4a53"
    ∷ Edge.naming 0xffffffff 0 "ffffffff-0000000000000000"
    ∷ []

-- every row of a list
unfoldable pub Each : List Edge → Type 0
Each [] = Unit {0}
Each (e ∷ es) = Holds e × Each es
