-- The verdict on an image under a profile: the first fault of the image, the profile, the program as a whole, or its functions in
-- order, each with its registers, its length, its instructions in order and a return.
use Rattle.std.specs.Prelude.{ℕ, zero, suc, ◌+◌, Bool, false, ◌&&◌, ◌||◌, List, [], ◌∷◌, ltb, leb, eqb, Result, Ok, Err}
use Rattle.basis.specs.Answers.{demand, or_else, first_of, under}
use Rattle.runtime.specs.Profile.{error_numbers, profile_fault}
use Rattle.runtime.specs.declared.CoreAdmissionProfile.{CoreAdmissionProfile}
use Rattle.instr.specs.declared.Instr.{Instr}
use Rattle.image.specs.Fields.{Use, Fields, fields_of}
use Rattle.image.specs.Fields.Use.{unused, register, quad, bool, signed, unsigned, target, callee, arg_base, arg_count}
use Rattle.image.specs.Records.{RecordLayout}
use Rattle.image.specs.Image.{fault_numbers, image_fault}
use Rattle.image.specs.Program.{Program, decode}
use Rattle.image.specs.Parts.{functions_of, regs_of, length_of, code_of, Ret}
use Rattle.admission.specs.declared.CoreValidationError.{CoreValidationError}
use Rattle.admission.specs.declared.CoreValidationError.TheVariants.{Image, Profile, EmptyProgram, InvalidEntry, TooManyFunctions, TooManyRegisters, TooManyInstructions, InvalidRegister, InvalidJump, InvalidCall, MissingReturn, InvalidArgWindow}

-- the paper's number of each refusal, and what it answers with
abbrev pub refusal_numbers : CoreValidationError → List ℕ
refusal_numbers (Image fault) = fault_numbers fault
refusal_numbers (Profile error) = 10 ∷ error_numbers error
refusal_numbers EmptyProgram = 11 ∷ []
refusal_numbers (InvalidEntry entry) = 12 ∷ entry ∷ []
refusal_numbers (TooManyFunctions n max) = 13 ∷ n ∷ max ∷ []
refusal_numbers (TooManyRegisters k regs max) = 14 ∷ k ∷ regs ∷ max ∷ []
refusal_numbers (TooManyInstructions k n max) = 15 ∷ k ∷ n ∷ max ∷ []
refusal_numbers (InvalidRegister k r) = 16 ∷ k ∷ r ∷ []
refusal_numbers (InvalidJump k place) = 17 ∷ k ∷ place ∷ []
refusal_numbers (InvalidCall k function) = 18 ∷ k ∷ function ∷ []
refusal_numbers (MissingReturn k) = 19 ∷ k ∷ []
refusal_numbers (InvalidArgWindow k base n) = 20 ∷ k ∷ base ∷ n ∷ []

abbrev pub verdict_numbers : Result Unit CoreValidationError → List ℕ
verdict_numbers (Ok u) = []
verdict_numbers (Err e) = refusal_numbers e

-- ---- what an operand of function k must be
-- a register that the function has
unfoldable pub register_fault : ℕ → ℕ → ℕ → List ℕ
register_fault k regs r = demand (ltb r regs) (refusal_numbers (InvalidRegister k r))

-- a place inside the function
unfoldable pub jump_fault : ℕ → ℕ → ℕ → List ℕ
jump_fault k len place = demand (ltb place len) (refusal_numbers (InvalidJump k place))

-- a function that exists
unfoldable pub call_fault : ℕ → ℕ → ℕ → List ℕ
call_fault k functions called = demand (ltb called functions) (refusal_numbers (InvalidCall k called))

-- arguments that lie within the caller's registers, and that the callee's registers can take
unfoldable pub window_fault : ℕ → ℕ → ℕ → ℕ → ℕ → List ℕ
window_fault k regs calleeRegs base n =
    demand (leb (base + n) regs && leb n calleeRegs) (refusal_numbers (InvalidArgWindow k base n))

-- a field x of an instruction i of function k, by its use
unfoldable pub field_fault : Use → Program → ℕ → Instr → ℕ → List ℕ
field_fault unused p k i x = []
field_fault register p k i x = register_fault k (regs_of p k) x
field_fault quad p k i x = []
field_fault bool p k i x = []
field_fault signed p k i x = []
field_fault unsigned p k i x = []
field_fault target p k i x = jump_fault k (length_of p k) x
field_fault callee p k i x = call_fault k (functions_of p) x
field_fault arg_base p k i x = []
field_fault arg_count p k i x = window_fault k (regs_of p k) (regs_of p i.b) i.c x

-- the fields in the order of the record: dst, then lhs or src, then rhs; a condition before its target; a Call's dst, its function,
-- its arguments
unfoldable pub fields_fault : Fields → Program → ℕ → Instr → List ℕ
fields_fault u p k i =
    or_else (field_fault u.small p k i i.small)
    (or_else (field_fault u.a p k i i.a)
    (or_else (field_fault u.b p k i i.b)
    (or_else (field_fault u.c p k i i.c)
    (field_fault u.w p k i i.w))))

unfoldable pub instr_fault : Program → ℕ → Instr → List ℕ
instr_fault p k i = fields_fault (fields_of i.op) p k i

-- ---- function k
-- some instruction before place n returns
unfoldable pub returns_before : (ℕ → Instr) → ℕ → Bool
returns_before code zero = false
returns_before code (suc n) = returns_before code n || eqb (code n).op Ret

unfoldable pub code_fault : Program → ℕ → List ℕ
code_fault p k =
    or_else (first_of (λ (j : ℕ). instr_fault p k (code_of p k j)) (length_of p k))
    (demand (returns_before (code_of p k) (length_of p k)) (refusal_numbers (MissingReturn k)))

unfoldable pub function_fault : CoreAdmissionProfile → Program → ℕ → List ℕ
function_fault profile p k =
    let registers = profile.max_registers in
    let instrs = profile.max_instrs_per_function in
    or_else (demand (leb (regs_of p k) registers) (refusal_numbers (TooManyRegisters k (regs_of p k) registers)))
    (or_else (demand (leb (length_of p k) instrs) (refusal_numbers (TooManyInstructions k (length_of p k) instrs)))
    (code_fault p k))

-- ---- the program
unfoldable pub program_fault : CoreAdmissionProfile → Program → List ℕ
program_fault profile p =
    let n = functions_of p in
    let functions = profile.max_functions in
    or_else (under 10 (profile_fault profile))
    (or_else (demand (ltb 0 n) (refusal_numbers EmptyProgram))
    (or_else (demand (leb n functions) (refusal_numbers (TooManyFunctions n functions)))
    (or_else (demand (ltb p.entry n) (refusal_numbers (InvalidEntry p.entry)))
    (first_of (function_fault profile p) n))))

-- faults of the image come before all others
unfoldable pub verdict : RecordLayout → List ℕ → CoreAdmissionProfile → List ℕ
verdict layout bytes profile = or_else (image_fault layout bytes) (program_fault profile (decode layout bytes))
