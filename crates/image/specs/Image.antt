-- The first fault of an image, in the order: length, form, layout, all functions, all instructions.
use Rattle.std.specs.Prelude.{ℕ, Bool, ◌&&◌, List, [], ◌∷◌, length, eqb, leb, ltb, Result, Ok, Err}
use Rattle.basis.specs.Answers.{demand, or_else, first_of}
use Rattle.instr.specs.declared.Instr.{Instr}
use Rattle.image.specs.Fields.{most, opcodes, fields_of}
use Rattle.image.specs.Records.{header_size, header_of, function_no, start_of, RecordLayout, function_place, instr_place, instr_no}
use Rattle.image.specs.declared.record.Header.{Header}
use Rattle.image.specs.declared.ImageFault.{ImageFault}
use Rattle.image.specs.declared.ImageFault.TheVariants.{Short, Form, Layout, FunctionTable, Instruction}

-- the paper's number of each fault, and what it answers with
abbrev pub fault_numbers : ImageFault → List ℕ
fault_numbers Short = 1 ∷ 0 ∷ []
fault_numbers Form = 2 ∷ 0 ∷ []
fault_numbers Layout = 3 ∷ 0 ∷ []
fault_numbers (FunctionTable k) = 4 ∷ k ∷ []
fault_numbers (Instruction k) = 5 ∷ k ∷ []

abbrev pub check_numbers : Result Unit ImageFault → List ℕ
check_numbers (Ok u) = []
check_numbers (Err f) = fault_numbers f

-- ---- header and functions
-- both tables stand where their counts put them, and the image ends where the instructions do
unfoldable pub layout_holds : RecordLayout → Header → ℕ → Bool
layout_holds layout h len =
    let end = instr_place layout h.functions h.instructions in
    eqb h.table (function_place 0) && (eqb h.code (function_place h.functions) && (eqb h.total end && eqb len end))

-- a function's spare field is 0, and it starts where the one before it ended
unfoldable pub row_fault : List ℕ → ℕ → List ℕ
row_fault bytes k =
    let f = function_no bytes k in
    demand (eqb f.zero 0 && eqb f.first (start_of bytes k)) (fault_numbers (FunctionTable k))

-- the functions one by one, then that they have as many instructions as there are
unfoldable pub table_fault : List ℕ → ℕ → ℕ → List ℕ
table_fault bytes functions instructions =
    or_else (first_of (row_fault bytes) functions)
    (demand (eqb (start_of bytes functions) instructions) (fault_numbers (FunctionTable functions)))

-- ---- instructions
-- no field is above its limit
unfoldable pub within : Instr → ℕ → ℕ → ℕ → ℕ → ℕ → Bool
within i small a b c w = leb i.small small && (leb i.a a && (leb i.b b && (leb i.c c && leb i.w w)))

-- one of the opcodes, and no field past what the opcode uses it for
unfoldable pub record_holds : Instr → Bool
record_holds i =
    let u = fields_of i.op in
    ltb i.op opcodes && within i (most u.small) (most u.a) (most u.b) (most u.c) (most u.w)

-- instruction k of all
unfoldable pub record_fault : (ℕ → Instr) → ℕ → List ℕ
record_fault instr k = demand (record_holds (instr k)) (fault_numbers (Instruction k))

-- ---- the image
unfoldable pub image_fault : RecordLayout → List ℕ → List ℕ
image_fault layout bytes =
    let h = header_of bytes in
    or_else (demand (leb header_size (length bytes)) (fault_numbers Short))
    (or_else (demand (eqb h.form layout.form) (fault_numbers Form))
    (or_else (demand (layout_holds layout h (length bytes)) (fault_numbers Layout))
    (or_else (table_fault bytes h.functions h.instructions)
    (first_of (record_fault (instr_no layout bytes)) h.instructions))))
