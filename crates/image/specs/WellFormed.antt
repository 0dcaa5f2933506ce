-- What a well-formed image is, rule by rule. Nothing here speaks of a check, an order or an answer.
use Rattle.std.specs.Prelude.{ℕ, ◌≤◌, ◌<◌, ◌≡◌, List, length}
use Rattle.instr.specs.declared.Instr.{Instr}
use Rattle.image.specs.Fields.{most, opcodes, fields_of}
use Rattle.image.specs.Records.{header_size, header_of, function_no, RecordLayout, function_place, instr_place, instr_no, start_of}

-- an instruction's record: one of the opcodes, and no field past what the opcode uses it for
pub record Lawful (i : Instr) : Type 0 where
  pub opcode : i.op < opcodes
  pub small : i.small ≤ most (fields_of i.op).small
  pub a : i.a ≤ most (fields_of i.op).a
  pub b : i.b ≤ most (fields_of i.op).b
  pub c : i.c ≤ most (fields_of i.op).c
  pub w : i.w ≤ most (fields_of i.op).w

pub record WellFormed (layout : RecordLayout) (bytes : List ℕ) : Type 0 where
  -- there is a header, and it names this form
  pub long : header_size ≤ length bytes
  pub form : (header_of bytes).form ≡ layout.form
  -- the functions stand after the header, the instructions after the functions, and nothing after them
  pub table : (header_of bytes).table ≡ function_place 0
  pub code : (header_of bytes).code ≡ function_place (header_of bytes).functions
  pub total : (header_of bytes).total ≡ instr_place layout (header_of bytes).functions (header_of bytes).instructions
  pub size : length bytes ≡ instr_place layout (header_of bytes).functions (header_of bytes).instructions
  -- each function's spare field is 0, each starts where those before it end, and together they have all instructions
  pub zeros : (k : ℕ) → k < (header_of bytes).functions → (function_no bytes k).zero ≡ 0
  pub joins : (k : ℕ) → k < (header_of bytes).functions → (function_no bytes k).first ≡ start_of bytes k
  pub sum : start_of bytes (header_of bytes).functions ≡ (header_of bytes).instructions
  -- every instruction is lawful
  pub records : (k : ℕ) → k < (header_of bytes).instructions → Lawful (instr_no layout bytes k)
