-- Where the numbers of an image stand.
use Rattle.std.specs.Prelude.{ℕ, zero, suc, ◌+◌, ◌*◌, List}
use Rattle.basis.specs.Bytes.{byte_at, half_at, word_at}
use Rattle.instr.specs.declared.Instr.{Instr}
use Rattle.image.specs.declared.record.Header.{Header}
use Rattle.image.specs.declared.record.FunctionRecord.{FunctionRecord}

-- ---- the sizes of what has one size in every form
abbrev pub header_size : ℕ
header_size = 24

abbrev pub function_size : ℕ
function_size = 16

-- ---- the records
-- the header
unfoldable pub header_of : List ℕ → Header
header_of bytes =
    record {
      form = half_at bytes 0;
      entry = half_at bytes 2;
      functions = word_at bytes 4;
      instructions = word_at bytes 8;
      table = word_at bytes 12;
      code = word_at bytes 16;
      total = word_at bytes 20;
    }

-- a function record at a place
unfoldable pub function_at : List ℕ → ℕ → FunctionRecord
function_at bytes at =
    record {
      name = word_at bytes at;
      regs = half_at bytes (at + 4);
      zero = half_at bytes (at + 6);
      first = word_at bytes (at + 8);
      count = word_at bytes (at + 12);
    }

-- how instruction records are written: the form number that stands for it, a record's size in bytes, and the instruction that a record
-- at a place holds. Everything said about images is said for every layout.
pub record RecordLayout : Type 0 where
  pub form : ℕ
  pub size : ℕ
  pub instr_at : List ℕ → ℕ → Instr

-- form 1: opcode, small, a, b, c, w in 12 bytes
unfoldable pub form1_instr : List ℕ → ℕ → Instr
form1_instr bytes at =
    record {
      op = byte_at bytes at;
      small = byte_at bytes (at + 1);
      a = half_at bytes (at + 2);
      b = half_at bytes (at + 4);
      c = half_at bytes (at + 6);
      w = word_at bytes (at + 8);
    }

abbrev pub form1 : RecordLayout
form1 = record { form = 1; size = 12; instr_at = form1_instr }

-- ---- one record after the other
-- function record k: the table starts right after the header
abbrev pub function_place : ℕ → ℕ
function_place k = header_size + function_size * k

abbrev pub function_no : List ℕ → ℕ → FunctionRecord
function_no bytes k = function_at bytes (function_place k)

-- where function k has to start: after the instructions of those before it
unfoldable pub start_of : List ℕ → ℕ → ℕ
start_of bytes zero = 0
start_of bytes (suc k) = start_of bytes k + (function_no bytes k).count

-- instruction record k: the table starts right after the last function record
abbrev pub instr_place : RecordLayout → ℕ → ℕ → ℕ
instr_place layout functions k = function_place functions + layout.size * k

abbrev pub instr_no : RecordLayout → List ℕ → ℕ → Instr
instr_no layout bytes k = layout.instr_at bytes (instr_place layout (header_of bytes).functions k)
