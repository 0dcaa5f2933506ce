-- The program that an image holds. Rules about programs are said of this, and never of bytes.
use Rattle.std.specs.Prelude.{ℕ, zero, suc, List, [], ◌∷◌, get_or}
use Rattle.instr.specs.declared.Instr.{Instr}
use Rattle.image.specs.Records.{header_of, function_no, RecordLayout, instr_no}

pub record Function : Type 0 where
  pub name : ℕ
  pub regs : ℕ
  pub code : List Instr

pub record Program : Type 0 where
  pub entry : ℕ
  pub functions : List Function

-- item i, item i + 1, .. : n of them
unfoldable pub listed : {A : Type 0} → (ℕ → A) → ℕ → ℕ → List A
listed item i zero = []
listed item i (suc n) = item i ∷ listed item (suc i) n

-- a function's code is its own part of all instructions
unfoldable pub function_of : RecordLayout → List ℕ → ℕ → Function
function_of layout bytes k =
    let f = function_no bytes k in
    record { name = f.name; regs = f.regs; code = listed (instr_no layout bytes) f.first f.count }

unfoldable pub decode : RecordLayout → List ℕ → Program
decode layout bytes =
    record { entry = (header_of bytes).entry; functions = listed (function_of layout bytes) 0 (header_of bytes).functions }

-- ---- parts of a program by their numbers; what is not there is empty
abbrev pub no_instr : Instr
no_instr = record { op = 0; small = 0; a = 0; b = 0; c = 0; w = 0 }

abbrev pub no_function : Function
no_function = record { name = 0; regs = 0; code = [] }

abbrev pub function_in : Program → ℕ → Function
function_in p k = get_or p.functions k no_function

abbrev pub instr_in : Function → ℕ → Instr
instr_in f j = get_or f.code j no_instr
