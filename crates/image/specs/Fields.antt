-- Which fields of its record each opcode uses, what for, and how far each may go. It is said here alone: image check, admission and
-- whatever else looks into instructions read it from here.
use Rattle.std.specs.Prelude.{ℕ, ◌-◌, ◌^◌, List, [], ◌∷◌, get_or}

-- what a field of an instruction is for
pub data Use : Type 0 where
  -- nothing
  unused : Use
  -- names a register of the function
  register : Use
  -- a Quad's number, a Bool's number
  quad : Use
  bool : Use
  -- the bits of an I32 or an Fx, a U32
  signed : Use
  unsigned : Use
  -- names a place of the function
  target : Use
  -- of a Call: the function called, the first register of the arguments, how many arguments there are
  callee : Use
  arg_base : Use
  arg_count : Use
  deriving Discrete as use_discrete

-- the greatest value of a field by its use: a field without use is 0
abbrev pub most : Use → ℕ
most unused = 0
most register = 2 ^ 16 - 1
most quad = 3
most bool = 1
most signed = 2 ^ 32 - 1
most unsigned = 2 ^ 32 - 1
most target = 2 ^ 32 - 1
most callee = 2 ^ 16 - 1
most arg_base = 2 ^ 16 - 1
most arg_count = 2 ^ 16 - 1

-- the uses of an instruction's five fields, in the order of its record
pub record Fields : Type 0 where
  pub small : Use
  pub a : Use
  pub b : Use
  pub c : Use
  pub w : Use

-- ---- the forms that instructions take
-- no operand
abbrev pub bare : Fields
bare = record { small = unused; a = unused; b = unused; c = unused; w = unused }

-- one register: dst, cond or src
abbrev pub one : Fields
one = record { small = unused; a = register; b = unused; c = unused; w = unused }

-- dst and src
abbrev pub two : Fields
two = record { small = unused; a = register; b = register; c = unused; w = unused }

-- dst, lhs and rhs
abbrev pub three : Fields
three = record { small = unused; a = register; b = register; c = register; w = unused }

-- dst and a value to load, which stands in small, or in w
abbrev pub small : Use → Fields
small value = record { small = value; a = register; b = unused; c = unused; w = unused }

abbrev pub wide : Use → Fields
wide value = record { small = unused; a = register; b = unused; c = unused; w = value }

-- a target, without or with a condition
abbrev pub jump : Fields
jump = record { small = unused; a = unused; b = unused; c = unused; w = target }

abbrev pub branch : Fields
branch = record { small = unused; a = register; b = unused; c = unused; w = target }

-- dst, function, arg_base and arg_count
abbrev pub call : Fields
call = record { small = unused; a = register; b = callee; c = arg_base; w = arg_count }

-- ---- the form of each opcode, 0 to 55: Nop, Trap, Assert; the six loads; the nine opcodes on quads; the five on truth values; nine
-- on I32, nine on U32, nine on Fx; Move; the three jumps; Call, Ret
unfoldable pub forms : List Fields
forms =
    bare ∷ bare ∷ one
    ∷ one ∷ small quad ∷ small bool ∷ wide signed ∷ wide unsigned ∷ wide signed
    ∷ two ∷ three ∷ three ∷ three ∷ three ∷ three ∷ two ∷ two ∷ two
    ∷ two ∷ three ∷ three ∷ three ∷ three
    ∷ three ∷ three ∷ three ∷ three ∷ three ∷ three ∷ three ∷ three ∷ three
    ∷ three ∷ three ∷ three ∷ three ∷ three ∷ three ∷ three ∷ three ∷ three
    ∷ three ∷ three ∷ three ∷ three ∷ three ∷ three ∷ three ∷ three ∷ three
    ∷ two
    ∷ jump ∷ branch ∷ branch
    ∷ call ∷ one
    ∷ []

abbrev pub opcodes : ℕ
opcodes = 56

-- what is no opcode has no fields
unfoldable pub fields_of : ℕ → Fields
fields_of op = get_or forms op bare
