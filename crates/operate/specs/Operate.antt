-- What an instruction makes of the running frame's registers, given the rule of its opcode.
use Rattle.std.specs.Prelude.{ℕ, ◌/◌, ◌%◌, ◌^◌, Bool, ◌&&◌, List, ltb, leb, eqb, length, get_or, Some, None, Result, Ok, Err}
use Rattle.basis.specs.Choice.{pick}
use Rattle.runtime.specs.declared.CoreTrap.{CoreTrap}
use Rattle.runtime.specs.declared.CoreTrap.TheVariants.{InvalidRegister, TypeMismatch, DivisionByZero}
use Rattle.value.specs.Value.{bool_kind, payloads}
use Rattle.instr.specs.declared.Instr.{Instr}
use Rattle.operate.specs.Rule.{Outcome, Rule, valued}
use Rattle.operate.specs.Rule.Rule.{nothing, loads, one, two, dividing, shortcut, moves}
use Rattle.operate.specs.Opcodes.{rule_of}

-- a word is one of a kind's: it has the kind's number and a payload that the kind has
abbrev pub is_of : ℕ → ℕ → Bool
is_of kind word = eqb (word / 2 ^ 32) kind && ltb (word % 2 ^ 32) (payloads kind)

-- A register read as a kind gives its payload. One that is not there is InvalidRegister, and one whose word is not of the kind
-- TypeMismatch. So a word that holds no value at all, as a Bool with another payload than 0 and 1, matches no kind.
unfoldable pub read_as : ℕ → List ℕ → ℕ → Result ℕ CoreTrap
read_as kind win r =
    pick (leb (length win) r) (Err InvalidRegister)
    (pick (is_of kind (get_or win r 0)) (Ok (get_or win r 0 % 2 ^ 32)) (Err TypeMismatch))

-- what follows goes on with the payload; a trap ends it
abbrev pub reading : Result ℕ CoreTrap → (ℕ → Outcome) → Outcome
reading (Ok p) next = next p
reading (Err t) next = Err t

unfoldable pub read_one : ℕ → (ℕ → Outcome) → List ℕ → ℕ → Outcome
read_one kind f win src = reading (read_as kind win src) f

-- lhs first
unfoldable pub read_two : ℕ → (ℕ → ℕ → Outcome) → List ℕ → ℕ → ℕ → Outcome
read_two kind f win lhs rhs = reading (read_as kind win lhs) (λ l. reading (read_as kind win rhs) (λ r. f l r))

-- rhs first, and zero there ends it before lhs is read
unfoldable pub read_dividing : ℕ → (ℕ → ℕ → Outcome) → List ℕ → ℕ → ℕ → Outcome
read_dividing kind f win lhs rhs =
    reading (read_as kind win rhs) (λ r. pick (eqb r 0) (Err DivisionByZero) (reading (read_as kind win lhs) (λ l. f l r)))

-- lhs may end it before rhs is read
unfoldable pub read_shortcut : ℕ → List ℕ → ℕ → ℕ → Outcome
read_shortcut stop win lhs rhs =
    reading (read_as bool_kind win lhs) (λ l. pick (eqb l stop) (valued bool_kind l) (reading (read_as bool_kind win rhs) (valued bool_kind)))

-- the word as it is
unfoldable pub read_any : List ℕ → ℕ → Outcome
read_any win src = pick (leb (length win) src) (Err InvalidRegister) (Ok (Some (get_or win src 0)))

-- src and lhs stand in the field b, rhs in c
unfoldable pub computed : Rule → Instr → List ℕ → Outcome
computed nothing i win = Ok None
computed (loads kind f) i win = valued kind (f i.small i.w)
computed (one kind f) i win = read_one kind f win i.b
computed (two kind f) i win = read_two kind f win i.b i.c
computed (dividing kind f) i win = read_dividing kind f win i.b i.c
computed (shortcut stop) i win = read_shortcut stop win i.b i.c
computed moves i win = read_any win i.b

-- by the opcode's number
abbrev pub operated : ℕ → Instr → List ℕ → Outcome
operated op i win = computed (rule_of op) i win
