-- The parts of a rule, for the engine's inner functions, which take the opcode along: the kind of its operands and the operation on
-- their payloads. What a whole instruction computes is in Operate.
use Rattle.std.specs.Prelude.{ℕ, ℤ, ◌+ℤ◌, ◌-ℤ◌, Bool, eqb, None, Result, Ok}
use Rattle.std.specs.declared.cmp.Ordering.{Ordering}
use Rattle.std.specs.Ordering.{is_lt, is_le, is_gt, is_ge}
use Rattle.basis.specs.Choice.{pick}
use Rattle.runtime.specs.declared.CoreTrap.{CoreTrap}
use Rattle.value.specs.Checked.{divided}
use Rattle.value.specs.Value.{unit_kind, bool_kind}
use Rattle.operate.specs.Rule.{Outcome, Rule, valued}
use Rattle.operate.specs.Rule.Rule.{nothing, loads, one, two, dividing, shortcut, moves}

unfoldable pub rule_kind : Rule → ℕ
rule_kind nothing = unit_kind
rule_kind (loads kind f) = kind
rule_kind (one kind f) = kind
rule_kind (two kind f) = kind
rule_kind (dividing kind f) = kind
rule_kind (shortcut stop) = bool_kind
rule_kind moves = unit_kind

unfoldable pub on_one : Rule → ℕ → Outcome
on_one nothing p = Ok None
on_one (loads kind f) p = Ok None
on_one (one kind f) p = f p
on_one (two kind f) p = Ok None
on_one (dividing kind f) p = Ok None
on_one (shortcut stop) p = Ok None
on_one moves p = Ok None

unfoldable pub on_two : Rule → ℕ → ℕ → Outcome
on_two nothing l r = Ok None
on_two (loads kind f) l r = Ok None
on_two (one kind f) l r = Ok None
on_two (two kind f) l r = f l r
on_two (dividing kind f) l r = f l r
on_two (shortcut stop) l r = Ok None
on_two moves l r = Ok None

unfoldable pub on_load : Rule → ℕ → ℕ → Outcome
on_load nothing small w = Ok None
on_load (loads kind f) small w = valued kind (f small w)
on_load (one kind f) small w = Ok None
on_load (two kind f) small w = Ok None
on_load (dividing kind f) small w = Ok None
on_load (shortcut stop) small w = Ok None
on_load moves small w = Ok None

-- Add, Sub, Mul, Div of a type of numbers, in the order of the opcodes
unfoldable pub arithmetic : {N : Type 0} → (ℤ → Result N CoreTrap) → (ℤ → ℤ → ℤ) → (ℤ → ℤ → ℤ) → ℕ → ℤ → ℤ → Result N CoreTrap
arithmetic checked product quotient which a b =
    pick (eqb which 0) (checked (a +ℤ b))
    (pick (eqb which 1) (checked (a -ℤ b)) (pick (eqb which 2) (checked (product a b)) (divided checked quotient a b)))

-- Lt, Le, Gt, Ge, in the order of the opcodes
unfoldable pub relation : ℕ → Ordering → Bool
relation which o = pick (eqb which 0) (is_lt o) (pick (eqb which 1) (is_le o) (pick (eqb which 2) (is_gt o) (is_ge o)))
