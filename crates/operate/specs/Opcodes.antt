-- What each opcode computes: one rule for each, under its name in 000 and in the order of the numbers.
use Rattle.std.specs.Prelude.{ℕ, not, List, [], ◌∷◌, ltb, leb, eqb, pos, ◌+ℤ◌, ◌-ℤ◌, ◌*ℤ◌, get_or}
use Rattle.std.specs.Int.Bits.{bit_or, bit_and}
use Rattle.std.specs.Int.Signed.{lt_z, le_z}
use Rattle.quad.specs.Quad.{inverse_bits, is_known, is_conflict, is_null}
use Rattle.value.specs.Checked.{signed, checked_i32, checked_u32, divided_i32, divided_u32}
use Rattle.value.specs.Fixed.{fx_of, fx_product, fx_divided}
use Rattle.value.specs.Value.{unit_kind, quad_kind, bool_kind, i32_kind, u32_kind, fx_kind}
use Rattle.operate.specs.Rule.{Outcome, Rule, valued, bool_result, i32_result, u32_result, fx_result}
use Rattle.operate.specs.Rule.Rule.{nothing, loads, one, two, dividing, shortcut, moves}

-- two values of a kind are equal where their payloads are
abbrev pub equal : ℕ → ℕ → Outcome
equal l r = bool_result (eqb l r)

abbrev pub unequal : ℕ → ℕ → Outcome
unequal l r = bool_result (not (eqb l r))

-- the order of signed numbers, which I32 and Fx share
abbrev pub less : ℕ → ℕ → Outcome
less l r = bool_result (lt_z (signed l) (signed r))

abbrev pub less_or_equal : ℕ → ℕ → Outcome
less_or_equal l r = bool_result (le_z (signed l) (signed r))

abbrev pub greater : ℕ → ℕ → Outcome
greater l r = less r l

abbrev pub greater_or_equal : ℕ → ℕ → Outcome
greater_or_equal l r = less_or_equal r l

-- ---- loads
abbrev pub LoadUnit : Rule
LoadUnit = loads unit_kind (λ small w. 0)

abbrev pub LoadQuad : Rule
LoadQuad = loads quad_kind (λ small w. small)

abbrev pub LoadBool : Rule
LoadBool = loads bool_kind (λ small w. small)

abbrev pub LoadI32 : Rule
LoadI32 = loads i32_kind (λ small w. w)

abbrev pub LoadU32 : Rule
LoadU32 = loads u32_kind (λ small w. w)

abbrev pub LoadFx : Rule
LoadFx = loads fx_kind (λ small w. w)

-- ---- quads
abbrev pub QNot : Rule
QNot = one quad_kind (λ q. valued quad_kind (inverse_bits q))

abbrev pub QJoin : Rule
QJoin = two quad_kind (λ l r. valued quad_kind (bit_or l r))

abbrev pub QMeet : Rule
QMeet = two quad_kind (λ l r. valued quad_kind (bit_and l r))

abbrev pub QImpl : Rule
QImpl = two quad_kind (λ l r. valued quad_kind (bit_or (inverse_bits l) r))

abbrev pub QEq : Rule
QEq = two quad_kind equal

abbrev pub QNe : Rule
QNe = two quad_kind unequal

abbrev pub QIsKnown : Rule
QIsKnown = one quad_kind (λ q. bool_result (is_known q))

abbrev pub QIsConflict : Rule
QIsConflict = one quad_kind (λ q. bool_result (is_conflict q))

abbrev pub QIsNull : Rule
QIsNull = one quad_kind (λ q. bool_result (is_null q))

-- ---- Bools: false is 0 and true is 1
abbrev pub BoolNot : Rule
BoolNot = one bool_kind (λ b. bool_result (eqb b 0))

-- a false lhs is the answer
abbrev pub BoolAnd : Rule
BoolAnd = shortcut 0

-- a true lhs is the answer
abbrev pub BoolOr : Rule
BoolOr = shortcut 1

abbrev pub BoolEq : Rule
BoolEq = two bool_kind equal

abbrev pub BoolNe : Rule
BoolNe = two bool_kind unequal

-- ---- signed numbers: a division reads rhs and tests it for zero before it reads lhs
abbrev pub I32Add : Rule
I32Add = two i32_kind (λ l r. i32_result (checked_i32 (signed l +ℤ signed r)))

abbrev pub I32Sub : Rule
I32Sub = two i32_kind (λ l r. i32_result (checked_i32 (signed l -ℤ signed r)))

abbrev pub I32Mul : Rule
I32Mul = two i32_kind (λ l r. i32_result (checked_i32 (signed l *ℤ signed r)))

abbrev pub I32Div : Rule
I32Div = dividing i32_kind (λ l r. i32_result (divided_i32 (signed l) (signed r)))

abbrev pub I32Eq : Rule
I32Eq = two i32_kind equal

abbrev pub I32Lt : Rule
I32Lt = two i32_kind less

abbrev pub I32Le : Rule
I32Le = two i32_kind less_or_equal

abbrev pub I32Gt : Rule
I32Gt = two i32_kind greater

abbrev pub I32Ge : Rule
I32Ge = two i32_kind greater_or_equal

-- ---- unsigned numbers: the same order
abbrev pub U32Add : Rule
U32Add = two u32_kind (λ l r. u32_result (checked_u32 (pos l +ℤ pos r)))

abbrev pub U32Sub : Rule
U32Sub = two u32_kind (λ l r. u32_result (checked_u32 (pos l -ℤ pos r)))

abbrev pub U32Mul : Rule
U32Mul = two u32_kind (λ l r. u32_result (checked_u32 (pos l *ℤ pos r)))

abbrev pub U32Div : Rule
U32Div = dividing u32_kind (λ l r. u32_result (divided_u32 (pos l) (pos r)))

abbrev pub U32Eq : Rule
U32Eq = two u32_kind equal

abbrev pub U32Lt : Rule
U32Lt = two u32_kind (λ l r. bool_result (ltb l r))

abbrev pub U32Le : Rule
U32Le = two u32_kind (λ l r. bool_result (leb l r))

abbrev pub U32Gt : Rule
U32Gt = two u32_kind (λ l r. bool_result (ltb r l))

abbrev pub U32Ge : Rule
U32Ge = two u32_kind (λ l r. bool_result (leb r l))

-- ---- fixed-point numbers: a division reads lhs and rhs before it tests for zero
abbrev pub FxAdd : Rule
FxAdd = two fx_kind (λ l r. fx_result (fx_of (checked_i32 (signed l +ℤ signed r))))

abbrev pub FxSub : Rule
FxSub = two fx_kind (λ l r. fx_result (fx_of (checked_i32 (signed l -ℤ signed r))))

abbrev pub FxMul : Rule
FxMul = two fx_kind (λ l r. fx_result (fx_of (checked_i32 (fx_product (signed l) (signed r)))))

abbrev pub FxDiv : Rule
FxDiv = two fx_kind (λ l r. fx_result (fx_of (fx_divided (signed l) (signed r))))

abbrev pub FxEq : Rule
FxEq = two fx_kind equal

abbrev pub FxLt : Rule
FxLt = two fx_kind less

abbrev pub FxLe : Rule
FxLe = two fx_kind less_or_equal

abbrev pub FxGt : Rule
FxGt = two fx_kind greater

abbrev pub FxGe : Rule
FxGe = two fx_kind greater_or_equal

-- ---- any value
abbrev pub Move : Rule
Move = moves

-- ---- the rule of a number: Nop, Trap and Assert compute no value, nor do the jumps, Call and Ret, nor any other number
unfoldable pub rules : List Rule
rules =
    nothing ∷ nothing ∷ nothing
    ∷ LoadUnit ∷ LoadQuad ∷ LoadBool ∷ LoadI32 ∷ LoadU32 ∷ LoadFx
    ∷ QNot ∷ QJoin ∷ QMeet ∷ QImpl ∷ QEq ∷ QNe ∷ QIsKnown ∷ QIsConflict ∷ QIsNull
    ∷ BoolNot ∷ BoolAnd ∷ BoolOr ∷ BoolEq ∷ BoolNe
    ∷ I32Add ∷ I32Sub ∷ I32Mul ∷ I32Div ∷ I32Eq ∷ I32Lt ∷ I32Le ∷ I32Gt ∷ I32Ge
    ∷ U32Add ∷ U32Sub ∷ U32Mul ∷ U32Div ∷ U32Eq ∷ U32Lt ∷ U32Le ∷ U32Gt ∷ U32Ge
    ∷ FxAdd ∷ FxSub ∷ FxMul ∷ FxDiv ∷ FxEq ∷ FxLt ∷ FxLe ∷ FxGt ∷ FxGe
    ∷ Move
    ∷ []

unfoldable pub rule_of : ℕ → Rule
rule_of op = get_or rules op nothing
