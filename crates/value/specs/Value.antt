-- Values and the words that hold them in a register: kind times 2^32 plus a payload of 32 bits.
use Rattle.std.specs.Prelude.{◌≡◌, ℕ, ◌+◌, ◌*◌, ◌/◌, ◌%◌, ◌^◌, ◌<◌, true, false, ◌==◌, Option, Some, None}
use Rattle.std.specs.Int.Signed.{mag}
use Rattle.basis.specs.Choice.{pick}
use Rattle.quad.specs.declared.QuadState.{QuadState}
use Rattle.quad.specs.Quad.{quad_bits, state_at}
use Rattle.value.specs.declared.word.CoreValue.{CoreValue}
use Rattle.value.specs.declared.word.CoreValue.TheVariants.{Unit, Quad, Bool, I32, U32, Fx, Tuple, Record, Adt}
use Rattle.value.specs.declared.word.Kind.{Kind}
use Rattle.value.specs.declared.word.Kind.TheVariants as kind
use Rattle.value.specs.Checked.{signed, payload}

-- ---- the numbers of the kinds, as registers and the digest carry them
abbrev pub unit_kind : ℕ
unit_kind = 0

abbrev pub quad_kind : ℕ
quad_kind = 1

abbrev pub bool_kind : ℕ
bool_kind = 2

abbrev pub i32_kind : ℕ
i32_kind = 3

abbrev pub u32_kind : ℕ
u32_kind = 4

abbrev pub fx_kind : ℕ
fx_kind = 5

abbrev pub tuple_kind : ℕ
tuple_kind = 6

abbrev pub record_kind : ℕ
record_kind = 7

abbrev pub adt_kind : ℕ
adt_kind = 8

abbrev pub kind_number : Kind → ℕ
kind_number kind.Unit = unit_kind
kind_number kind.Quad = quad_kind
kind_number kind.Bool = bool_kind
kind_number kind.I32 = i32_kind
kind_number kind.U32 = u32_kind
kind_number kind.Fx = fx_kind
kind_number kind.Tuple = tuple_kind
kind_number kind.Record = record_kind
kind_number kind.Adt = adt_kind

-- how many payloads a kind has: they are the numbers below this
abbrev pub payloads : ℕ → ℕ
payloads kind = pick (kind == unit_kind) 1 (pick (kind == quad_kind) 4 (pick (kind == bool_kind) 2 (2 ^ 32)))

-- the word of a kind and a payload
abbrev pub register : ℕ → ℕ → ℕ
register kind p = kind * 2 ^ 32 + p

abbrev pub kind_of : CoreValue → ℕ
kind_of Unit = unit_kind
kind_of (Quad q) = quad_kind
kind_of (Bool b) = bool_kind
kind_of (I32 v) = i32_kind
kind_of (U32 v) = u32_kind
kind_of (Fx v) = fx_kind
kind_of (Tuple t) = tuple_kind
kind_of (Record r) = record_kind
kind_of (Adt a) = adt_kind

-- a value's payload: a quad's bits, 0 or 1 for a Bool, a signed number as two's complement, a reference's number
abbrev pub payload_of : CoreValue → ℕ
payload_of Unit = 0
payload_of (Quad q) = quad_bits q
payload_of (Bool b) = pick b 1 0
payload_of (I32 v) = payload v
payload_of (U32 v) = v
payload_of (Fx v) = payload v.0
payload_of (Tuple t) = t.0
payload_of (Record r) = r.0
payload_of (Adt a) = a.0

unfoldable pub word_of : CoreValue → ℕ
word_of v = register (kind_of v) (payload_of v)

-- the values that the engine's types hold: of all numbers, those of 32 bits. `mag z < 2 ^ 31` says that z is an i32: mag is n
-- both for n and for -(n + 1)
abbrev pub Held : CoreValue → Type 0
Held Unit = Prim.Unit {0}
Held (Quad q) = Prim.Unit {0}
Held (Bool b) = Prim.Unit {0}
Held (I32 v) = mag v < 2 ^ 31
Held (U32 v) = v < 2 ^ 32
Held (Fx v) = mag v.0 < 2 ^ 31
Held (Tuple t) = t.0 < 2 ^ 32
Held (Record r) = r.0 < 2 ^ 32
Held (Adt a) = a.0 < 2 ^ 32

-- a word that is some value's
pub record HoldsValue (word : ℕ) : Type 0 where
  pub value : CoreValue
  pub held : Held value
  pub is : word_of value ≡ word

-- ---- the way back. A word of another kind, or with a payload that its kind does not have, holds no value
abbrev pub unit_value : ℕ → Option CoreValue
unit_value p = pick (p == 0) (Some Unit) None

abbrev pub quad_found : Option QuadState → Option CoreValue
quad_found (Some q) = Some (Quad q)
quad_found None = None

abbrev pub quad_value : ℕ → Option CoreValue
quad_value p = quad_found (state_at p)

abbrev pub bool_value : ℕ → Option CoreValue
bool_value p = pick (p == 0) (Some (Bool false)) (pick (p == 1) (Some (Bool true)) None)

abbrev pub value_of_kind : ℕ → ℕ → Option CoreValue
value_of_kind k p =
    pick (k == unit_kind) (unit_value p)
    (pick (k == quad_kind) (quad_value p)
    (pick (k == bool_kind) (bool_value p)
    (pick (k == i32_kind) (Some (I32 (signed p)))
    (pick (k == u32_kind) (Some (U32 p))
    (pick (k == fx_kind) (Some (Fx (record { 0 = signed p })))
    (pick (k == tuple_kind) (Some (Tuple (record { 0 = p })))
    (pick (k == record_kind) (Some (Record (record { 0 = p })))
    (pick (k == adt_kind) (Some (Adt (record { 0 = p }))) None))))))))

unfoldable pub value_at : ℕ → Option CoreValue
value_at word = value_of_kind (word / 2 ^ 32) (word % 2 ^ 32)
