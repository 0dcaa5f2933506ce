-- Values and register words, there and back: each value that the types hold has a word of its own, and `value_at` finds it again;
-- a word at which `value_at` finds a value is that value's word. Assumes nothing.
use Rattle.std.specs.Prelude.{◌≡◌, ℕ, ◌/◌, ◌%◌, ◌^◌, ◌<◌, ◌≤◌, true, false, eqb, Option, Some, None}
use mathlib.Core.Bool as bool
use mathlib.Core.Path.{refl, sym, ap, ap₂, ◌∙◌}
use native.Mathlib.Omega.{arith}
use native.Mathlib.Nat.{div-add-mod'}
use native.Mathlib.Decide.{ℕ_discrete, dec_lt}
use borrow.Author.Tests.{eq-eqb, ne_eqb}
use Rattle.basis.specs.Choice.{pick}
use Rattle.basis.proofs.Ranges.{◌&◌, each}
use Rattle.quad.specs.declared.QuadState.{QuadState}
use Rattle.quad.specs.declared.QuadState.TheVariants.{N, F, T, S}
use Rattle.quad.specs.Quad.{quad_bits, state_at}
use Rattle.quad.proofs.Bits.{quad_small, state_found, state_bits}
use Rattle.value.specs.declared.word.CoreValue.{CoreValue}
use Rattle.value.specs.declared.word.Kind.{Kind}
use Rattle.value.specs.declared.word.Kind.TheVariants as kind
use Rattle.value.specs.declared.word.CoreValue.TheVariants.{Unit, Quad, Bool, I32, U32, Fx, Tuple, Record, Adt}
use Rattle.value.specs.Checked.{signed, payload}
use Rattle.value.specs.Value.{payloads, register, kind_number, kind_of, payload_of, word_of, Held, HoldsValue, value_of_kind, value_at, unit_value, quad_found, quad_value, bool_value}
use Rattle.value.proofs.Signs.{signed_fits, signed_payload, payload_signed, payload_small}

-- ---- one kind only has each number, so a promise about a kind's number fixes the kind
kind_at : ℕ → Kind
kind_at n =
    let is : ℕ → bool.Bool = λ k. eqb n k in
    pick (is 0) kind.Unit
    (pick (is 1) kind.Quad
    (pick (is 2) kind.Bool
    (pick (is 3) kind.I32
    (pick (is 4) kind.U32
    (pick (is 5) kind.Fx
    (pick (is 6) kind.Tuple
    (pick (is 7) kind.Record kind.Adt)))))))

kind_back : (k : Kind) → kind_at (kind_number k) ≡ k
unfolding kind_at
kind_back kind.Unit = refl
kind_back kind.Quad = refl
kind_back kind.Bool = refl
kind_back kind.I32 = refl
kind_back kind.U32 = refl
kind_back kind.Fx = refl
kind_back kind.Tuple = refl
kind_back kind.Record = refl
kind_back kind.Adt = refl

pub kind_unique : (j k : Kind) → kind_number j ≡ kind_number k → j ≡ k
kind_unique j k e = sym (kind_back j) ∙ ap kind_at e ∙ kind_back k

-- ---- a word's two halves
kind_half : (k p : ℕ) → p < 2 ^ 32 → register k p / 2 ^ 32 ≡ k
kind_half k p h = omega arith

payload_half : (k p : ℕ) → p < 2 ^ 32 → register k p % 2 ^ 32 ≡ p
payload_half k p h = omega arith

halves : (k p : ℕ) → p < 2 ^ 32 → value_at (register k p) ≡ value_of_kind k p
unfolding value_at
halves k p h = ap₂ value_of_kind (kind_half k p h) (payload_half k p h)

-- ---- there
pub found : (v : CoreValue) → Held v → value_at (word_of v) ≡ Some v
unfolding word_of
found Unit h = halves 0 0 (omega arith)
found (Quad q) h = halves 1 (quad_bits q) (omega (arith, quad_small q)) ∙ ap quad_found (state_found q)
found (Bool true) h = halves 2 1 (omega arith)
found (Bool false) h = halves 2 0 (omega arith)
found (I32 v) h = halves 3 (payload v) (payload_small v h) ∙ ap (λ z. Some (I32 z)) (signed_payload v h)
found (U32 v) h = halves 4 v h
found (Fx v) h = halves 5 (payload v.0) (payload_small v.0 h) ∙ ap (λ z. Some (Fx (record { 0 = z }))) (signed_payload v.0 h)
found (Tuple t) h = halves 6 t.0 h
found (Record r) h = halves 7 r.0 h
found (Adt a) h = halves 8 a.0 h

-- two values have one word only where they are one
pub word_unique : (v u : CoreValue) → Held v → Held u → word_of v ≡ word_of u → v ≡ u
word_unique v u h k e = let q : Some v ≡ Some u = sym (found v h) ∙ ap value_at e ∙ found u k in cc

-- ---- and back
same : {v u : CoreValue} {n : ℕ} → Some u ≡ Some v → word_of u ≡ n → word_of v ≡ n
same {v} {u} q e = let s : v ≡ u = cc in rw s e

none : {v : CoreValue} {n : ℕ} → None ≡ Some v → word_of v ≡ n
none {v} q = absurd (let z : ◌≡◌ {A = ℕ} 0 1 = cc in omega arith)

-- no kind has a number from 9 on
pub no_kind : (k p : ℕ) → 9 ≤ k → value_of_kind k p ≡ None
no_kind k p h =
    rw
    (ne_eqb k 0 (λ e. omega arith), ne_eqb k 1 (λ e. omega arith), ne_eqb k 2 (λ e. omega arith), ne_eqb k 3 (λ e. omega arith), ne_eqb k 4 (λ e. omega arith), ne_eqb k 5 (λ e. omega arith), ne_eqb k 6 (λ e. omega arith), ne_eqb k 7 (λ e. omega arith), ne_eqb k 8 (λ e. omega arith))

module _ (v : CoreValue) (p : ℕ) where
  unit_back : unit_value p ≡ Some v → word_of v ≡ register 0 p
  unfolding word_of
  unit_back q = by (ℕ_discrete p 0)
    where
      by : Dec (p ≡ 0) → word_of v ≡ register 0 p
      by (yes e) = same {u = Unit} (rw (eq-eqb p 0 e) at q) (rw e)
      by (no f) = none (rw (ne_eqb p 0 f) at q)

  bool_back : bool_value p ≡ Some v → word_of v ≡ register 2 p
  unfolding word_of
  bool_back q = by (ℕ_discrete p 0) (ℕ_discrete p 1)
    where
      by : Dec (p ≡ 0) → Dec (p ≡ 1) → word_of v ≡ register 2 p
      by (yes e) d = same {u = Bool false} (rw (eq-eqb p 0 e) at q) (rw e)
      by (no f) (yes e) = same {u = Bool true} (rw (ne_eqb p 0 f, eq-eqb p 1 e) at q) (rw e)
      by (no f) (no g) = none (rw (ne_eqb p 0 f, ne_eqb p 1 g) at q)

  quad_back : quad_value p ≡ Some v → word_of v ≡ register 1 p
  unfolding word_of
  quad_back q = by (state_at p) refl
    where
      by : (x : Option QuadState) → state_at p ≡ x → word_of v ≡ register 1 p
      by (Some u) e = same {u = Quad u} (rw e at q) (ap (register 1) (state_bits p u e))
      by None e = none (rw e at q)

  abbrev Back : ℕ → Type 0
  Back k = value_of_kind k p ≡ Some v → word_of v ≡ register k p

  small_kinds : (k : ℕ) → p < 2 ^ 32 → 0 ≤ k → k < 9 → Back k
  unfolding word_of
  small_kinds k h =
      each Back 0 9 k
      (unit_back
      & quad_back
      & bool_back
      & (λ q. same {u = I32 (signed p)} q (ap (register 3) (payload_signed p h)))
      & (λ q. same {u = U32 p} q refl)
      & (λ q. same {u = Fx (record { 0 = signed p })} q (ap (register 5) (payload_signed p h)))
      & (λ q. same {u = Tuple (record { 0 = p })} q refl)
      & (λ q. same {u = Record (record { 0 = p })} q refl)
      & (λ q. same {u = Adt (record { 0 = p })} q refl)
      & tt)

  large_kinds : (k : ℕ) → 9 ≤ k → Back k
  large_kinds k h q = none (sym (no_kind k p h) ∙ q)

  back_of : (k : ℕ) → Dec (k < 9) → p < 2 ^ 32 → Back k
  back_of k (yes h) l = small_kinds k l (omega arith) h
  back_of k (no h) l = large_kinds k (omega arith)

pub held_by : (word : ℕ) (v : CoreValue) → value_at word ≡ Some v → word_of v ≡ word
unfolding value_at
held_by word v q =
    back_of v (word % 2 ^ 32) (word / 2 ^ 32) (dec_lt (word / 2 ^ 32) 9) (omega arith) q ∙ div-add-mod' word (2 ^ 32)

-- ---- the words that hold values are those of the kinds, each with a payload that it has
abbrev Filled : ℕ → Type 0
Filled k = (p : ℕ) → p < payloads k → HoldsValue (register k p)

unit_filled : Filled 0
unfolding word_of
unit_filled p h = record { value = Unit; held = tt; is = let e : 0 ≡ p = omega arith in ap (register 0) e }

quad_filled : Filled 1
unfolding word_of
quad_filled p h =
    each (λ k. HoldsValue (register 1 k)) 0 4 p (quad_held N & quad_held F & quad_held T & quad_held S & tt) (omega arith) h
  where
    quad_held : (q : QuadState) → HoldsValue (register 1 (quad_bits q))
    quad_held q = record { value = Quad q; held = tt; is = refl }

bool_filled : Filled 2
unfolding word_of
bool_filled p h = by (ℕ_discrete p 0)
  where
    by : Dec (p ≡ 0) → HoldsValue (register 2 p)
    by (yes e) = record { value = Bool false; held = tt; is = ap (register 2) (sym e) }
    by (no f) = record { value = Bool true; held = tt; is = let e : 1 ≡ p = omega arith in ap (register 2) e }

pub filled : (k : ℕ) → 0 ≤ k → k < 9 → Filled k
unfolding word_of
filled k =
    each Filled 0 9 k
    (unit_filled
    & quad_filled
    & bool_filled
    & (λ p h. record { value = I32 (signed p); held = (signed_fits p h).sfits; is = ap (register 3) (payload_signed p h) })
    & (λ p h. record { value = U32 p; held = h; is = refl })
    & (λ p h. record { value = Fx (record { 0 = signed p }); held = (signed_fits p h).sfits; is = ap (register 5) (payload_signed p h) })
    & (λ p h. record { value = Tuple (record { 0 = p }); held = h; is = refl })
    & (λ p h. record { value = Record (record { 0 = p }); held = h; is = refl })
    & (λ p h. record { value = Adt (record { 0 = p }); held = h; is = refl })
    & tt)

-- ---- a value's payload is one of its kind's, and has 32 bits
pub payload_within : (v : CoreValue) → Held v → payload_of v < payloads (kind_of v)
payload_within Unit h = omega arith
payload_within (Quad q) h = quad_small q
payload_within (Bool true) h = omega arith
payload_within (Bool false) h = omega arith
payload_within (I32 v) h = payload_small v h
payload_within (U32 v) h = h
payload_within (Fx v) h = payload_small v.0 h
payload_within (Tuple t) h = h
payload_within (Record r) h = h
payload_within (Adt a) h = h

least : (b : bool.Bool) (m n : ℕ) → m ≤ 2 ^ 32 → n ≤ 2 ^ 32 → pick b m n ≤ 2 ^ 32
least true m n h k = h
least false m n h k = k

pub payloads_bits : (k : ℕ) → payloads k ≤ 2 ^ 32
payloads_bits k =
    least (eqb k 0) 1 _ (omega arith) (least (eqb k 1) 4 _ (omega arith) (least (eqb k 2) 2 (2 ^ 32) (omega arith) (omega arith)))

-- ---- the two halves of a value's word
pub kind_of_word : (v : CoreValue) → Held v → word_of v / 2 ^ 32 ≡ kind_of v
unfolding word_of
kind_of_word v h = kind_half (kind_of v) (payload_of v) (omega (arith, payload_within v h, payloads_bits (kind_of v)))

pub payload_of_word : (v : CoreValue) → Held v → word_of v % 2 ^ 32 ≡ payload_of v
unfolding word_of
payload_of_word v h = payload_half (kind_of v) (payload_of v) (omega (arith, payload_within v h, payloads_bits (kind_of v)))
