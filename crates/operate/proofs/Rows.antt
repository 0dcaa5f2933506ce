-- The rows of the table of rules, by the ranges in which the code decides. Assumes nothing.
use Rattle.std.specs.Prelude.{None, Ok, Err}
use Rattle.std.specs.Ordering.{int_cmp, nat_cmp}
use Prim.Native.Nat.{ℕ, ◌+◌, ◌-◌, ◌≤◌, ◌<◌}
use mathlib.Core.Bool.{Bool, true, false}
use mathlib.Core.Path.{◌≡◌, refl, sym, ap}
use mathlib.Core.List.{List}
use lib.Dec.{T, eqb, eqb→eq}
use lib.IntN.{ℤ, pos, ◌*ℤ◌}
use lib.Signed.{quot_z}
use lib.ListN.{get_or-eq_default}
use Rattle.basis.proofs.Ranges.{◌&◌, each, Passes, passes}
use Rattle.basis.specs.Choice.{pick}
use Rattle.runtime.specs.declared.CoreTrap.TheVariants.{DivisionByZero}
use Rattle.value.specs.Checked.{signed, is_zero, checked_i32, checked_u32, divided}
use Rattle.value.specs.Fixed.{fx_of, checked_fx, fx_product, fx_quotient, fx_divided, ordered}
use Rattle.instr.specs.declared.Instr.{Instr}
use Rattle.operate.specs.Parts.{rule_kind, on_one, on_two, on_load, arithmetic, relation}
use Rattle.operate.specs.Rule.{bool_result, i32_result, u32_result, fx_result}
use Rattle.operate.specs.Rule.Rule.{nothing}
use Rattle.operate.specs.Opcodes.{rules, rule_of}
use Rattle.operate.proofs.Order.{unsigned_tests, signed_tests, ordered_is}
use Rattle.operate.specs.Operate.{read_one, read_two, computed}

-- ---- the kind of the operands: a test that is computed over the rows once, and the law that turns it into the fact
unfoldable pub has_kind : ℕ → ℕ → Bool
has_kind kind op = eqb kind (rule_kind (rule_of op))

pub kind_rows : (kind lo n op : ℕ) → T (Passes (has_kind kind) lo n) → lo ≤ op → op < lo + n → kind ≡ rule_kind (rule_of op)
unfolding has_kind
kind_rows kind lo n op t l h = eqb→eq kind (rule_kind (rule_of op)) (passes (has_kind kind) lo n op t l h)

-- ---- numbers with no row
pub no_row : (op : ℕ) → 51 ≤ op → nothing ≡ rule_of op
unfolding rules rule_of
no_row op h = sym (get_or-eq_default rules nothing h)

-- ---- arithmetic: the four rows of a type of numbers
fx_division : (a b : ℤ) → fx_result (divided checked_fx fx_quotient a b) ≡ fx_result (fx_of (fx_divided a b))
fx_division a b = by (is_zero b)
  where
    by : (z : Bool) → fx_result (pick z (Err DivisionByZero) (checked_fx (fx_quotient a b))) ≡ fx_result (fx_of (pick z (Err DivisionByZero) (checked_i32 (fx_quotient a b))))
    by true = refl
    by false = refl

module _ (op l r : ℕ) where
  abbrev I32Row : ℕ → Type 0
  I32Row k = i32_result (arithmetic checked_i32 ◌*ℤ◌ quot_z (k - 23) (signed l) (signed r)) ≡ on_two (rule_of k) l r

  pub i32_rows : 23 ≤ op → op < 27 → I32Row op
  unfolding rules rule_of on_two arithmetic
  i32_rows = each I32Row 23 4 op (refl & refl & refl & refl & tt)

  abbrev U32Row : ℕ → Type 0
  U32Row k = u32_result (arithmetic checked_u32 ◌*ℤ◌ quot_z (k - 32) (pos l) (pos r)) ≡ on_two (rule_of k) l r

  pub u32_rows : 32 ≤ op → op < 36 → U32Row op
  unfolding rules rule_of on_two arithmetic
  u32_rows = each U32Row 32 4 op (refl & refl & refl & refl & tt)

  abbrev FxRow : ℕ → Type 0
  FxRow k = fx_result (arithmetic checked_fx fx_product fx_quotient (k - 41) (signed l) (signed r)) ≡ on_two (rule_of k) l r

  pub fx_rows : 41 ≤ op → op < 45 → FxRow op
  unfolding rules rule_of on_two arithmetic
  fx_rows = each FxRow 41 4 op (refl & refl & refl & fx_division (signed l) (signed r) & tt)

  -- ---- order: Lt, Le, Gt, Ge of a type of numbers
  abbrev I32Order : ℕ → Type 0
  I32Order k = bool_result (relation (k - 28) (int_cmp (signed l) (signed r))) ≡ on_two (rule_of k) l r

  pub i32_order : 28 ≤ op → op < 32 → I32Order op
  unfolding rules rule_of on_two relation
  i32_order = each I32Order 28 4 op (signed_tests (signed l) (signed r))

  abbrev U32Order : ℕ → Type 0
  U32Order k = bool_result (relation (k - 37) (nat_cmp l r)) ≡ on_two (rule_of k) l r

  pub u32_order : 37 ≤ op → op < 41 → U32Order op
  unfolding rules rule_of on_two relation
  u32_order = each U32Order 37 4 op (unsigned_tests l r)

  -- Fx has the order of its raw units
  abbrev FxOrder : ℕ → Type 0
  FxOrder k = bool_result (relation (k - 46) (ordered (signed l) (signed r))) ≡ on_two (rule_of k) l r

  pub fx_order : 46 ≤ op → op < 50 → FxOrder op
  unfolding rules rule_of on_two relation
  fx_order = each FxOrder 46 4 op (rw (ordered_is (signed l) (signed r)) (signed_tests (signed l) (signed r)))

module _ (i : Instr) (win : List ℕ) where
  -- Nop, Trap and Assert, and what lies past Move
  pub computes_nothing : (op : ℕ) → 0 ≤ op → op < 3 → Ok None ≡ computed (rule_of op) i win
  unfolding rules rule_of computed
  computes_nothing op = each (λ k. Ok None ≡ computed (rule_of k) i win) 0 3 op (refl & refl & refl & tt)

  pub computes_none : (op : ℕ) → 51 ≤ op → Ok None ≡ computed (rule_of op) i win
  unfolding computed
  computes_none op h = ap (λ rule. computed rule i win) (no_row op h)

  pub load_rows : (op : ℕ) → 3 ≤ op → op < 9 → on_load (rule_of op) i.small i.w ≡ computed (rule_of op) i win
  unfolding rules rule_of computed on_load
  load_rows op =
      each (λ k. on_load (rule_of k) i.small i.w ≡ computed (rule_of k) i win) 3 6 op
      (refl & refl & refl & refl & refl & refl & tt)

  abbrev OneRow : ℕ → Type 0
  OneRow op = read_one (rule_kind (rule_of op)) (on_one (rule_of op)) win i.b ≡ computed (rule_of op) i win

  pub one_rows : (op : ℕ) → 15 ≤ op → op < 19 → OneRow op
  unfolding rules rule_of computed rule_kind on_one
  one_rows op = each OneRow 15 4 op (refl & refl & refl & refl & tt)

  abbrev TwoRow : ℕ → Type 0
  TwoRow op = read_two (rule_kind (rule_of op)) (on_two (rule_of op)) win i.b i.c ≡ computed (rule_of op) i win

  pub quad_rows : (op : ℕ) → 10 ≤ op → op < 15 → TwoRow op
  unfolding rules rule_of computed rule_kind on_two
  quad_rows op = each TwoRow 10 5 op (refl & refl & refl & refl & refl & tt)

  -- the rest of those with two operands: I32Div, 26, and U32Div, 35, read them in another order
  pub two_rows : (op : ℕ) → 21 ≤ op → op < 50 → (op ≡ 26 → ⊥) → (op ≡ 35 → ⊥) → TwoRow op
  unfolding rules rule_of computed rule_kind on_two
  two_rows op =
      each (λ k. (k ≡ 26 → ⊥) → (k ≡ 35 → ⊥) → TwoRow k) 21 29 op
      (row & row & row & row & row & (λ f g. absurd (f refl)) & row & row & row & row & row & row & row & row & (λ f g. absurd (g refl))
      & row & row & row & row & row & row & row & row & row & row & row & row & row & row & tt)
    where
      row : {A B C : Type 0} {x : A} → B → C → x ≡ x
      row f g = refl
