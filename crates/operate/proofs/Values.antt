-- What the rules compute from values is a value. Assumes nothing.
use Rattle.std.specs.Prelude.{Some, None, Result, Ok, Err}
use Prim.Native.Nat.{ℕ, ◌/◌, ◌%◌, ◌^◌, ◌≤◌, ◌<◌}
use mathlib.Core.Bool.{Bool, true, false, ◌&&◌}
use mathlib.Core.Path.{◌≡◌, refl, subst}
use mathlib.Core.List.{List}
use native.Mathlib.Omega.{arith}
use native.Mathlib.Decide.{dec_lt}
use lib.Bits.{or_lt, and_lt}
use lib.Dec.{ltb, leb, eqb}
use lib.IntN.{ℤ, pos, negsuc, ◌+ℤ◌, ◌-ℤ◌, ◌*ℤ◌}
use lib.ListN.{length, get_or}
use lib.Signed.{mag, quot_z}
use borrow.Author.Tests.{ltb-true, leb-true, leb-false}
use Rattle.basis.specs.Choice.{pick}
use Rattle.basis.proofs.Ranges.{◌&◌, each}
use Rattle.runtime.specs.declared.CoreTrap.{CoreTrap}
use Rattle.runtime.specs.declared.CoreTrap.TheVariants.{InvalidRegister, TypeMismatch, DivisionByZero}
use Rattle.quad.specs.Quad.{inverse_bits}
use Rattle.value.specs.declared.word.CoreValue.TheVariants as value
use Rattle.value.specs.Checked.{signed, payload, between, is_zero, checked_i32, checked_u32, divided_i32, divided_u32}
use Rattle.value.specs.Fixed.{fx_of, fx_product, fx_quotient, fx_divided}
use Rattle.value.specs.Value.{payloads, register, word_of, HoldsValue}
use Rattle.value.proofs.Words.{filled}
use Rattle.instr.specs.declared.Instr.{Instr}
use Rattle.operate.specs.Rule.{Outcome, valued, bool_result, i32_result, u32_result, fx_result}
use Rattle.operate.specs.Opcodes.{rules, rule_of}
use Rattle.operate.specs.Operate.{read_as, reading, read_one, read_two, read_dividing, read_shortcut, read_any, computed, operated}
use Rattle.operate.specs.Values.{HoldValues, LoadsValue}
use Rattle.operate.proofs.Rows.{computes_nothing, computes_none}

-- an outcome that is a value only at words that hold one
abbrev Fine : Outcome → Type 0
Fine o = (w : ℕ) → o ≡ Ok (Some w) → HoldsValue w

trap_fine : (t : CoreTrap) → Fine (Err t)
trap_fine t w q = absurd (let z : ◌≡◌ {A = ℕ} 0 1 = cc in omega arith)

-- an outcome made of what a test chooses
chosen_fine : {A : Type 0} (f : A → Outcome) (b : Bool) (x y : A) → (b ≡ true → Fine (f x)) → (b ≡ false → Fine (f y)) → Fine (f (pick b x y))
chosen_fine f true x y h g = h refl
chosen_fine f false x y h g = g refl

either_fine : (b : Bool) (o u : Outcome) → Fine o → Fine u → Fine (pick b o u)
either_fine b o u h g = chosen_fine (λ v. v) b o u (λ e. h) (λ e. g)

word_fine : {n : ℕ} → HoldsValue n → Fine (Ok (Some n))
word_fine {n} h w q = let e : n ≡ w = cc in subst HoldsValue e h

kind_fine : (k p : ℕ) → k < 9 → p < payloads k → Fine (valued k p)
kind_fine k p h l = word_fine (filled k (omega arith) h p l)

bool_fine : (b : Bool) → Fine (bool_result b)
unfolding bool_result
bool_fine true = kind_fine 2 1 (omega arith) (omega arith)
bool_fine false = kind_fine 2 0 (omega arith) (omega arith)

-- ---- checked results
in_i32 : (z : ℤ) → between (negsuc 2147483647) (pos 2147483647) z ≡ true → mag z < 2 ^ 31
in_i32 (pos n) e = omega (arith, leb-true n 2147483647 e)
in_i32 (negsuc n) e = omega (arith, leb-true n 2147483647 (by (leb n 2147483647) e))
  where
    by : (b : Bool) → (b && true) ≡ true → b ≡ true
    by true q = refl
    by false q = q

i32_held : (z : ℤ) → mag z < 2 ^ 31 → HoldsValue (register 3 (payload z))
unfolding word_of
i32_held z h = record { value = value.I32 z; held = h; is = refl }

fx_held : (z : ℤ) → mag z < 2 ^ 31 → HoldsValue (register 5 (payload z))
unfolding word_of
fx_held z h = record { value = value.Fx (record { 0 = z }); held = h; is = refl }

i32_fine : (z : ℤ) → Fine (i32_result (checked_i32 z))
i32_fine z =
    chosen_fine i32_result (between (negsuc 2147483647) (pos 2147483647) z) (Ok z) _ (λ e. word_fine (i32_held z (in_i32 z e))) (λ e. trap_fine _)

fx_fine : (z : ℤ) → Fine (fx_result (fx_of (checked_i32 z)))
fx_fine z =
    chosen_fine (λ c. fx_result (fx_of c)) (between (negsuc 2147483647) (pos 2147483647) z) (Ok z) _ (λ e. word_fine (fx_held z (in_i32 z e))) (λ e. trap_fine _)

u32_fine : (z : ℤ) → Fine (u32_result (checked_u32 z))
u32_fine (negsuc n) = trap_fine _
u32_fine (pos n) =
    chosen_fine u32_result (between (pos 0) (pos 4294967295) (pos n)) (Ok n) _ (λ e. kind_fine 4 n (omega arith) (omega (arith, leb-true n 4294967295 (small (leb 0 n) e)))) (λ e. trap_fine _)
  where
    small : (b : Bool) → (b && leb n 4294967295) ≡ true → leb n 4294967295 ≡ true
    small true q = q
    small false q = absurd (let z : ◌≡◌ {A = ℕ} 0 1 = cc in omega arith)

-- a division that may trap first
i32_divided : (a b : ℤ) → Fine (i32_result (divided_i32 a b))
i32_divided a b =
    chosen_fine i32_result (is_zero b) (Err DivisionByZero) (checked_i32 (quot_z a b)) (λ e. trap_fine _) (λ e. i32_fine (quot_z a b))

u32_divided : (a b : ℤ) → Fine (u32_result (divided_u32 a b))
u32_divided a b =
    chosen_fine u32_result (is_zero b) (Err DivisionByZero) (checked_u32 (quot_z a b)) (λ e. trap_fine _) (λ e. u32_fine (quot_z a b))

fx_divided_lem : (a b : ℤ) → Fine (fx_result (fx_of (fx_divided a b)))
fx_divided_lem a b =
    chosen_fine (λ c. fx_result (fx_of c)) (is_zero b) (Err DivisionByZero) (checked_i32 (fx_quotient a b)) (λ e. trap_fine _) (λ e. fx_fine (fx_quotient a b))

-- ---- quads: two bits stay two
inverse_small : (q : ℕ) → q < 4 → inverse_bits q < 4
inverse_small q h = each (λ k. inverse_bits k < 4) 0 4 q (omega arith & omega arith & omega arith & omega arith & tt) (omega arith) h

quad_fine : (q : ℕ) → q < 4 → Fine (valued 1 q)
quad_fine q h = kind_fine 1 q (omega arith) h

-- ---- reading: a payload that was read is one of its kind's
read_small : (k : ℕ) (win : List ℕ) (r p : ℕ) → read_as k win r ≡ Ok p → p < payloads k
unfolding read_as
read_small k win r p e = by (leb (length win) r) (eqb (get_or win r 0 / 2 ^ 32) k) (ltb (get_or win r 0 % 2 ^ 32) (payloads k)) refl e
  where
    by : (x y t : Bool) → ltb (get_or win r 0 % 2 ^ 32) (payloads k) ≡ t
        → pick x (Err InvalidRegister) (pick (y && t) (Ok (get_or win r 0 % 2 ^ 32)) (Err TypeMismatch)) ≡ Ok p → p < payloads k
    by true y t l q = absurd (let z : ◌≡◌ {A = ℕ} 0 1 = cc in omega arith)
    by false false t l q = absurd (let z : ◌≡◌ {A = ℕ} 0 1 = cc in omega arith)
    by false true false l q = absurd (let z : ◌≡◌ {A = ℕ} 0 1 = cc in omega arith)
    by false true true l q =
        let h : get_or win r 0 % 2 ^ 32 ≡ p = cc in subst (λ n. n < payloads k) h (ltb-true _ _ l)

module _ (k : ℕ) (win : List ℕ) where
  reading_fine : (r : ℕ) (f : ℕ → Outcome) → ((p : ℕ) → p < payloads k → Fine (f p)) → Fine (reading (read_as k win r) f)
  reading_fine r f g = by (read_as k win r) refl
    where
      by : (x : Result ℕ CoreTrap) → read_as k win r ≡ x → Fine (reading (read_as k win r) f)
      by (Ok p) e = rw e (g p (read_small k win r p e))
      by (Err t) e = rw e (trap_fine t)

  one_fine : (f : ℕ → Outcome) (src : ℕ) → ((p : ℕ) → p < payloads k → Fine (f p)) → Fine (read_one k f win src)
  unfolding read_one
  one_fine f src g = reading_fine src f g

  two_fine : (f : ℕ → ℕ → Outcome) (lhs rhs : ℕ) → ((l r : ℕ) → l < payloads k → r < payloads k → Fine (f l r)) → Fine (read_two k f win lhs rhs)
  unfolding read_two
  two_fine f lhs rhs g =
      reading_fine lhs (λ l. reading (read_as k win rhs) (λ r. f l r)) (λ l h. reading_fine rhs (λ r. f l r) (λ r j. g l r h j))

  dividing_fine : (f : ℕ → ℕ → Outcome) (lhs rhs : ℕ) → ((l r : ℕ) → l < payloads k → r < payloads k → Fine (f l r)) → Fine (read_dividing k f win lhs rhs)
  unfolding read_dividing
  dividing_fine f lhs rhs g =
      reading_fine rhs (λ r. pick (eqb r 0) (Err DivisionByZero) (reading (read_as k win lhs) (λ l. f l r)))
      (λ r h. either_fine (eqb r 0) _ _ (trap_fine DivisionByZero) (reading_fine lhs (λ l. f l r) (λ l j. g l r j h)))

shortcut_fine : (stop : ℕ) (win : List ℕ) (lhs rhs : ℕ) → Fine (read_shortcut stop win lhs rhs)
unfolding read_shortcut
shortcut_fine stop win lhs rhs =
    reading_fine 2 win lhs (λ l. pick (eqb l stop) (valued 2 l) (reading (read_as 2 win rhs) (valued 2)))
    (λ l h. either_fine (eqb l stop) _ _ (kind_fine 2 l (omega arith) h) (reading_fine 2 win rhs (valued 2) (λ r j. kind_fine 2 r (omega arith) j)))

any_fine : (win : List ℕ) (src : ℕ) → HoldValues win → Fine (read_any win src)
unfolding read_any
any_fine win src h =
    chosen_fine (λ o. o) (leb (length win) src) _ _ (λ e. trap_fine InvalidRegister) (λ e. word_fine (h src (leb-false (length win) src e)))

-- ---- the rows, in the order of the numbers
module _ (i : Instr) (win : List ℕ) (held : HoldValues win) where
  abbrev Row : ℕ → Type 0
  Row op = LoadsValue op i → Fine (computed (rule_of op) i win)

  one_bool : {A : Type 0} (k : ℕ) (f : ℕ → Bool) → A → Fine (read_one k (λ p. bool_result (f p)) win i.b)
  one_bool k f v = one_fine k win (λ p. bool_result (f p)) i.b (λ p h. bool_fine (f p))

  two_any : {A : Type 0} (k : ℕ) (f : ℕ → ℕ → Outcome) → ((l r : ℕ) → l < payloads k → r < payloads k → Fine (f l r)) → A
      → Fine (read_two k f win i.b i.c)
  two_any k f g v = two_fine k win f i.b i.c g

  two_bool : {A : Type 0} (k : ℕ) (f : ℕ → ℕ → Bool) → A → Fine (read_two k (λ l r. bool_result (f l r)) win i.b i.c)
  two_bool k f = two_any k (λ l r. bool_result (f l r)) (λ l r h j. bool_fine (f l r))

  rows_fine : (op : ℕ) → 3 ≤ op → op < 51 → Row op
  unfolding rules rule_of computed
  rows_fine op =
      each Row 3 48 op
      ((λ v. kind_fine 0 0 (omega arith) (omega arith))
      & (λ v. kind_fine 1 i.small (omega arith) (v.quad refl))
      & (λ v. kind_fine 2 i.small (omega arith) (v.bool refl))
      & (λ v. kind_fine 3 i.w (omega arith) v.wide)
      & (λ v. kind_fine 4 i.w (omega arith) v.wide)
      & (λ v. kind_fine 5 i.w (omega arith) v.wide)
      & (λ v. one_fine 1 win _ i.b (λ q h. quad_fine _ (inverse_small q h)))
      & two_any 1 _ (λ l r h j. quad_fine _ (or_lt 2 l r h j))
      & two_any 1 _ (λ l r h j. quad_fine _ (and_lt 2 l r h j))
      & two_any 1 _ (λ l r h j. quad_fine _ (or_lt 2 (inverse_bits l) r (inverse_small l h) j))
      & two_bool 1 _
      & two_bool 1 _
      & one_bool 1 _
      & one_bool 1 _
      & one_bool 1 _
      & one_bool 2 _
      & (λ v. shortcut_fine 0 win i.b i.c)
      & (λ v. shortcut_fine 1 win i.b i.c)
      & two_bool 2 _
      & two_bool 2 _
      & two_any 3 _ (λ l r h j. i32_fine (signed l +ℤ signed r))
      & two_any 3 _ (λ l r h j. i32_fine (signed l -ℤ signed r))
      & two_any 3 _ (λ l r h j. i32_fine (signed l *ℤ signed r))
      & (λ v. dividing_fine 3 win _ i.b i.c (λ l r h j. i32_divided (signed l) (signed r)))
      & two_bool 3 _
      & two_bool 3 _
      & two_bool 3 _
      & two_bool 3 _
      & two_bool 3 _
      & two_any 4 _ (λ l r h j. u32_fine (pos l +ℤ pos r))
      & two_any 4 _ (λ l r h j. u32_fine (pos l -ℤ pos r))
      & two_any 4 _ (λ l r h j. u32_fine (pos l *ℤ pos r))
      & (λ v. dividing_fine 4 win _ i.b i.c (λ l r h j. u32_divided (pos l) (pos r)))
      & two_bool 4 _
      & two_bool 4 _
      & two_bool 4 _
      & two_bool 4 _
      & two_bool 4 _
      & two_any 5 _ (λ l r h j. fx_fine (signed l +ℤ signed r))
      & two_any 5 _ (λ l r h j. fx_fine (signed l -ℤ signed r))
      & two_any 5 _ (λ l r h j. fx_fine (fx_product (signed l) (signed r)))
      & two_any 5 _ (λ l r h j. fx_divided_lem (signed l) (signed r))
      & two_bool 5 _
      & two_bool 5 _
      & two_bool 5 _
      & two_bool 5 _
      & two_bool 5 _
      & (λ v. any_fine win i.b held)
      & tt)

-- whatever an opcode computes from registers that hold values is a value
pub computes_values : (op : ℕ) (i : Instr) (win : List ℕ) → LoadsValue op i → HoldValues win
    → (w : ℕ) → operated op i win ≡ Ok (Some w) → HoldsValue w
computes_values op i win v held = by (dec_lt op 3) (dec_lt op 51)
  where
    nothing_fine : {o : Outcome} → Ok None ≡ o → Fine o
    nothing_fine e w q = absurd (let z : ◌≡◌ {A = ℕ} 0 1 = cc in omega arith)

    by : Dec (op < 3) → Dec (op < 51) → Fine (operated op i win)
    by (yes h) d = nothing_fine (computes_nothing i win op (omega arith) h)
    by (no g) (yes h) = rows_fine i win held op (omega arith) h v
    by (no g) (no h) = nothing_fine (computes_none i win op (omega arith))
