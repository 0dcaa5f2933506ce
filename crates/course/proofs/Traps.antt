-- Which traps an instruction can have inside its frame, by the forms of instructions and the shapes of rules. Assumes nothing.
use Prim.Native.Nat.{ℕ, ◌-◌, ◌%◌, ◌^◌, ◌≤◌, ◌<◌}
use mathlib.Core.Path.{◌≡◌, refl, subst}
use mathlib.Core.Bool.{Bool, true, false}
use mathlib.Core.List.{List}
use native.Mathlib.Omega.{arith}
use native.Mathlib.Decide.{dec_lt}
use lib.Dec.{ltb, leb, eqb}
use lib.IntN.{ℤ, pos, neg_ℤ, ◌+ℤ◌, ◌-ℤ◌, ◌*ℤ◌}
use lib.ListN.{length, get_or, set}
use lib.Signed.{quot_z}
use borrow.Author.Tests.{leb-true, ltb-false}
use Rattle.basis.specs.Choice.{pick}
use Rattle.basis.proofs.Ranges.{◌&◌, each}
use Rattle.runtime.specs.declared.CoreTrap.{CoreTrap}
use Rattle.runtime.specs.declared.CoreTrap.TheVariants.{InvalidPc, InvalidRegister, TypeMismatch, DivisionByZero, IntegerOverflow, FuelExceeded, CallDepthExceeded, InvalidFunction, AssertFailed, ExplicitTrap}
use Rattle.value.specs.Checked.{signed, between, natural, is_zero, checked_i32, checked_u32}
use Rattle.value.specs.Fixed.{fx_of, fx_product, fx_quotient}
use Rattle.value.specs.Value.{bool_kind}
use Rattle.instr.specs.declared.Instr.{Instr}
use Rattle.image.specs.Fields.{Fields, forms, fields_of}
use Rattle.image.specs.Fields.Use.{register, target}
use Rattle.operate.specs.Rule.{Rule, valued, bool_result, i32_result, u32_result, fx_result}
use Rattle.operate.specs.Rule.Rule.{nothing, loads, one, two, dividing, shortcut, moves}
use Rattle.operate.specs.Opcodes.{rules, rule_of}
use Rattle.operate.specs.Operate.{is_of, read_as, reading, read_one, read_two, read_dividing, read_shortcut, read_any, computed, operated}
use Rattle.operate.proofs.Rows.{no_row}
use Rattle.straight.specs.Flow.{Flow, flow_of}
use Rattle.straight.specs.Flow.Flow.{computes, goes_on, ends, asserts, jumps, jumps_if, leaves}
use Rattle.straight.specs.declared.Deed.{Deed}
use Rattle.straight.specs.declared.Deed.TheVariants as deed
use Rattle.straight.specs.declared.Went.{Went}
use Rattle.straight.specs.declared.Went.TheVariants.{On, To, Leaves}
use Rattle.straight.proofs.Flows.{leaves_flow}
use Rattle.straight.specs.Straight.{storing, tested, on_condition, asked, local, stored, done, straight}
use Rattle.std.specs.Prelude.{Result, Ok, Err, Option, Some, None}

-- a trap that an instruction has of itself: none that belongs to the run or to a Call, and InvalidRegister only where R
abbrev pub Own : Type 0 → CoreTrap → Type 0
Own R InvalidPc = ⊥
Own R InvalidRegister = R
Own R TypeMismatch = Unit {0}
Own R DivisionByZero = Unit {0}
Own R IntegerOverflow = Unit {0}
Own R FuelExceeded = ⊥
Own R CallDepthExceeded = ⊥
Own R InvalidFunction = ⊥
Own R AssertFailed = Unit {0}
Own R ExplicitTrap = Unit {0}

weaker : (R : Type 0) (t : CoreTrap) → Own ⊥ t → Own R t
weaker R InvalidPc h = h
weaker R InvalidRegister h = absurd h
weaker R TypeMismatch h = tt
weaker R DivisionByZero h = tt
weaker R IntegerOverflow h = tt
weaker R FuelExceeded h = h
weaker R CallDepthExceeded h = h
weaker R InvalidFunction h = h
weaker R AssertFailed h = tt
weaker R ExplicitTrap h = tt

abbrev OwnOutcome : Type 0 → Result (Option ℕ) CoreTrap → Type 0
OwnOutcome R (Ok (Some v)) = Unit {0}
OwnOutcome R (Err t) = Own R t
OwnOutcome R (Ok None) = Unit {0}

-- ---- what rules compute from payloads
abbrev Tame : Rule → Type 0
Tame nothing = Unit {0}
Tame (loads kind f) = Unit {0}
Tame (one kind f) = (x : ℕ) → OwnOutcome ⊥ (f x)
Tame (two kind f) = (l r : ℕ) → OwnOutcome ⊥ (f l r)
Tame (dividing kind f) = (l r : ℕ) → OwnOutcome ⊥ (f l r)
Tame (shortcut stop) = Unit {0}
Tame moves = Unit {0}

i32_either : (b : Bool) (x y : Result ℤ CoreTrap) → OwnOutcome ⊥ (i32_result x) → OwnOutcome ⊥ (i32_result y) → OwnOutcome ⊥ (i32_result (pick b x y))
i32_either true x y h k = h
i32_either false x y h k = k

u32_either : (b : Bool) (x y : Result ℕ CoreTrap) → OwnOutcome ⊥ (u32_result x) → OwnOutcome ⊥ (u32_result y) → OwnOutcome ⊥ (u32_result (pick b x y))
u32_either true x y h k = h
u32_either false x y h k = k

fx_either : (b : Bool) (x y : Result ℤ CoreTrap) → OwnOutcome ⊥ (fx_result (fx_of x)) → OwnOutcome ⊥ (fx_result (fx_of y)) → OwnOutcome ⊥ (fx_result (fx_of (pick b x y)))
fx_either true x y h k = h
fx_either false x y h k = k

i32_tame : (z : ℤ) → OwnOutcome ⊥ (i32_result (checked_i32 z))
i32_tame z = i32_either (between (neg_ℤ (pos (2 ^ 31))) (pos (2 ^ 31 - 1)) z) (Ok z) (Err IntegerOverflow) tt tt

u32_tame : (z : ℤ) → OwnOutcome ⊥ (u32_result (checked_u32 z))
u32_tame z = u32_either (between (pos 0) (pos (2 ^ 32 - 1)) z) (Ok (natural z)) (Err IntegerOverflow) tt tt

fx_tame : (z : ℤ) → OwnOutcome ⊥ (fx_result (fx_of (checked_i32 z)))
fx_tame z = fx_either (between (neg_ℤ (pos (2 ^ 31))) (pos (2 ^ 31 - 1)) z) (Ok z) (Err IntegerOverflow) tt tt

tame_rows : (op : ℕ) → op < 51 → Tame (rule_of op)
unfolding rules rule_of bool_result
tame_rows op h =
    each (λ k. Tame (rule_of k)) 0 51 op
    (tt & tt & tt
    & tt & tt & tt & tt & tt & tt
    & (λ q. tt) & any & any & any & any & any & (λ q. tt) & (λ q. tt) & (λ q. tt)
    & (λ q. tt) & tt & tt & any & any
    & (λ l r. i32_tame (signed l +ℤ signed r)) & (λ l r. i32_tame (signed l -ℤ signed r)) & (λ l r. i32_tame (signed l *ℤ signed r))
    & (λ l r. i32_either (is_zero (signed r)) (Err DivisionByZero) _ tt (i32_tame (quot_z (signed l) (signed r))))
    & any & any & any & any & any
    & (λ l r. u32_tame (pos l +ℤ pos r)) & (λ l r. u32_tame (pos l -ℤ pos r)) & (λ l r. u32_tame (pos l *ℤ pos r))
    & (λ l r. u32_either (is_zero (pos r)) (Err DivisionByZero) _ tt (u32_tame (quot_z (pos l) (pos r))))
    & any & any & any & any & any
    & (λ l r. fx_tame (signed l +ℤ signed r)) & (λ l r. fx_tame (signed l -ℤ signed r)) & (λ l r. fx_tame (fx_product (signed l) (signed r)))
    & (λ l r. fx_either (is_zero (signed r)) (Err DivisionByZero) _ tt (fx_tame (fx_quotient (signed l) (signed r))))
    & any & any & any & any & any
    & tt
    & tt) (omega arith) h
  where
    any : ℕ → ℕ → Unit {0}
    any l r = tt

tame : (op : ℕ) → Tame (rule_of op)
tame op = go (dec_lt op 51)
  where
    go : Dec (op < 51) → Tame (rule_of op)
    go (yes h) = tame_rows op h
    go (no h) = subst Tame (no_row op (omega arith)) tt

-- ---- the registers that a form names are those that its rule reads, and those that it stores to
abbrev Reads : Rule → Fields → Type 0
Reads nothing f = Unit {0}
Reads (loads kind g) f = Unit {0}
Reads (one kind g) f = f.b ≡ register
Reads (two kind g) f = (f.b ≡ register) × (f.c ≡ register)
Reads (dividing kind g) f = (f.b ≡ register) × (f.c ≡ register)
Reads (shortcut stop) f = (f.b ≡ register) × (f.c ≡ register)
Reads moves f = f.b ≡ register

abbrev Fits : Flow → ℕ → Rule → Fields → Type 0
Fits computes op r f = (f.a ≡ register) × Reads r f
Fits goes_on op r f = Unit {0}
Fits (ends t) op r f = Own ⊥ t
Fits asserts op r f = f.a ≡ register
Fits jumps op r f = f.w ≡ target
Fits (jumps_if b) op r f = (f.a ≡ register) × (f.w ≡ target)
Fits leaves op r f = 54 ≤ op

abbrev FitsAt : ℕ → Type 0
FitsAt op = Fits (flow_of op) op (rule_of op) (fields_of op)

fits_rows : (op : ℕ) → op < 54 → FitsAt op
unfolding rules rule_of flow_of forms fields_of
fits_rows op h =
    each FitsAt 0 54 op
    (tt & tt & refl
    & load & load & load & load & load & load
    & src & both & both & both & both & both & src & src & src
    & src & both & both & both & both
    & both & both & both & both & both & both & both & both & both
    & both & both & both & both & both & both & both & both & both
    & both & both & both & both & both & both & both & both & both
    & src
    & refl & (refl, refl) & (refl, refl)
    & tt) (omega arith) h
  where
    load : (register ≡ register) × Unit {0}
    load = (refl, tt)

    src : (register ≡ register) × (register ≡ register)
    src = (refl, refl)

    both : (register ≡ register) × ((register ≡ register) × (register ≡ register))
    both = (refl, (refl, refl))

fits : (op : ℕ) → FitsAt op
fits op = go (dec_lt op 54)
  where
    go : Dec (op < 54) → FitsAt op
    go (yes h) = fits_rows op h
    go (no h) = let l : 54 ≤ op = omega arith in subst (λ (f : Flow). Fits f op (rule_of op) (fields_of op)) (leaves_flow op l) l

-- ---- one instruction
-- a register that the instruction names and that is not there is a case of R
pub record Misses (R : Type 0) (i : Instr) (n : ℕ) : Type 0 where
  pub a : (fields_of i.op).a ≡ register → n ≤ i.a → R
  pub b : (fields_of i.op).b ≡ register → n ≤ i.b → R
  pub c : (fields_of i.op).c ≡ register → n ≤ i.c → R

-- how the frame goes on: to a target that the form has, or with a trap of its own, or it is left by Call, Ret or what is no opcode
abbrev pub OwnWay : Type 0 → Instr → Result Went CoreTrap → Type 0
OwnWay R i (Ok On) = Unit {0}
OwnWay R i (Ok (To n)) = ((fields_of i.op).w ≡ target) × (n ≡ i.w)
OwnWay R i (Err t) = Own R t
OwnWay R i (Ok Leaves) = 54 ≤ i.op

module _ (R : Type 0) (w : List ℕ) where
  abbrev OwnRead : Result ℕ CoreTrap → Type 0
  OwnRead (Ok x) = Unit {0}
  OwnRead (Err t) = Own R t

  read_own : (kind r : ℕ) → (length w ≤ r → R) → OwnRead (read_as kind w r)
  unfolding read_as
  read_own kind r h = go (leb (length w) r) refl (is_of kind (get_or w r 0))
    where
      go : (b : Bool) → leb (length w) r ≡ b → (c : Bool) → OwnRead (pick b (Err InvalidRegister) (pick c (Ok (get_or w r 0 % 2 ^ 32)) (Err TypeMismatch)))
      go true e c = h (leb-true _ _ e)
      go false e true = tt
      go false e false = tt

  reading_own : (x : Result ℕ CoreTrap) (f : ℕ → Result (Option ℕ) CoreTrap) → OwnRead x → ((v : ℕ) → OwnOutcome R (f v)) → OwnOutcome R (reading x f)
  reading_own (Ok v) f h k = k v
  reading_own (Err t) f h k = h

  either_own : (b : Bool) (x y : Result (Option ℕ) CoreTrap) → OwnOutcome R x → OwnOutcome R y → OwnOutcome R (pick b x y)
  either_own true x y h k = h
  either_own false x y h k = k

  tame_own : (o : Result (Option ℕ) CoreTrap) → OwnOutcome ⊥ o → OwnOutcome R o
  tame_own (Ok (Some v)) h = tt
  tame_own (Err t) h = weaker R t h
  tame_own (Ok None) h = tt

  module _ (i : Instr) (m : Misses R i (length w)) where
    computed_own : (r : Rule) → Tame r → Reads r (fields_of i.op) → OwnOutcome R (computed r i w)
    unfolding computed read_one read_two read_dividing read_shortcut read_any
    computed_own nothing t q = tt
    computed_own (loads kind f) t q = tt
    computed_own (one kind f) t q = reading_own (read_as kind w i.b) f (read_own kind i.b (m.b q)) (λ x. tame_own (f x) (t x))
    computed_own (two kind f) t q =
        reading_own (read_as kind w i.b) _ (read_own kind i.b (m.b q.0))
        (λ l. reading_own (read_as kind w i.c) _ (read_own kind i.c (m.c q.1)) (λ r. tame_own (f l r) (t l r)))
    computed_own (dividing kind f) t q =
        reading_own (read_as kind w i.c) _ (read_own kind i.c (m.c q.1))
        (λ r. either_own (eqb r 0) (Err DivisionByZero) _ tt
        (reading_own (read_as kind w i.b) _ (read_own kind i.b (m.b q.0)) (λ l. tame_own (f l r) (t l r))))
    computed_own (shortcut stop) t q =
        reading_own (read_as bool_kind w i.b) _ (read_own bool_kind i.b (m.b q.0))
        (λ l. either_own (eqb l stop) (valued bool_kind l) _ tt
        (reading_own (read_as bool_kind w i.c) _ (read_own bool_kind i.c (m.c q.1)) (λ r. tt)))
    computed_own moves t q = go (leb (length w) i.b) refl
      where
        go : (b : Bool) → leb (length w) i.b ≡ b → OwnOutcome R (pick b (Err InvalidRegister) (Ok (Some (get_or w i.b 0))))
        go true e = m.b q (leb-true _ _ e)
        go false e = tt

    -- what is asked for: a value is stored only by a form that names a dst
    abbrev OwnDeed : Result Deed CoreTrap → Type 0
    OwnDeed (Ok (deed.Put v)) = (fields_of i.op).a ≡ register
    OwnDeed (Ok deed.Next) = Unit {0}
    OwnDeed (Ok (deed.Jump n)) = ((fields_of i.op).w ≡ target) × (n ≡ i.w)
    OwnDeed (Err t) = Own R t
    OwnDeed (Ok deed.Leave) = 54 ≤ i.op

    storing_own : (o : Result (Option ℕ) CoreTrap) → OwnOutcome R o → (fields_of i.op).a ≡ register → OwnDeed (storing o)
    unfolding storing
    storing_own (Ok (Some v)) h e = e
    storing_own (Err t) h e = h
    storing_own (Ok None) h e = tt

    tested_own : (x : Result ℕ CoreTrap) (f : ℕ → Result Deed CoreTrap) → OwnRead x → ((b : ℕ) → OwnDeed (f b)) → OwnDeed (tested x f)
    tested_own (Ok b) f h k = k b
    tested_own (Err t) f h k = h

    either_deed : (b : Bool) (x y : Result Deed CoreTrap) → OwnDeed x → OwnDeed y → OwnDeed (pick b x y)
    either_deed true x y h k = h
    either_deed false x y h k = k

    asked_own : (f : Flow) → Fits f i.op (rule_of i.op) (fields_of i.op) → OwnDeed (asked f i.op i w)
    unfolding asked on_condition
    asked_own computes q = storing_own (operated i.op i w) (computed_own (rule_of i.op) (tame i.op) q.1) q.0
    asked_own goes_on q = tt
    asked_own (ends t) q = weaker R t q
    asked_own asserts q =
        tested_own (read_as bool_kind w i.a) _ (read_own bool_kind i.a (m.a q)) (λ b. either_deed (eqb b 0) (Err AssertFailed) (Ok deed.Next) tt tt)
    asked_own jumps q = (q, refl)
    asked_own (jumps_if truth) q =
        tested_own (read_as bool_kind w i.a) _ (read_own bool_kind i.a (m.a q.0))
        (λ b. either_deed (eqb b truth) (Ok (deed.Jump i.w)) (Ok deed.Next) (q.1, refl) tt)
    asked_own leaves q = q

    done_own : (d : Result Deed CoreTrap) → OwnDeed d → OwnWay R i (done d i.a w).went
    unfolding done stored
    done_own (Ok (deed.Put v)) h = go (ltb i.a (length w)) refl
      where
        go : (b : Bool) → ltb i.a (length w) ≡ b → OwnWay R i (pick b (local (Ok On) (set w i.a v)) (local (Err InvalidRegister) w)).went
        go true e = tt
        go false e = m.a h (ltb-false _ _ e)
    done_own (Ok deed.Next) h = tt
    done_own (Ok (deed.Jump n)) h = h
    done_own (Err t) h = h
    done_own (Ok deed.Leave) h = h

    pub straight_own : OwnWay R i (straight i w).went
    unfolding straight
    straight_own = done_own (asked (flow_of i.op) i.op i w) (asked_own (flow_of i.op) (fits i.op))
