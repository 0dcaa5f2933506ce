-- One answer only has each of the paper's numbers, so a promise made through them fixes the answer. Assumes nothing.
use Prim.Native.Nat.{ℕ}
use mathlib.Core.Path.{◌≡◌, refl, sym, ap, ◌∙◌}
use mathlib.Core.Bool.{Bool}
use mathlib.Core.List.{List}
use lib.ListN.{get_or, length}
use lib.Dec.{eqb}
use Rattle.std.specs.Prelude.{Result, Ok, Err}
use Rattle.basis.specs.Choice.{pick}
use Rattle.runtime.specs.declared.CoreTrap.{CoreTrap}
use Rattle.runtime.specs.declared.CoreTrap.TheVariants as trap
use Rattle.runtime.specs.Trap.{trap_code}
use Rattle.runtime.specs.declared.ProfileField.{ProfileField}
use Rattle.runtime.specs.declared.ProfileField.TheVariants.{MaxRegisters, MaxFunctions, MaxCallDepth, MaxInstrsPerFunction, MaxFuel}
use Rattle.runtime.specs.declared.CoreProfileError.{CoreProfileError}
use Rattle.runtime.specs.declared.CoreProfileError.TheVariants.{ZeroLimit, UnboundedLimit}
use Rattle.runtime.specs.Profile.{field_number, error_numbers, profile_numbers}
use Rattle.runtime.specs.Fuel.{charge_numbers}

-- a trap by its code
unfoldable pub trap_at : ℕ → CoreTrap
trap_at n =
    let is : ℕ → Bool = λ k. eqb n k in
    pick (is 0) trap.InvalidPc
    (pick (is 1) trap.InvalidRegister
    (pick (is 2) trap.TypeMismatch
    (pick (is 3) trap.DivisionByZero
    (pick (is 4) trap.IntegerOverflow
    (pick (is 5) trap.FuelExceeded
    (pick (is 6) trap.CallDepthExceeded
    (pick (is 7) trap.InvalidFunction
    (pick (is 8) trap.AssertFailed trap.ExplicitTrap))))))))

pub trap_back : (t : CoreTrap) → trap_at (trap_code t) ≡ t
unfolding trap_at
trap_back trap.InvalidPc = refl
trap_back trap.InvalidRegister = refl
trap_back trap.TypeMismatch = refl
trap_back trap.DivisionByZero = refl
trap_back trap.IntegerOverflow = refl
trap_back trap.FuelExceeded = refl
trap_back trap.CallDepthExceeded = refl
trap_back trap.InvalidFunction = refl
trap_back trap.AssertFailed = refl
trap_back trap.ExplicitTrap = refl

pub trap_unique : (t u : CoreTrap) → trap_code t ≡ trap_code u → t ≡ u
trap_unique t u e = sym (trap_back t) ∙ ap trap_at e ∙ trap_back u

-- a field by its number
unfoldable pub field_at : ℕ → ProfileField
field_at n =
    let is : ℕ → Bool = λ k. eqb n k in
    pick (is 1) MaxRegisters
    (pick (is 2) MaxFunctions
    (pick (is 3) MaxCallDepth
    (pick (is 4) MaxInstrsPerFunction MaxFuel)))

field_back : (f : ProfileField) → field_at (field_number f) ≡ f
unfolding field_at
field_back MaxRegisters = refl
field_back MaxFunctions = refl
field_back MaxCallDepth = refl
field_back MaxInstrsPerFunction = refl
field_back MaxFuel = refl

unfoldable pub error_of : List ℕ → CoreProfileError
error_of ns = pick (eqb (get_or ns 0 0) 0) (ZeroLimit (field_at (get_or ns 1 0))) (UnboundedLimit (field_at (get_or ns 1 0)))

pub error_back : (e : CoreProfileError) → error_of (error_numbers e) ≡ e
unfolding error_of
error_back (ZeroLimit f) = ap ZeroLimit (field_back f)
error_back (UnboundedLimit f) = ap UnboundedLimit (field_back f)

check_of : List ℕ → Result Unit CoreProfileError
check_of ns = pick (eqb (length ns) 0) (Ok tt) (Err (error_of ns))

check_back : (a : Result Unit CoreProfileError) → check_of (profile_numbers a) ≡ a
unfolding check_of
check_back (Ok u) = refl
check_back (Err (ZeroLimit f)) = ap Err (error_back (ZeroLimit f))
check_back (Err (UnboundedLimit f)) = ap Err (error_back (UnboundedLimit f))

pub profile_unique : (a b : Result Unit CoreProfileError) → profile_numbers a ≡ profile_numbers b → a ≡ b
profile_unique a b e = sym (check_back a) ∙ ap check_of e ∙ check_back b

charge_of : List ℕ → Result Unit CoreTrap
charge_of ns = pick (eqb (length ns) 0) (Ok tt) (Err (trap_at (get_or ns 0 0)))

charge_back : (a : Result Unit CoreTrap) → charge_of (charge_numbers a) ≡ a
unfolding charge_of
charge_back (Ok u) = refl
charge_back (Err t) = ap Err (trap_back t)

pub charge_unique : (a b : Result Unit CoreTrap) → charge_numbers a ≡ charge_numbers b → a ≡ b
charge_unique a b e = sym (charge_back a) ∙ ap charge_of e ∙ charge_back b
