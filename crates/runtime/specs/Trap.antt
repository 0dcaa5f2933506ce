-- The numbers of the traps, as answers and the digest carry them.
use Rattle.std.specs.Prelude.{ℕ}
use Rattle.runtime.specs.declared.CoreTrap.{CoreTrap}
use Rattle.runtime.specs.declared.CoreTrap.TheVariants.{InvalidPc, InvalidRegister, TypeMismatch, DivisionByZero, IntegerOverflow, FuelExceeded, CallDepthExceeded, InvalidFunction, AssertFailed, ExplicitTrap}

abbrev pub trap_code : CoreTrap → ℕ
trap_code InvalidPc = 0
trap_code InvalidRegister = 1
trap_code TypeMismatch = 2
trap_code DivisionByZero = 3
trap_code IntegerOverflow = 4
trap_code FuelExceeded = 5
trap_code CallDepthExceeded = 6
trap_code InvalidFunction = 7
trap_code AssertFailed = 8
trap_code ExplicitTrap = 9
