-- The fuel meter: a charge that fits lowers it; one that does not fit is refused and empties it.
use Rattle.std.specs.Prelude.{ℕ, ◌-◌, List, [], ◌∷◌, ltb, Result, Ok, Err}
use Rattle.basis.specs.Choice.{pick}
use Rattle.runtime.specs.declared.CoreTrap.{CoreTrap}
use Rattle.runtime.specs.declared.CoreTrap.TheVariants as trap
use Rattle.runtime.specs.Trap.{trap_code}

-- a charge that is paid answers nothing, and a refused one with a trap
abbrev pub charge_numbers : Result Unit CoreTrap → List ℕ
charge_numbers (Ok u) = []
charge_numbers (Err t) = trap_code t ∷ []

-- the trap of a refused charge is FuelExceeded
unfoldable pub charge_fault : ℕ → ℕ → List ℕ
charge_fault remaining amount = pick (ltb remaining amount) (trap_code trap.FuelExceeded ∷ []) []

-- what a charge leaves
unfoldable pub left : ℕ → ℕ → ℕ
left remaining amount = pick (ltb remaining amount) 0 (remaining - amount)
