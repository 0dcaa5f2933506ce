-- How a run ends.
use Rattle.std.specs.Prelude.{ℕ, ◌+◌}
use Rattle.runtime.specs.declared.CoreTrap.{CoreTrap}
use Rattle.runtime.specs.Trap.{trap_code}
use Rattle.value.specs.declared.word.CoreValue.{CoreValue}
use Rattle.value.specs.declared.word.CoreValue.TheVariants.{Unit}
use Rattle.value.specs.declared.result.CoreStatus.{CoreStatus}
use Rattle.value.specs.declared.result.CoreStatus.TheVariants.{Returned, Trapped}
use Rattle.value.specs.declared.result.CoreResult.{CoreResult}

-- the status as a number: 0, or one more than the trap's code
abbrev pub status_word : CoreStatus → ℕ
status_word Returned = 0
status_word (Trapped t) = 1 + trap_code t

abbrev pub returned_with : CoreValue → ℕ → CoreResult
returned_with v fuel = record { status = Returned; return_value = v; fuel_used = fuel }

-- a trap is a result too; its value is Unit
abbrev pub trapped_with : CoreTrap → ℕ → CoreResult
trapped_with t fuel = record { status = Trapped t; return_value = Unit; fuel_used = fuel }
