-- Numbers of 32 bits. Results are numbers of ℤ; one that the type cannot hold traps IntegerOverflow.
use Rattle.std.specs.Prelude.{ℕ, suc, ◌-◌, ◌^◌, Bool, false, ◌&&◌, ℤ, pos, negsuc, neg_ℤ, ◌==◌, int_div, int_le, nat_lt, Result, Ok, Err}
use Rattle.basis.specs.Choice.{pick}
use Rattle.runtime.specs.declared.CoreTrap.{CoreTrap}
use Rattle.runtime.specs.declared.CoreTrap.TheVariants.{DivisionByZero, IntegerOverflow}

-- ---- two's complement at 32 bits: the number of a payload, and the payload of a number
abbrev pub signed : ℕ → ℤ
signed p = pick (nat_lt p (2 ^ 31)) (pos p) (negsuc (2 ^ 32 - suc p))

abbrev pub payload : ℤ → ℕ
payload (pos n) = n
payload (negsuc n) = 2 ^ 32 - suc n

-- ---- what the types hold
abbrev pub between : ℤ → ℤ → ℤ → Bool
between low high z = int_le low z && int_le z high

abbrev pub checked_i32 : ℤ → Result ℤ CoreTrap
checked_i32 z = pick (between (neg_ℤ (pos (2 ^ 31))) (pos (2 ^ 31 - 1)) z) (Ok z) (Err IntegerOverflow)

abbrev pub natural : ℤ → ℕ
natural (pos n) = n
natural (negsuc n) = 0

abbrev pub checked_u32 : ℤ → Result ℕ CoreTrap
checked_u32 z = pick (between (pos 0) (pos (2 ^ 32 - 1)) z) (Ok (natural z)) (Err IntegerOverflow)

-- ---- division: by zero traps before anything else, and the quotient is rounded toward zero
abbrev pub is_zero : ℤ → Bool
is_zero (pos n) = n == 0
is_zero (negsuc n) = false

abbrev pub divided : {N : Type 0} → (ℤ → Result N CoreTrap) → (ℤ → ℤ → ℤ) → ℤ → ℤ → Result N CoreTrap
divided checked quotient a b = pick (is_zero b) (Err DivisionByZero) (checked (quotient a b))

abbrev pub divided_i32 : ℤ → ℤ → Result ℤ CoreTrap
divided_i32 a b = divided checked_i32 int_div a b

abbrev pub divided_u32 : ℤ → ℤ → Result ℕ CoreTrap
divided_u32 a b = divided checked_u32 int_div a b
