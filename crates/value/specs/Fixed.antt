-- Fixed-point numbers, by their raw units of 1/65,536.
use Rattle.std.specs.Prelude.{ℕ, ℤ, pos, ◌*ℤ◌, int_div, int_lt, Result, Ok, Err}
use Rattle.std.specs.declared.cmp.Ordering.{Ordering}
use Rattle.std.specs.declared.cmp.Ordering.TheVariants.{Less, Equal, Greater}
use Rattle.std.specs.Int.Signed.{shr_z}
use Rattle.basis.specs.Choice.{pick}
use Rattle.runtime.specs.declared.CoreTrap.{CoreTrap}
use Rattle.value.specs.Checked.{checked_i32, divided}
use Rattle.value.specs.declared.fx.Fx.{Fx}

-- units in one
abbrev pub scale : ℕ
scale = 65536

-- a product has its units squared: it is brought back by rounding down
abbrev pub fx_product : ℤ → ℤ → ℤ
fx_product a b = shr_z (a *ℤ b) scale

-- a quotient loses its units: the dividend is scaled first, and the result rounded toward zero
abbrev pub fx_quotient : ℤ → ℤ → ℤ
fx_quotient a b = int_div (a *ℤ pos scale) b

abbrev pub fx_divided : ℤ → ℤ → Result ℤ CoreTrap
fx_divided a b = divided checked_i32 fx_quotient a b

-- raw units that fit are a fixed-point number
abbrev pub fx_of : Result ℤ CoreTrap → Result Fx CoreTrap
fx_of (Ok raw) = Ok (record { 0 = raw })
fx_of (Err t) = Err t

abbrev pub checked_fx : ℤ → Result Fx CoreTrap
checked_fx z = fx_of (checked_i32 z)

abbrev pub ordered : ℤ → ℤ → Ordering
ordered a b = pick (int_lt a b) Less (pick (int_lt b a) Greater Equal)
