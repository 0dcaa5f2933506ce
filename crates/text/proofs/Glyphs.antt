-- The sixteen digits, looked at one by one. Assumes nothing.
use Prim.Native.Nat.{ℕ, ◌-◌, ◌<◌}
use mathlib.Core.Path.{◌≡◌}
use native.Mathlib.Omega.{arith}
use lib.Dec.{ltb, eqb, eqb→eq}
use Rattle.basis.specs.Choice.{pick}
use Rattle.basis.proofs.Ranges.{passes}
use Rattle.text.specs.Digits.{digit}

-- what a digit stands for
unfoldable pub value : ℕ → ℕ
value b = pick (ltb b 97) (b - 48) (b - 87)

pub value_digit : (d : ℕ) → d < 16 → value (digit d) ≡ d
unfolding value
value_digit d h = eqb→eq _ _ (passes (λ k. eqb (value (digit k)) k) 0 16 d tt (omega arith) (omega arith))
