-- Two i32 in 64 bits: what each operation asks of the machine, and what it gives there. Assumes nothing.
use Rattle.std.specs.Prelude.{◌≡◌, ℕ, zero, suc, ◌*◌, ◌/◌, ◌^◌, ◌<◌, ◌≤◌, ℤ, pos, negsuc, ◌*ℤ◌, neg_ℤ}
use native.Mathlib.Omega.{arith}
use native.Mathlib.Nat.{div-le_self, mul-le-mul}
use lib.Signed.{mag, quot_z, shr_z, mag_shr}
use mir.Syntax.{w32, w64}
use mir.Val.{SFits, to_z, of_z}
use mir.Facts.{to_z-of_z}
use Rattle.value.specs.Fixed.{fx_product, fx_quotient}

-- ---- how large a result can be
mag_neg : (n : ℕ) → mag (neg_ℤ (pos n)) ≤ n
mag_neg zero = omega arith
mag_neg (suc n) = omega arith

-- a product of magnitudes
pub below_mul : (a b m n : ℕ) → a ≤ m → b ≤ n → a * b ≤ m * n
below_mul a b m n p q = mul-le-mul p q

mag_mul : (a b : ℤ) (m n : ℕ) → mag a < m → mag b < n → mag (a *ℤ b) ≤ m * n
mag_mul (pos a) (pos b) m n p q = below_mul a b m n (omega arith) (omega arith)
mag_mul (pos a) (negsuc b) m n p q = omega (arith, mag_neg (a * suc b), below_mul a (suc b) m n (omega arith) q)
mag_mul (negsuc a) (pos b) m n p q = omega (arith, mag_neg (suc a * b), below_mul (suc a) b m n p (omega arith))
mag_mul (negsuc a) (negsuc b) m n p q = below_mul (suc a) (suc b) m n p q

mag_quot : (a b : ℤ) → mag (quot_z a b) ≤ suc (mag a)
mag_quot (pos a) (pos b) = omega (arith, div-le_self a b)
mag_quot (pos a) (negsuc b) = omega (arith, mag_neg (a / suc b), div-le_self a (suc b))
mag_quot (negsuc a) (pos b) = omega (arith, mag_neg (suc a / b), div-le_self (suc a) b)
mag_quot (negsuc a) (negsuc b) = omega (arith, div-le_self (suc a) (suc b))

-- ---- what the machine reads back: of 32 bits, of 64, and of 32 widened to 64
abbrev half : ℤ → ℤ
half z = to_z w32 (of_z w32 z)

abbrev full : ℤ → ℤ
full z = to_z w64 (of_z w64 z)

abbrev wide : ℤ → ℤ
wide z = full (half z)

fits_wide : {z : ℤ} → SFits w32 z → SFits w64 z
fits_wide f = record { sfits = omega (arith, f.sfits) }

pub wide_is : {z : ℤ} → SFits w32 z → wide z ≡ z
wide_is f = rw (to_z-of_z f) (to_z-of_z (fits_wide f))

module _ {a b : ℤ} (fa : SFits w32 a) (fb : SFits w32 b) where
  both : (f : ℤ → ℤ → ℤ) → f (wide a) (wide b) ≡ f a b
  both f = rw (wide_is fa, wide_is fb)

  is : (f : ℤ → ℤ → ℤ) → SFits w64 (f a b) → full (f (wide a) (wide b)) ≡ f a b
  is f h = rw (both f) (to_z-of_z h)

  product_fits : SFits w64 (a *ℤ b)
  product_fits = record { sfits = omega (arith, mag_mul a b (2 ^ 31) (2 ^ 31) fa.sfits fb.sfits) }

  pub product_is : full (wide a *ℤ wide b) ≡ a *ℤ b
  product_is = is ◌*ℤ◌ product_fits

  quotient_fits : SFits w64 (quot_z a b)
  quotient_fits = record { sfits = omega (arith, mag_quot a b, fa.sfits) }

  pub quotient_is : full (quot_z (wide a) (wide b)) ≡ quot_z a b
  quotient_is = is quot_z quotient_fits

  -- ---- fixed point: the product rounded down, and the scaled dividend
  pub fx_product_is : full (shr_z (full (wide a *ℤ wide b)) 65536) ≡ fx_product a b
  fx_product_is =
      rw product_is
      (to_z-of_z {w = w64} (record { sfits = omega (arith, mag_mul a b (2 ^ 31) (2 ^ 31) fa.sfits fb.sfits, mag_shr (a *ℤ b) 65536) }))

  scaled_small : mag (a *ℤ pos 65536) ≤ 2 ^ 31 * 65537
  scaled_small = mag_mul a (pos 65536) (2 ^ 31) 65537 fa.sfits (omega arith)

  scaled_is : full (wide a *ℤ pos 65536) ≡ a *ℤ pos 65536
  scaled_is = rw (wide_is fa) (to_z-of_z {w = w64} (record { sfits = omega (arith, scaled_small) }))

  fx_quotient_fits : SFits w64 (quot_z (a *ℤ pos 65536) b)
  fx_quotient_fits = record { sfits = omega (arith, mag_quot (a *ℤ pos 65536) b, scaled_small) }

  pub fx_quotient_is : full (quot_z (full (wide a *ℤ pos 65536)) (wide b)) ≡ fx_quotient a b
  fx_quotient_is = rw (scaled_is, wide_is fb) (to_z-of_z {w = w64} fx_quotient_fits)
