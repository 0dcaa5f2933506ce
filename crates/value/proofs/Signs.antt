-- Two's complement: a payload's number and a number's payload, there and back, and the machine's test for zero. Assumes nothing.
use Rattle.std.specs.Prelude.{◌≡◌, ℕ, suc, ◌-◌, ◌^◌, ◌<◌, false, ℤ, pos, negsuc}
use mathlib.Core.Path.{refl, ap}
use native.Mathlib.Omega.{arith}
use native.Mathlib.Decide.{dec_lt}
use lib.Signed.{mag}
use mir.Syntax.{w32}
use mir.Val.{SFits, to_z, of_z}
use mir.Facts.{to_z-of_z}
use borrow.Author.Tests.{lt-ltb, le-ltb, ne_eqb}
use Rattle.value.specs.Checked.{signed, payload, is_zero}

pub signed_fits : (p : ℕ) → p < 2 ^ 32 → SFits w32 (signed p)
signed_fits p h = record { sfits = by (dec_lt p (2 ^ 31)) }
  where
    by : Dec (p < 2 ^ 31) → mag (signed p) < 2 ^ 31
    by (yes l) = rw (lt-ltb p (2 ^ 31) l) l
    by (no l) = rw (le-ltb p (2 ^ 31) (omega arith)) (omega arith)

-- there and back
pub signed_payload : (z : ℤ) → mag z < 2 ^ 31 → signed (payload z) ≡ z
signed_payload (pos n) l = rw (lt-ltb n (2 ^ 31) l)
signed_payload (negsuc n) l =
    rw (le-ltb (4294967296 - suc n) (2 ^ 31) (omega arith)) (ap negsuc (let q : 4294967296 - suc (4294967296 - suc n) ≡ n = omega arith in q))

pub payload_signed : (p : ℕ) → p < 2 ^ 32 → payload (signed p) ≡ p
payload_signed p h = by (dec_lt p (2 ^ 31))
  where
    by : Dec (p < 2 ^ 31) → payload (signed p) ≡ p
    by (yes l) = rw (lt-ltb p (2 ^ 31) l)
    by (no l) = rw (le-ltb p (2 ^ 31) (omega arith)) (let q : 4294967296 - suc (4294967296 - suc p) ≡ p = omega arith in q)

pub payload_small : (z : ℤ) → mag z < 2 ^ 31 → payload z < 2 ^ 32
payload_small (pos n) l = omega arith
payload_small (negsuc n) l = omega arith

-- the test for zero, which the machine makes on the bits
pub zero_no : (z : ℤ) → (of_z w32 z ≡ 0 → ⊥) → is_zero z ≡ false
zero_no (pos n) f = ne_eqb n 0 f
zero_no (negsuc n) f = refl

-- what the machine reads back of a payload's number
pub read_back : (p : ℕ) {z : ℤ} → p < 2 ^ 32 → z ≡ signed p → to_z w32 (of_z w32 z) ≡ signed p
read_back p h e = rw e (to_z-of_z (signed_fits p h))

-- an i32 that was stored and is read again is the same
pub reads : {A : Type 0} (f : ℤ → A) (z : ℤ) → mag z < 2 ^ 31 → f (to_z w32 (of_z w32 z)) ≡ f z
reads f z h = ap f (to_z-of_z {w = w32} (record { sfits = h }))
