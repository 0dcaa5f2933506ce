-- The decimal digits of a number, counted by the power of ten below it. Assumes nothing.
use Prim.Native.Nat.{ℕ, zero, suc, ◌+◌, ◌*◌, ◌/◌, ◌^◌, ◌≤◌, ◌<◌, max}
use mathlib.Core.Path.{◌≡◌, subst}
use native.Mathlib.Nat.{pow-succ', one-le-pow}
use native.Mathlib.Omega.{arith}
use borrow.Author.Tests.{lt-ltb, le-ltb}
use Rattle.text.specs.Digits.{width_within, width_of}

tenth : (n p : ℕ) → n < 10 * p → n / 10 < p
tenth n p h = omega arith

of_tenth : (n p : ℕ) → 10 * p ≤ n → p ≤ n / 10
of_tenth n p h = omega arith

within : (j k n : ℕ) → k ≤ j → (1 ≤ k → 10 ^ k ≤ n) → n < 10 * 10 ^ k → width_within j n ≡ k + 1
unfolding width_within
within zero k n l low high = omega arith
within (suc j) zero n l low high = rw (lt-ltb n 10 high)
within (suc j) (suc k) n l low high =
    let big : 10 * 10 ^ k ≤ n = subst (λ (p : ℕ). p ≤ n) (pow-succ' 10 k) (low (omega arith)) in
    let small : n / 10 < 10 * 10 ^ k = tenth n (10 * 10 ^ k) (subst (λ (p : ℕ). n < 10 * p) (pow-succ' 10 k) high) in
    let some : 1 ≤ 10 ^ k = one-le-pow k 10 (omega arith) in
    let rest = within j k (n / 10) (omega arith) (λ h. of_tenth n (10 ^ k) big) small in
    rw (le-ltb n 10 (omega arith)) (omega arith)

-- a power of ten above one that is no more than the greater of n and 1 is no more than n
below : (n k : ℕ) → 10 ^ k ≤ max n 1 → 1 ≤ k → 10 ^ k ≤ n
below n zero h l = absurd (omega arith)
below n (suc k) h l =
    let some : 1 ≤ 10 ^ k = one-le-pow k 10 (omega arith) in
    let ten : 10 * 10 ^ k ≤ max n 1 = subst (λ (p : ℕ). p ≤ max n 1) (pow-succ' 10 k) h in
    rw (pow-succ' 10 k) (omega arith)

pub width_by_power : (n k : ℕ) → k < 20 → 10 ^ k ≤ max n 1 → max n 1 < 10 * 10 ^ k → width_of n ≡ k + 1
unfolding width_of
width_by_power n k l low high = within 19 k n (omega arith) (below n k low) (omega arith)
