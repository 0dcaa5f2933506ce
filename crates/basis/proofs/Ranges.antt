-- Numbers of a short range, one by one: how a decision over ranges of numbers is tied to a definition given number by number.
-- Assumes nothing.
use mathlib.Core.Bool.{Bool, true, false, ◌&&◌}
use mathlib.Core.Path.{◌≡◌, subst}
use lib.Dec.{T}
use Prim.Native.Nat.{ℕ, zero, suc, ◌+◌, ◌≤◌, ◌<◌}
use native.Mathlib.Omega.{arith}
use native.Mathlib.Decide.{dec_le}

-- P at lo, at lo + 1, .. : n of them
abbrev pub Each : (ℕ → Type 0) → ℕ → ℕ → Type 0
Each P lo zero = Unit {0}
Each P lo (suc n) = P lo × Each P (suc lo) n

-- the facts of one, side by side
infixr 40 ◌&◌
abbrev pub ◌&◌ : {A B : Type 0} → A → B → A × B
a & b = (a, b)

by_first : (P : ℕ → Type 0) (lo k : ℕ) → Dec (k ≤ lo) → P lo → lo ≤ k → (suc lo ≤ k → P k) → P k
by_first P lo k (yes h) e p f = let s : lo ≡ k = omega arith in subst P s e
by_first P lo k (no h) e p f = f (omega arith)

-- what holds at each of the numbers holds at any one of them
pub each : (P : ℕ → Type 0) (lo n k : ℕ) → Each P lo n → lo ≤ k → k < lo + n → P k
each P lo zero k e p q = absurd (omega arith)
each P lo (suc n) k e p q = by_first P lo k (dec_le k lo) e.0 p (λ h. each P (suc lo) n k e.1 h (omega arith))

-- a test computed at each of the numbers
abbrev pub Passes : (ℕ → Bool) → ℕ → ℕ → Bool
Passes test lo zero = true
Passes test lo (suc n) = test lo && Passes test (suc lo) n

pub both_true : (a b : Bool) → T (a && b) → T a × T b
both_true true b t = (tt, t)
both_true false b t = absurd t

passed : (test : ℕ → Bool) (lo n : ℕ) → T (Passes test lo n) → Each (λ k. T (test k)) lo n
passed test lo zero t = tt
passed test lo (suc n) t =
    let h = both_true (test lo) (Passes test (suc lo) n) t in (h.0, passed test (suc lo) n h.1)

-- one that passes at each passes at any one of them
pub passes : (test : ℕ → Bool) (lo n k : ℕ) → T (Passes test lo n) → lo ≤ k → k < lo + n → T (test k)
passes test lo n k t = each (λ m. T (test m)) lo n k (passed test lo n t)

-- what a match leaves, `c.match.rest`, after arms for lo, lo + 1, .. : n of them
abbrev pub Left : ℕ → ℕ → ℕ → Type 0
Left k lo zero = Unit {0}
Left k lo (suc n) = Left k lo n × (k ≡ lo + n → ⊥)

-- at least lo and none of those: at least lo + n
pub past : (k lo n : ℕ) → Left k lo n → lo ≤ k → lo + n ≤ k
past k lo zero r l = omega arith
past k lo (suc n) r l = let h : lo + n ≤ k = past k lo n r.0 l in let f : k ≡ lo + n → ⊥ = r.1 in omega arith
