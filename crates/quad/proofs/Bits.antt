-- A quad and its bits: two bits each, there and back. Assumes nothing.
use Prim.Native.Nat.{ℕ, ◌≤◌, ◌<◌}
use mathlib.Core.Path.{◌≡◌, refl, sym, ap, ◌∙◌}
use native.Mathlib.Omega.{arith}
use native.Mathlib.Decide.{ℕ_discrete}
use borrow.Author.Tests.{eq-eqb, ne_eqb}
use Rattle.quad.specs.declared.QuadState.{QuadState}
use Rattle.quad.specs.declared.QuadState.TheVariants.{N, F, T, S}
use Rattle.std.specs.Prelude.{Some, None}
use Rattle.quad.specs.Quad.{quad_bits, state_at}

pub quad_small : (q : QuadState) → quad_bits q < 4
quad_small N = omega arith
quad_small F = omega arith
quad_small T = omega arith
quad_small S = omega arith

-- a state's bits are read as that state
pub state_found : (q : QuadState) → state_at (quad_bits q) ≡ Some q
unfolding state_at
state_found N = refl
state_found F = refl
state_found T = refl
state_found S = refl

-- what is read as a state has that state's bits
pub state_bits : (b : ℕ) (q : QuadState) → state_at b ≡ Some q → quad_bits q ≡ b
unfolding state_at
state_bits b q e = by (ℕ_discrete b 0) (ℕ_discrete b 1) (ℕ_discrete b 2) (ℕ_discrete b 3)
  where
    same : (p : QuadState) → Some p ≡ Some q → quad_bits p ≡ b → quad_bits q ≡ b
    same p s h = let t : q ≡ p = cc in rw t h

    by : Dec (b ≡ 0) → Dec (b ≡ 1) → Dec (b ≡ 2) → Dec (b ≡ 3) → quad_bits q ≡ b
    by (yes h) x y z = same N (rw (eq-eqb b 0 h) at e) (sym h)
    by (no f) (yes h) y z = same F (rw (ne_eqb b 0 f, eq-eqb b 1 h) at e) (sym h)
    by (no f) (no g) (yes h) z = same T (rw (ne_eqb b 0 f, ne_eqb b 1 g, eq-eqb b 2 h) at e) (sym h)
    by (no f) (no g) (no k) (yes h) = same S (rw (ne_eqb b 0 f, ne_eqb b 1 g, ne_eqb b 2 k, eq-eqb b 3 h) at e) (sym h)
    by (no f) (no g) (no k) (no j) =
        let s : None ≡ Some q = rw (ne_eqb b 0 f, ne_eqb b 1 g, ne_eqb b 2 k, ne_eqb b 3 j) at e in
        let z : ◌≡◌ {A = ℕ} 0 1 = cc in
        absurd (omega arith)

-- every number from 4 on is no state
pub no_state : (b : ℕ) → 4 ≤ b → state_at b ≡ None
unfolding state_at
no_state b h =
    rw (ne_eqb b 0 (λ e. omega arith), ne_eqb b 1 (λ e. omega arith), ne_eqb b 2 (λ e. omega arith), ne_eqb b 3 (λ e. omega arith))

-- one state only has each number of bits, so a promise about a state's bits fixes the state
pub quad_unique : (a b : QuadState) → quad_bits a ≡ quad_bits b → a ≡ b
quad_unique a b e = let s : Some a ≡ Some b = sym (state_found a) ∙ ap state_at e ∙ state_found b in cc
