-- Quads by their bits: null N 0, false F 1, true T 2, conflict S 3. Join and meet are the bits joined by or and by and; the other
-- rules follow, each over the bits, which is what a register holds.
use Rattle.std.specs.Prelude.{ℕ, Bool, ◌||◌, eqb, Option, Some, None}
use Rattle.basis.specs.Choice.{pick}
use Rattle.quad.specs.declared.QuadState.{QuadState}
use Rattle.quad.specs.declared.QuadState.TheVariants.{N, F, T, S}

abbrev pub quad_bits : QuadState → ℕ
quad_bits N = 0
quad_bits F = 1
quad_bits T = 2
quad_bits S = 3

-- true and false are exchanged, null and conflict stay
abbrev pub inverse_bits : ℕ → ℕ
inverse_bits b = pick (eqb b (quad_bits F)) (quad_bits T) (pick (eqb b (quad_bits T)) (quad_bits F) b)

-- known: true or false, and not both
abbrev pub is_known : ℕ → Bool
is_known b = eqb b (quad_bits F) || eqb b (quad_bits T)

abbrev pub is_conflict : ℕ → Bool
is_conflict b = eqb b (quad_bits S)

abbrev pub is_null : ℕ → Bool
is_null b = eqb b (quad_bits N)

-- and back: the numbers below 4 are states, and no other number is
unfoldable pub state_at : ℕ → Option QuadState
state_at b =
    pick (eqb b (quad_bits N)) (Some N)
    (pick (eqb b (quad_bits F)) (Some F) (pick (eqb b (quad_bits T)) (Some T) (pick (eqb b (quad_bits S)) (Some S) None)))
