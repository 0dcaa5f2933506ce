-- What numbers that are not decided one by one ask for. Assumes nothing.
use Rattle.std.specs.Prelude.{Result, Ok}
use Prim.Native.Nat.{ℕ, ◌≤◌, ◌<◌}
use mathlib.Core.Path.{◌≡◌, ap}
use mathlib.Core.List.{List}
use native.Mathlib.Omega.{arith}
use borrow.Author.Tests.{lt-ltb, le-ltb, ne_eqb}
use Rattle.runtime.specs.declared.CoreTrap.{CoreTrap}
use Rattle.instr.specs.declared.Instr.{Instr}
use Rattle.operate.specs.Rule.{Outcome}
use Rattle.operate.specs.Operate.{operated}
use Rattle.straight.specs.declared.Deed.{Deed}
use Rattle.straight.specs.declared.Deed.TheVariants.{Leave}
use Rattle.straight.specs.Flow.{Flow, flow_of}
use Rattle.straight.specs.Flow.Flow.{leaves}
use Rattle.straight.specs.Straight.{storing, asked, asks}

-- no number above the jumps stays in its frame
pub leaves_flow : (op : ℕ) → 54 ≤ op → leaves ≡ flow_of op
unfolding flow_of
leaves_flow op h =
    rw (
      ne_eqb op 0 (λ e. omega arith),
      ne_eqb op 1 (λ e. omega arith),
      ne_eqb op 2 (λ e. omega arith),
      le-ltb op 51 (omega arith),
      ne_eqb op 51 (λ e. omega arith),
      ne_eqb op 52 (λ e. omega arith),
      ne_eqb op 53 (λ e. omega arith),
    )

module _ (op : ℕ) (i : Instr) (win : List ℕ) where
  pub computing : (op ≡ 0 → ⊥) → (op ≡ 1 → ⊥) → (op ≡ 2 → ⊥) → op < 51 → storing (operated op i win) ≡ asks op i win
  unfolding flow_of asked
  computing n0 n1 n2 h = rw (ne_eqb op 0 n0, ne_eqb op 1 n1, ne_eqb op 2 n2, lt-ltb op 51 h)

  pub stores : (x : Outcome) (d : Result Deed CoreTrap) → (op ≡ 0 → ⊥) → (op ≡ 1 → ⊥) → (op ≡ 2 → ⊥) → op < 51 → x ≡ operated op i win → d ≡ storing x → d ≡ asks op i win
  stores x d n0 n1 n2 h e f = rw (f, e) (computing n0 n1 n2 h)

  pub leaving : 54 ≤ op → Ok Leave ≡ asks op i win
  unfolding asked
  leaving h = ap (λ (f : Flow). asked f op i win) (leaves_flow op h)
