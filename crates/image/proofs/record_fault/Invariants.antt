use Prim.Native.Nat.{ℕ, ◌+◌, ◌*◌, ◌≤◌}
use mathlib.Core.Path.{◌≡◌}
use mathlib.Core.List.{[]}
use Rattle.basis.specs.Answers.{first_of}
use Rattle.image.specs.Records.{form1_instr}
use Rattle.image.specs.Image.{record_fault}
use Rattle.image.proofs.record_fault.Given as goal

abbrev pub invariant-loop-k : goal.invariant-loop-k
invariant-loop-k l = (l.k ≤ l.k-end) × (first_of (record_fault (λ (j : ℕ). form1_instr l.image (l.base + 12 * j))) l.k ≡ [])
