use Prim.Native.Nat.{◌≤◌}
use mathlib.Core.Path.{◌≡◌}
use mathlib.Core.List.{[]}
use Rattle.basis.specs.Answers.{first_of}
use Rattle.image.specs.Image.{row_fault}
use Rattle.image.specs.Records.{start_of}
use Rattle.image.proofs.table_fault.Given as goal

abbrev pub invariant-loop-k : goal.invariant-loop-k
invariant-loop-k l = (l.k ≤ l.n) × (l.start ≡ start_of l.image l.k) × (first_of (row_fault l.image) l.k ≡ [])
