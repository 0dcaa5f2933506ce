use Prim.Native.Nat.{◌≤◌}
use mathlib.Core.Path.{◌≡◌}
use mathlib.Core.List.{[]}
use Rattle.basis.specs.Answers.{first_of}
use Rattle.image.specs.Records.{form1}
use Rattle.image.specs.Program.{decode}
use Rattle.admission.specs.Verdict.{function_fault}
use Rattle.admission.proofs.function.check_all.Given as goal

abbrev pub invariant-loop-k : goal.invariant-loop-k
invariant-loop-k l = (l.k ≤ l.k-end) × (first_of (function_fault l.profile (decode form1 l.image.bytes.now)) l.k ≡ [])
