use Prim.Native.Nat.{◌≤◌}
use mathlib.Core.Path.{◌≡◌}
use mathlib.Core.List.{[]}
use Rattle.basis.specs.Answers.{first_of}
use Rattle.image.specs.Records.{form1}
use Rattle.image.specs.Program.{decode}
use Rattle.image.specs.Parts.{code_of}
use Rattle.admission.specs.Verdict.{returns_before}
use Rattle.admission.proofs.Functions.{fault_at}
use Rattle.admission.proofs.function.Function.check_code.Given as goal

abbrev pub invariant-loop-j : goal.invariant-loop-j
invariant-loop-j l =
    let p = decode form1 l.self.image.bytes.now in
    (l.j ≤ l.j-end) × (l.has_return ≡ returns_before (code_of p l.self.number) l.j) × (first_of (fault_at p l.self.number) l.j ≡ [])
