use Rattle.image.specs.Records.{form1}
use Rattle.image.specs.Program.{decode}
use Rattle.exec.specs.Price.{unit}
use Rattle.exec.proofs.Runs.{Running}
use Rattle.exec.proofs.run.Given as goal

abbrev pub invariant-loop-n : goal.invariant-loop-n
invariant-loop-n l = Running (decode form1 l.image.bytes.now) unit l.most l.fuel l.initial.frames l.initial.registers l.frames l.registers l.d l.left

abbrev pub decreases-loop-n : goal.decreases-loop-n
decreases-loop-n l = l.left
