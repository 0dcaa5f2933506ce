use Rattle.image.specs.Records.{form1}
use Rattle.image.specs.Program.{decode}
use Rattle.exec.specs.Price.{unit}
use Rattle.exec.proofs.Bursts.{Bursting}
use Rattle.exec.proofs.burst.burst.Given as goal

abbrev pub invariant-loop-place : goal.invariant-loop-place
invariant-loop-place l = Bursting (decode form1 l.image.bytes.now) unit l.function l.fuel l.from l.initial.win l.win l.place l.left

abbrev pub decreases-loop-place : goal.decreases-loop-place
decreases-loop-place l = l.left
