use Rattle.std.proofs.Common.{◌≡◌, length}
use Rattle.std.specs.Prelude.{Ok}
use Rattle.image.specs.Records.{form1}
use Rattle.image.specs.Program.{decode}
use Rattle.exec.specs.InFrames.{comes_to, Stands}
use Rattle.exec.proofs.in_frames.run.Given as goal

abbrev pub invariant-loop-next : goal.invariant-loop-next
invariant-loop-next l =
    record {
      stands : Stands l.image.bytes.now l.m l.frames (length l.registers);
      same : comes_to (decode form1 l.image.bytes.now) (Ok l.m) l.frames l.registers ≡ comes_to (decode form1 l.image.bytes.now) (Ok l.initial.m) l.initial.frames l.initial.registers;
    }

-- a turn takes fuel
abbrev pub decreases-loop-next : goal.decreases-loop-next
decreases-loop-next l = l.m.left
