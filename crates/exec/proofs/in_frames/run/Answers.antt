use mathlib.Core.Path.{◌∙◌}
use Rattle.exec.specs.InFrames.{comes_to}
use Rattle.exec.proofs.in_frames.run.Goals as goal

pub returns-in-Err : goal.returns-in-Err
unfolding comes_to
returns-in-Err c = c.in-Err.ensures.same ∙ c.loop-next.invariant.same
