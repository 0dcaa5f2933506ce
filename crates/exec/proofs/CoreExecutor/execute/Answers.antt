use mathlib.Core.Path.{ap, ◌∙◌}
use Rattle.exec.specs.Execute.{trap_alone}
use Rattle.exec.proofs.Whole.{settled_alone}
use Rattle.exec.proofs.CoreExecutor.execute.Goals as goal

pub returns : goal.returns
returns c = rw c.settle.ensures (settled_alone _ _ _ ∙ ap trap_alone c.execute_outcome.ensures)
