use mathlib.Core.Path.{sym}
use Rattle.exec.proofs.Whole.{ends_refused, ends_run}
use Rattle.exec.proofs.execute_outcome.Goals as goal

pub returns-in_err-image : goal.returns-in_err-image
returns-in_err-image c = ends_refused _ _ _ _ _ _ c.in_err-image.ensures.fault _ c.from_residual.ensures.1

pub returns : goal.returns
returns c = ends_run _ _ _ _ _ (sym c.in_ok-image.ensures.fine) _ _ _ _ _ c.outcome_of.ensures (rw c.in_ok-image.ensures.same at c.enter.ensures)
