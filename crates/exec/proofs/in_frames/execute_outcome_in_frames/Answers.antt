use mathlib.Core.Path.{refl, sym, ◌∙◌}
use Rattle.exec.specs.InFrames.{comes_to}
use Rattle.exec.proofs.Whole.{ends_refused, ends_run}
use Rattle.exec.proofs.in_frames.execute_outcome_in_frames.Goals as goal

pub returns-in_err-image : goal.returns-in_err-image
returns-in_err-image c = ends_refused _ _ _ _ _ _ c.in_err-image.ensures.fault _ c.from_residual.ensures.1

pub returns-in-Ok : goal.returns-in-Ok
unfolding comes_to
returns-in-Ok c = ends_run _ _ _ _ _ (sym c.in_ok-image.ensures.fine) _ _ _ _ _ c.outcome_of.ensures (rw c.in_ok-image.ensures.same at (c.run.ensures ∙ (c.in-Ok.ensures c.args.frames.now refl).1))

pub returns-in-Err : goal.returns-in-Err
unfolding comes_to
returns-in-Err c = ends_run _ _ _ _ _ (sym c.in_ok-image.ensures.fine) _ _ _ _ _ c.outcome_of-in-Err.ensures (rw c.in_ok-image.ensures.same at (c.in-Err.ensures c.args.frames.now refl).1)
