use mathlib.Core.Path.{sym, ◌∙◌}
use Rattle.exec.proofs.Standing.{stands_ready}
use Rattle.exec.proofs.Whole.{found_fault, found_none, found_step}
use Rattle.exec.proofs.step_once.Goals as goal

pub returns-in_default : goal.returns-in_default
returns-in_default c = found_fault _ _ _ _ _ c.in_default.field-0 c.in_default.ensures.fault

pub one_step-requires : goal.one_step-requires
one_step-requires c = stands_ready _ _ _ _ (sym c.frame_stands.ensures ∙ c.if-frame_stands.true)

pub returns-then-frame_stands : goal.returns-then-frame_stands
returns-then-frame_stands c = found_step _ _ _ _ _ (sym c.in-Ok.ensures.fine) (rw c.in-Ok.ensures.same at (sym c.frame_stands.ensures ∙ c.if-frame_stands.true)) _ _ _ (rw c.in-Ok.ensures.same at c.one_step.ensures)

pub returns-else-frame_stands : goal.returns-else-frame_stands
returns-else-frame_stands c = found_none _ _ _ _ _ (sym c.in-Ok.ensures.fine) (rw c.in-Ok.ensures.same at (sym c.frame_stands.ensures ∙ c.if-frame_stands.false))
