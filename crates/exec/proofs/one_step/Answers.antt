use mathlib.Core.Path.{◌∙◌}
use Rattle.exec.proofs.Runs.{unit_fair}
use Rattle.exec.proofs.Outer.{stretch_ready, stretch_leaves}
use Rattle.exec.proofs.Single.{one_on, one_past, one_dry, one_fails, one_leaves}
use Rattle.exec.proofs.one_step.Goals as goal

pub leave-requires-clause-ready : goal.leave-requires-clause-ready
leave-requires-clause-ready c =
    stretch_ready _ _ unit_fair _ _ _ _ c.requires _ _ _ _ c.stretch-h.ensures.registers_after

pub leave-requires-clause-at_leave : goal.leave-requires-clause-at_leave
leave-requires-clause-at_leave c =
    stretch_leaves _ _ unit_fair _ _ _ _ c.requires _ _ _ (rw c.in-Leaves.is at c.stretch-h.ensures.registers_after)

pub returns-then-h-eq0 : goal.returns-then-h-eq0
returns-then-h-eq0 c = one_on _ _ _ _ _ c.requires _ _ _ (rw c.in-Past.is at c.stretch-h.ensures.registers_after) c.if-h-eq0.true

pub returns-else-h-eq0 : goal.returns-else-h-eq0
returns-else-h-eq0 c = one_past _ _ _ _ _ c.requires _ _ _ (rw c.in-Past.is at c.stretch-h.ensures.registers_after) c.if-h-eq0.false

pub returns-in-Dry : goal.returns-in-Dry
returns-in-Dry c = one_dry _ _ _ _ _ c.requires _ _ _ (rw c.in-Dry.is at c.stretch-h.ensures.registers_after)

pub returns-in-Fails : goal.returns-in-Fails
returns-in-Fails c = one_fails _ _ _ _ _ c.requires _ _ _ c.in-Fails.t (rw c.in-Fails.is at c.stretch-h.ensures.registers_after)

pub returns-in-Leaves : goal.returns-in-Leaves
returns-in-Leaves c = c.leave.ensures ∙ one_leaves _ _ _ _ _ c.requires _ _ _ (rw c.in-Leaves.is at c.stretch-h.ensures.registers_after)
