use Rattle.exec.proofs.Runs.{unit_fair}
use Rattle.exec.proofs.Outer.{stretch_ready, stretch_leaves, turn_by, turn_leaves}
use Rattle.exec.proofs.turn.turn.Goals as goal

pub leave-step-requires-clause-ready : goal.leave-step-requires-clause-ready
leave-step-requires-clause-ready c =
    stretch_ready _ _ unit_fair _ _ _ _ c.requires _ _ _ _ c.stretch-h.ensures.registers_after

pub leave-step-requires-clause-at_leave : goal.leave-step-requires-clause-at_leave
leave-step-requires-clause-at_leave c =
    stretch_leaves _ _ unit_fair _ _ _ _ c.requires _ _ _ (rw c.in-Leaves.is at c.stretch-h.ensures.registers_after)

pub returns-in-Past : goal.returns-in-Past
returns-in-Past c = turn_by _ _ _ _ _ _ _ _ _ _ _ (rw c.in-Past.is at c.stretch-h.ensures.registers_after)

pub returns-in-Dry : goal.returns-in-Dry
returns-in-Dry c = turn_by _ _ _ _ _ _ _ _ _ _ _ (rw c.in-Dry.is at c.stretch-h.ensures.registers_after)

pub returns-in-Fails : goal.returns-in-Fails
returns-in-Fails c = turn_by _ _ _ _ _ _ _ _ _ _ _ (rw c.in-Fails.is at c.stretch-h.ensures.registers_after)

pub returns-in-Leaves : goal.returns-in-Leaves
returns-in-Leaves c = turn_leaves _ _ _ _ _ _ _ _ _ _ (rw c.in-Leaves.is at c.stretch-h.ensures.registers_after) _ _ _ c.leave-step.ensures
