use Rattle.exec.proofs.Runs.{unit_fair}
use Rattle.exec.proofs.Outer.{turn_less, turn_within, turn_again, turn_ends}
use Rattle.exec.proofs.run.Goals as goal

pub overflow_sub-result : goal.overflow_sub-result
overflow_sub-result c = turn_within _ _ unit_fair _ _ _ _ _ _ _ _ c.loop-n.invariant _ _ _ _ c.turn-t.ensures

pub loop-n-smaller : goal.loop-n-smaller
loop-n-smaller c = turn_less _ _ unit_fair _ _ _ _ _ c.loop-n.invariant.good _ _ _ _ (rw c.in-Ok.is at c.turn-t.ensures)

pub loop-n-preserved : goal.loop-n-preserved
loop-n-preserved c = turn_again _ _ unit_fair _ _ _ _ _ _ _ _ c.loop-n.invariant _ _ _ _ (rw c.in-Ok.is at c.turn-t.ensures) c.turn-t.auto.frames c.turn-t.auto.registers

pub returns-in-Err : goal.returns-in-Err
returns-in-Err c = turn_ends _ _ unit_fair _ _ _ _ _ _ _ _ c.loop-n.invariant _ _ _ _ (rw c.in-Err.is at c.turn-t.ensures)
