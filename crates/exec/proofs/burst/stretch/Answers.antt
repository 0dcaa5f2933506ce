use Rattle.exec.proofs.Facts.{stretch_is}
use Rattle.exec.proofs.burst.stretch.Goals as goal

pub returns-clause-registers_after : goal.returns-clause-registers_after
returns-clause-registers_after c =
    rw c.move_to.ensures (stretch_is _ c.args.frames.now c.args.registers.now c.args.d _ c.requires c.running-t.ensures _ _ _ _ _ _ c.burst-h.ensures)
