use Rattle.basis.proofs.There.{there, got}
use Rattle.exec.proofs.Facts.{known, regs_are}
use Rattle.exec.proofs.frame.running.Goals as goal

pub unwrap-requires : goal.unwrap-requires
unwrap-requires c = there _ _ _ c.function.ensures (known _ _ c.requires.d_bound)

pub returns : goal.returns
returns c = rw (regs_are _ c.args.image.well_formed _ (known _ _ c.requires.d_bound) _ (got _ _ _ _ c.function.ensures c.unwrap.ensures))
