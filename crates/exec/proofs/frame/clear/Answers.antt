use Rattle.exec.proofs.Lists.{cleared}
use Rattle.exec.proofs.frame.clear.Goals as goal

pub returns : goal.returns
returns c = cleared _ _ _ _ (c.fill.ensures.after (λ y e. e)) c.requires
