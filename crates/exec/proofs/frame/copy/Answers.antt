use mathlib.Core.Path.{◌∙◌}
use native.Mathlib.Omega.{arith}
use Rattle.exec.proofs.Lists.{copied}
use Rattle.exec.proofs.frame.copy.Goals as goal

pub returns-then-n-gt0 : goal.returns-then-n-gt0
returns-then-n-gt0 c = c.copy_within.ensures.after ∙ copied _ _ _ _ (omega (arith, c.requires)) c.requires.n_in_bounds
