use native.Mathlib.Omega.{arith}
use Rattle.operate.proofs.Rows.{computes_none}
use Rattle.operate.proofs.operate.Goals as goal

pub returns-in_default-2 : goal.returns-in_default-2
returns-in_default-2 c = computes_none _ _ _ (omega arith)
