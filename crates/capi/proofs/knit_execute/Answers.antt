use Rattle.capi.proofs.Words.{crosses}
use Rattle.capi.proofs.knit_execute.Goals as goal

pub returns : goal.returns
returns c = crosses _ _ _ _ _ c.of_outcome-number.ensures c.execute_outcome.ensures
