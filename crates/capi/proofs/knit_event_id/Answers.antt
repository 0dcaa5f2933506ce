use Rattle.capi.proofs.Words.{names}
use Rattle.capi.proofs.knit_event_id.Goals as goal

pub returns : goal.returns
returns c = names _ _ _ _ c.of_event_id-number.ensures c.event_id.ensures
