use mathlib.Core.Path.{◌∙◌}
use Rattle.exec.proofs.Entry.{made_alone, enter_refused, enter_run}
use Rattle.exec.proofs.enter.Goals as goal

pub run-requires : goal.run-requires
run-requires c =
    (made_alone _ _ _ _ _ _ c.in-Ok.ensures).0

pub returns-in-Ok : goal.returns-in-Ok
returns-in-Ok c = c.run.ensures ∙ enter_run _ _ _ _ _ _ _ _ _ c.in-Ok.ensures

pub returns-in-Err : goal.returns-in-Err
returns-in-Err c = enter_refused _ _ _ _ _ _ _ _ _ c.in-Err.ensures
