use mathlib.Core.List.{[]}
use Rattle.exec.proofs.Entering.{refused_enters, made_enters}
use Rattle.exec.proofs.in_frames.enter.Goals as goal

pub returns-in-Ok : goal.returns-in-Ok
returns-in-Ok c = rw c.load_record.ensures (made_enters _ _ _ _ _ _ _ _ _ c.first_record-n.ensures.value c.first_record-n.ensures.upper_bound c.args.image.well_formed _ c.in-Ok.ensures)

pub returns-in-Err : goal.returns-in-Err
returns-in-Err c = refused_enters _ _ _ _ _ _ _ _ [] c.first_record-n.ensures.value c.first_record-n.ensures.upper_bound _ c.in-Err.ensures
