use mathlib.Core.Path.{sym}
use Rattle.image.specs.Records.{form1}
use Rattle.image.proofs.Agree.{well_formed}
use Rattle.image.proofs.program.Image.of.Goals as goal

pub invariant_of-result : goal.invariant_of-result
invariant_of-result c = record { well_formed = (well_formed form1 _).0 (sym (c.in_ok-check_image.ensures)) }
