use native.Mathlib.Omega.{arith}
use Rattle.capi.specs.Boundary.{number_of}
use Rattle.capi.proofs.Words.{values_in}
use Rattle.capi.proofs.answer_of.Goals as goal

pub returns : goal.returns
unfolding number_of
returns g c = rw (c.loop-i.invariant, values_in c.args.number c.loop-i.i c.args.values (omega arith) (omega arith))
