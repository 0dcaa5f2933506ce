use Rattle.std.proofs.Common.{arith, refl, ◌∙◌}
use Rattle.basis.proofs.Past.{rest_at}
use Rattle.basis.proofs.bytes.bytes_at.Goals as goal

pub returns : goal.returns
returns g c k l = c.loop-k.invariant.read k (omega arith) ∙ rw c.unwrap_or-rest.ensures (rest_at c.args.bytes.now c.args.i k c.get.result _ refl c.get.ensures.lookup)
