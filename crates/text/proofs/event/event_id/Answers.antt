use native.Mathlib.Omega.{arith}
use Rattle.text.proofs.Texts.{id_put}
use Rattle.text.proofs.event.event_id.Goals as goal

pub returns : goal.returns
returns c = rw (← c.from.ensures) (id_put c.args.out.now _ _ _ _ (omega arith) c.put_digits.ensures c.put_digits-2.ensures)
