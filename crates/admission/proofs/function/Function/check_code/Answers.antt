use Rattle.basis.proofs.There.{there}
use Rattle.image.proofs.Numbers.{code_room}
use Rattle.admission.proofs.function.Function.check_code.Goals as goal

pub unwrap-i-requires : goal.unwrap-i-requires
unwrap-i-requires c =
    there _ _ _ c.instr.ensures.value
    (code_room _ c.args.self.image.well_formed _ c.args.self.exists _ c.args.self.is_read _ _ c.code_place-start.ensures c.loop-j-test.true)
