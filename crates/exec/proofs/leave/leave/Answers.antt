use native.Mathlib.Omega.{arith}
use Rattle.basis.proofs.There.{there, got}
use Rattle.exec.proofs.Facts.{top_fits, left_function, left_room, left_instr, leave_call, leave_ret}
use Rattle.exec.proofs.leave.leave.Goals as goal

pub unwrap-f-requires : goal.unwrap-f-requires
unwrap-f-requires c = there _ _ _ c.function.ensures (left_function _ c.args.image.well_formed _ _ _ c.requires.at_leave c.requires.ready _ c.requires.t_value)

pub instr_of-i-requires : goal.instr_of-i-requires
instr_of-i-requires c = left_room _ c.args.image.well_formed _ _ _ c.requires.at_leave c.requires.ready _ c.requires.t_value _ (got _ _ _ _ c.function.ensures c.unwrap-f.ensures) _ c.code_place-code.ensures

pub call-requires-clause-le_d : goal.call-requires-clause-le_d
call-requires-clause-le_d c = (c.requires.ready.some, c.requires.ready.room, top_fits _ _ _ _ _ c.requires.ready c.requires.t_value, omega (arith, left_room _ c.args.image.well_formed _ _ _ c.requires.at_leave c.requires.ready _ c.requires.t_value _ (got _ _ _ _ c.function.ensures c.unwrap-f.ensures) _ c.code_place-code.ensures, c.well_formed))

pub returns-then-i-eq-CALL : goal.returns-then-i-eq-CALL
returns-then-i-eq-CALL c = leave_call _ _ _ _ _ c.requires.ready c.requires.t_value c.requires.at_leave _ _ (left_instr _ c.args.image.well_formed _ _ _ c.requires.at_leave c.requires.ready _ c.requires.t_value _ (got _ _ _ _ c.function.ensures c.unwrap-f.ensures) _ c.code_place-code.ensures _ c.instr_of-i.ensures.value) _ c.call.ensures c.if-i-eq-CALL.true

pub returns-else-i-eq-CALL : goal.returns-else-i-eq-CALL
returns-else-i-eq-CALL c = leave_ret _ _ _ _ _ c.requires.ready c.requires.t_value c.requires.at_leave _ _ (left_instr _ c.args.image.well_formed _ _ _ c.requires.at_leave c.requires.ready _ c.requires.t_value _ (got _ _ _ _ c.function.ensures c.unwrap-f.ensures) _ c.code_place-code.ensures _ c.instr_of-i.ensures.value) _ c.ret.ensures c.if-i-eq-CALL.false
