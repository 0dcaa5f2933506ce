use Rattle.basis.proofs.There.{there, got}
use Rattle.exec.proofs.Runs.{unit_fair}
use Rattle.exec.proofs.Facts.{known, count_is, code_room, instr_is}
use Rattle.exec.proofs.Charged.{paid}
use Rattle.exec.proofs.Bursts.{stop_past, stop_dry, stop_fails, stop_leave, turn_on, turn_to, fuel_less}
use Rattle.exec.proofs.burst.burst.Goals as goal

pub unwrap-f-requires : goal.unwrap-f-requires
unwrap-f-requires c = there _ _ _ c.function.ensures (known _ _ c.requires)

pub returns-then-count-place : goal.returns-then-count-place
returns-then-count-place c = stop_past _ _ unit_fair _ _ _ _ _ _ _ c.loop-place.invariant (rw (count_is _ c.args.image.well_formed _ (known _ _ c.requires) _ (got _ _ _ _ c.function.ensures c.unwrap-f.ensures)) at c.if-count-place.true)

pub instr_of-i-requires : goal.instr_of-i-requires
instr_of-i-requires c = code_room _ c.args.image.well_formed _ (known _ _ c.requires) _ (got _ _ _ _ c.function.ensures c.unwrap-f.ensures) _ _ c.code_place-code.ensures c.if-count-place.false

pub returns-then-left-cost : goal.returns-then-left-cost
returns-then-left-cost c = stop_dry _ _ unit_fair _ _ _ _ _ _ _ c.loop-place.invariant _ _ (instr_is _ c.args.image.well_formed _ (known _ _ c.requires) _ (got _ _ _ _ c.function.ensures c.unwrap-f.ensures) _ _ _ c.code_place-code.ensures c.if-count-place.false c.instr_of-i.ensures.value) (rw (count_is _ c.args.image.well_formed _ (known _ _ c.requires) _ (got _ _ _ _ c.function.ensures c.unwrap-f.ensures)) at c.if-count-place.false) c.price-cost.ensures c.if-left-cost.true

pub loop-place-smaller-in-Ok-On : goal.loop-place-smaller-in-Ok-On
loop-place-smaller-in-Ok-On c = fuel_less _ _ unit_fair _ _ _ _ _ _ _ c.loop-place.invariant _ _ (paid _ c.args.image.well_formed _ (known _ _ c.requires) _ (got _ _ _ _ c.function.ensures c.unwrap-f.ensures) _ c.code_place-code.ensures _ _ c.if-count-place.false _ c.instr_of-i.ensures.value _ c.price-cost.ensures c.if-left-cost.false)

pub loop-place-preserved-in-Ok-On : goal.loop-place-preserved-in-Ok-On
loop-place-preserved-in-Ok-On c = turn_on _ _ unit_fair _ _ _ _ _ _ _ c.loop-place.invariant _ _ (paid _ c.args.image.well_formed _ (known _ _ c.requires) _ (got _ _ _ _ c.function.ensures c.unwrap-f.ensures) _ c.code_place-code.ensures _ _ c.if-count-place.false _ c.instr_of-i.ensures.value _ c.price-cost.ensures c.if-left-cost.false) _ (rw c.in-Ok-On.field-0-is at c.in-Ok-On.ensures) c.straight.auto.win

pub loop-place-smaller : goal.loop-place-smaller
loop-place-smaller c = fuel_less _ _ unit_fair _ _ _ _ _ _ _ c.loop-place.invariant _ _ (paid _ c.args.image.well_formed _ (known _ _ c.requires) _ (got _ _ _ _ c.function.ensures c.unwrap-f.ensures) _ c.code_place-code.ensures _ _ c.if-count-place.false _ c.instr_of-i.ensures.value _ c.price-cost.ensures c.if-left-cost.false)

pub loop-place-preserved : goal.loop-place-preserved
loop-place-preserved c = turn_to _ _ unit_fair _ _ _ _ _ _ _ c.loop-place.invariant _ _ (paid _ c.args.image.well_formed _ (known _ _ c.requires) _ (got _ _ _ _ c.function.ensures c.unwrap-f.ensures) _ c.code_place-code.ensures _ _ c.if-count-place.false _ c.instr_of-i.ensures.value _ c.price-cost.ensures c.if-left-cost.false) c.in-Ok-To.q _ (rw c.in-Ok-To.field-0-is at c.in-Ok-To.ensures) c.straight.auto.win

pub returns-in-Err : goal.returns-in-Err
returns-in-Err c = stop_fails _ _ unit_fair _ _ _ _ _ _ _ c.loop-place.invariant _ _ (paid _ c.args.image.well_formed _ (known _ _ c.requires) _ (got _ _ _ _ c.function.ensures c.unwrap-f.ensures) _ c.code_place-code.ensures _ _ c.if-count-place.false _ c.instr_of-i.ensures.value _ c.price-cost.ensures c.if-left-cost.false) c.in-Err.t _ c.in-Err.ensures

pub returns-in-Ok-Leaves : goal.returns-in-Ok-Leaves
returns-in-Ok-Leaves c = stop_leave _ _ unit_fair _ _ _ _ _ _ _ c.loop-place.invariant _ _ (paid _ c.args.image.well_formed _ (known _ _ c.requires) _ (got _ _ _ _ c.function.ensures c.unwrap-f.ensures) _ c.code_place-code.ensures _ _ c.if-count-place.false _ c.instr_of-i.ensures.value _ c.price-cost.ensures c.if-left-cost.false) _ (rw c.in-Ok-Leaves.field-0-is at c.in-Ok-Leaves.ensures)
