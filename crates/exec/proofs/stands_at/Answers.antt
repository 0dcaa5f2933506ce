use native.Mathlib.Omega.{arith}
use mathlib.Core.Path.{refl}
use Rattle.image.specs.Records.{form1}
use Rattle.image.proofs.Parts.{functions_length}
use Rattle.exec.proofs.Facts.{unknown, regs_are}
use Rattle.exec.proofs.Standing.{no_record, no_function_lem, no_registers, registers_fit}
use Rattle.exec.proofs.stands_at.Goals as goal

pub returns-then-frames-k : goal.returns-then-frames-k
returns-then-frames-k c = no_record _ _ _ _ c.if-frames-k.true

pub returns-in_default : goal.returns-in_default
returns-in_default c = no_function_lem _ _ _ _ (omega (arith, c.if-frames-k.false)) _ refl (let none = c.in_default.ensures in rw (functions_length form1 _) (omega arith))

pub returns-then-n-first : goal.returns-then-n-first
returns-then-n-first c = no_registers _ _ _ _ (omega (arith, c.if-frames-k.false)) _ refl (unknown _ _ c.in-Some.ensures.0) _ _ refl (regs_are _ c.args.image.well_formed _ c.in-Some.ensures.0 _ c.in-Some.ensures.1) c.if-n-first.true

pub returns : goal.returns
returns c = registers_fit _ _ _ _ (omega (arith, c.if-frames-k.false)) _ refl (unknown _ _ c.in-Some.ensures.0) _ _ refl (regs_are _ c.args.image.well_formed _ c.in-Some.ensures.0 _ c.in-Some.ensures.1) c.if-n-first.false
