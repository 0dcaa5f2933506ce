use native.Mathlib.Omega.{arith}
use mathlib.Core.Path.{sym, ◌∙◌}
use Rattle.image.specs.Records.{form1}
use Rattle.image.proofs.Parts.{functions_length}
use Rattle.exec.proofs.Facts.{unknown, regs_are}
use Rattle.exec.proofs.Leaving.{call_deep, call_unknown, call_window, call_frames, call_registers, call_push}
use Rattle.exec.proofs.leave.call.Goals as goal

pub returns-then-most-d : goal.returns-then-most-d
returns-then-most-d c = call_deep _ _ _ _ _ _ _ c.if-most-d.true

pub returns-in_default : goal.returns-in_default
returns-in_default c = call_unknown _ _ _ _ _ _ _ c.if-most-d.false (let none = c.in_default.ensures in rw (functions_length form1 _) (omega arith))

pub returns-then-not-window_fits : goal.returns-then-not-window_fits
returns-then-not-window_fits c = call_window _ _ _ _ _ _ _ c.if-most-d.false (unknown _ _ c.in-Some.ensures.0) _ (regs_are _ c.args.image.well_formed _ c.in-Some.ensures.0 _ c.in-Some.ensures.1) (sym c.window_fits.ensures.value ∙ c.if-not-window_fits.true)

pub returns-then-frames-d : goal.returns-then-frames-d
returns-then-frames-d c = call_frames _ _ _ _ _ _ _ c.if-most-d.false (unknown _ _ c.in-Some.ensures.0) _ (regs_are _ c.args.image.well_formed _ c.in-Some.ensures.0 _ c.in-Some.ensures.1) (sym c.window_fits.ensures.value ∙ c.if-not-window_fits.false) c.if-frames-d.true

pub returns-then-registers-t : goal.returns-then-registers-t
returns-then-registers-t c = call_registers _ _ _ _ _ _ _ c.if-most-d.false (unknown _ _ c.in-Some.ensures.0) _ (regs_are _ c.args.image.well_formed _ c.in-Some.ensures.0 _ c.in-Some.ensures.1) (sym c.window_fits.ensures.value ∙ c.if-not-window_fits.false) c.if-frames-d.false c.if-registers-t.true

pub returns : goal.returns
returns c = rw (c.push_record.ensures, c.push_registers.ensures) (call_push _ _ _ _ _ _ _ c.if-most-d.false (unknown _ _ c.in-Some.ensures.0) _ (regs_are _ c.args.image.well_formed _ c.in-Some.ensures.0 _ c.in-Some.ensures.1) (sym c.window_fits.ensures.value ∙ c.if-not-window_fits.false) c.if-frames-d.false c.if-registers-t.false)
