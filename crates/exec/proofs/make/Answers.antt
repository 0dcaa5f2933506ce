use native.Mathlib.Omega.{arith}
use mathlib.Core.Path.{sym, ◌∙◌}
use Rattle.image.specs.Records.{form1}
use Rattle.image.proofs.Parts.{entry_is, functions_length}
use Rattle.exec.proofs.Facts.{unknown, regs_are}
use Rattle.exec.proofs.Entry.{made_none, made_frames, made_registers, made_frame}
use Rattle.exec.proofs.make.Goals as goal

pub returns-in_default : goal.returns-in_default
returns-in_default c = made_none _ _ _ _ (c.entry-entry.ensures ∙ sym (entry_is form1 _)) (let none = c.in_default.ensures in rw (functions_length form1 _) (omega arith))

pub returns-then-frames-lt-FRAME_WORDS : goal.returns-then-frames-lt-FRAME_WORDS
returns-then-frames-lt-FRAME_WORDS c = made_frames _ _ _ _ (c.entry-entry.ensures ∙ sym (entry_is form1 _)) (unknown _ _ c.in-Some.ensures.0) c.if-frames-lt-FRAME_WORDS.true

pub returns-then-registers-n : goal.returns-then-registers-n
returns-then-registers-n c = made_registers _ _ _ _ (c.entry-entry.ensures ∙ sym (entry_is form1 _)) (unknown _ _ c.in-Some.ensures.0) c.if-frames-lt-FRAME_WORDS.false _ (regs_are _ c.args.image.well_formed _ c.in-Some.ensures.0 _ c.in-Some.ensures.1) c.if-registers-n.true

pub returns : goal.returns
returns c = rw (c.clear.ensures, c.begin_record.ensures) (made_frame _ _ _ _ (c.entry-entry.ensures ∙ sym (entry_is form1 _)) (unknown _ _ c.in-Some.ensures.0) c.if-frames-lt-FRAME_WORDS.false _ (regs_are _ c.args.image.well_formed _ c.in-Some.ensures.0 _ c.in-Some.ensures.1) c.if-registers-n.false)
