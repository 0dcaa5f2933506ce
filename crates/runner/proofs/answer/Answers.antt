-- The line is the one that `printed` names at these frames and registers.
use Rattle.text.specs.Line.{printed}
use Rattle.text.proofs.Texts.{reply_line}
use Rattle.runner.proofs.answer.Goals as goal

pub returns-clause-line_after : goal.returns-clause-line_after
unfolding printed
returns-clause-line_after c = reply_line _ _ _ _ _ _ _ _ _ c.reply.ensures.registers_after
