use Rattle.text.proofs.Texts.{ran_long, ran_run}
use Rattle.text.proofs.line.answer.Goals as goal

pub returns-then-more-clause-line : goal.returns-then-more-clause-line
returns-then-more-clause-line c = rw (c.if-more.true, ran_long) c.refused.ensures

pub returns-then-more-clause-frames_after : goal.returns-then-more-clause-frames_after
returns-then-more-clause-frames_after c = rw (c.if-more.true, ran_long)

pub returns-then-more-clause-registers_after : goal.returns-then-more-clause-registers_after
returns-then-more-clause-registers_after c = rw (c.if-more.true, ran_long)

pub returns-clause-line : goal.returns-clause-line
returns-clause-line c = rw (c.if-more.false, ran_run _ _ _ _ _ _ _ c.default.ensures c.execute_outcome.ensures) c.answered.ensures

pub returns-clause-frames_after : goal.returns-clause-frames_after
returns-clause-frames_after c = rw (c.if-more.false, ran_run _ _ _ _ _ _ _ c.default.ensures c.execute_outcome.ensures)

pub returns-clause-registers_after : goal.returns-clause-registers_after
returns-clause-registers_after c = rw (c.if-more.false, ran_run _ _ _ _ _ _ _ c.default.ensures c.execute_outcome.ensures)
