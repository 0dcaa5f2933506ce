-- Each part goes behind the bytes that are there, and leaves them; a signal leaves all.
use Rattle.std.proofs.Common.{arith}
use Rattle.runner.proofs.Taking.{taken_more, taken_no_more}
use Rattle.runner.proofs.fill.Goals as goal
use Rattle.runner.proofs.fill.Goals.{in-Ok, in-Err}

pub loop-try-preserved : goal.loop-try-preserved
loop-try-preserved g c = elim c.match-read_on.branch [
  | in-Ok w ↦ rw w.count-is (record {
    in_range = omega (arith, w.in-Ok.ensures.within);
    taken = taken_more _ _ _ _ _ _ _ c.loop-try.invariant.taken c.read_on.ensures.buf_unchanged w.in-Ok.ensures.taken.0;
  })
  | in-Err w ↦ rw w.count-is (record {
    in_range = omega arith;
    taken = taken_no_more _ _ _ _ _ _ c.loop-try.invariant.taken c.read_on.ensures.buf_unchanged w.in-Err.ensures.taken;
  })
]
