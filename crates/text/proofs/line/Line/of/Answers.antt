use native.Mathlib.Omega.{arith}
use mathlib.Core.Path.{ap, ◌∙◌}
use lib.ListN.{length, length-append}
use Rattle.text.proofs.Texts.{field_put, end_put}
use Rattle.text.proofs.line.Line.of.Goals as goal

pub loop-n-preserved : goal.loop-n-preserved
loop-n-preserved c = record {
  whole = field_put c.loop-n.line c.args.numbers.now c.loop-n.n-index _ _ c.loop-n-test.true c.put-in-loop-n.ensures c.put_decimal.ensures.text ∙ c.loop-n.invariant.whole;
  short = let one = simp length-append at (ap length c.put-in-loop-n.ensures) in omega arith;
}

pub returns : goal.returns
returns c = c.put-2.ensures ∙ end_put c.loop-n.line c.args.numbers.now c.loop-n.n-index (omega arith) ∙ c.loop-n.invariant.whole
