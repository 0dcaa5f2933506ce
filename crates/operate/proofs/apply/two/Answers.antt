use Rattle.std.proofs.Common.{rules}
use native.Mathlib.Omega.{arith}
use Rattle.operate.specs.Parts.{arithmetic}
use Rattle.operate.proofs.Rows.{i32_rows, u32_rows, fx_rows, i32_order, u32_order, fx_order}
use Rattle.operate.proofs.apply.two.Goals as goal

pub returns-in_err-v-in-23-to-26 : goal.returns-in_err-v-in-23-to-26
unfolding arithmetic
returns-in_err-v-in-23-to-26 c = rw (← i32_rows c.args.op c.args.l c.args.r (grind arith) (grind arith)) (search rules)

pub returns-in_ok-v-in-23-to-26 : goal.returns-in_ok-v-in-23-to-26
returns-in_ok-v-in-23-to-26 c = rw (← i32_rows c.args.op c.args.l c.args.r (grind arith) (grind arith)) (search rules)

pub returns-in_err-arithmetic-in-32-to-35 : goal.returns-in_err-arithmetic-in-32-to-35
returns-in_err-arithmetic-in-32-to-35 c = rw (← u32_rows c.args.op c.args.l c.args.r (grind arith) (grind arith)) (search rules)

pub returns-in_ok-arithmetic-in-32-to-35 : goal.returns-in_ok-arithmetic-in-32-to-35
returns-in_ok-arithmetic-in-32-to-35 c = rw (← u32_rows c.args.op c.args.l c.args.r (grind arith) (grind arith)) (search rules)

pub returns-in_err-v-in-41-to-44 : goal.returns-in_err-v-in-41-to-44
returns-in_err-v-in-41-to-44 c = rw (← fx_rows c.args.op c.args.l c.args.r (grind arith) (grind arith)) (search rules)

pub returns-in_ok-v-in-41-to-44 : goal.returns-in_ok-v-in-41-to-44
returns-in_ok-v-in-41-to-44 c = rw (← fx_rows c.args.op c.args.l c.args.r (grind arith) (grind arith)) (search rules)

pub returns-in-28-to-31 : goal.returns-in-28-to-31
returns-in-28-to-31 c = rw (← i32_order c.args.op c.args.l c.args.r (grind arith) (grind arith)) (search rules)

pub returns-in-37-to-40 : goal.returns-in-37-to-40
returns-in-37-to-40 c = rw (← u32_order c.args.op c.args.l c.args.r (grind arith) (grind arith)) (search rules)

pub returns-in-46-to-49 : goal.returns-in-46-to-49
returns-in-46-to-49 c = rw (← fx_order c.args.op c.args.l c.args.r (grind arith) (grind arith)) (search rules)
