use native.Mathlib.Omega.{arith}
use Rattle.operate.proofs.Rows.{has_kind, kind_rows}
use Rattle.operate.specs.Parts.{rule_kind}
use Rattle.operate.specs.Opcodes.{rules, rule_of}
use Rattle.operate.proofs.kind_of.Goals as goal

pub returns-in-23-to-31 : goal.returns-in-23-to-31
unfolding rules rule_of rule_kind has_kind
returns-in-23-to-31 c = kind_rows 3 23 9 c.args.op tt (omega arith) (omega arith)

pub returns-in-32-to-40 : goal.returns-in-32-to-40
unfolding rules rule_of rule_kind has_kind
returns-in-32-to-40 c = kind_rows 4 32 9 c.args.op tt (omega arith) (omega arith)

pub returns-in_default : goal.returns-in_default
unfolding rules rule_of rule_kind has_kind
returns-in_default c = kind_rows 5 41 9 c.args.op tt (omega arith) (omega arith)
