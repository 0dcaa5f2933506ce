use native.Mathlib.Omega.{arith}
use mathlib.Core.Path.{sym, ◌∙◌}
use Rattle.image.proofs.Checks.{layout_ends}
use Rattle.image.specs.Records.{form1}
use Rattle.image.proofs.check_image.Goals as goal

pub table_fault-requires : goal.table_fault-requires
table_fault-requires c = omega (arith, layout_ends form1 _ _ (sym c.if-not-layout_holds.false ∙ c.layout_holds.ensures))

pub record_fault-requires : goal.record_fault-requires
record_fault-requires c = omega (arith, layout_ends form1 _ _ (sym c.if-not-layout_holds.false ∙ c.layout_holds.ensures))
