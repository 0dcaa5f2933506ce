use mathlib.Core.Path.{sym}
use Rattle.text.proofs.Widths.{width_by_power}
use Rattle.text.proofs.digits.decimal_width.Goals as goal

pub returns-clause-value : goal.returns-clause-value
returns-clause-value c =
    let width = width_by_power c.args.n c.ilog10.result c.ilog10.ensures.bound in
    let most = c.max.ensures in
    sym (width (rw (← most) c.ilog10.ensures.power_le) (rw (← most) c.ilog10.ensures.next_power_gt))
