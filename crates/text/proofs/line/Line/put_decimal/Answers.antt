use native.Mathlib.Omega.{arith}
use mathlib.Core.Path.{◌≡◌, ap}
use lib.ListN.{length, take}
use lib.Seq.{length-take-le}
use Rattle.text.proofs.Texts.{decimal_put}
use Rattle.text.proofs.line.Line.put_decimal.Goals as goal

pub returns-clause-text : goal.returns-clause-text
returns-clause-text c =
    let bytes = c.self.inside.bytes in
    let written = c.self.inside.written in
    let long : length (take written bytes) ≡ written = length-take-le written bytes (omega arith) in
    let seen : length (take written bytes) ≡ length c.args.self.now = ap length c.self.view_is in
    rw (← c.self.view_is) (decimal_put bytes _ written _ _ (omega arith) c.decimal_width.ensures.value c.put_digits.ensures)
