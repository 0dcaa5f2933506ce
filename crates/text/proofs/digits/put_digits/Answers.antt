use native.Mathlib.Omega.{arith}
use mathlib.Core.Path.{◌≡◌, sym, ◌∙◌}
use Rattle.text.specs.Digits.{digits}
use Rattle.text.proofs.Stores.{digit_before}
use Rattle.text.proofs.digits.put_digits.Goals as goal

pub loop-place-preserved : goal.loop-place-preserved
loop-place-preserved c = c.loop-place.invariant ∙ digit_before c.loop-place.out c.args.base c.loop-place.place _ c.loop-place.rest _ (omega arith) (omega arith) c.glyph.ensures

pub returns : goal.returns
unfolding digits
returns c = let none : c.loop-place.place ≡ 0 = omega arith in sym (rw none at c.loop-place.invariant)
