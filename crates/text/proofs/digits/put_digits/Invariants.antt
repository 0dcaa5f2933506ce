use Rattle.std.proofs.Common.{◌≡◌, ◌++◌, drop, length}
use Rattle.text.specs.Digits.{digits}
use Rattle.text.proofs.digits.put_digits.Given as goal

abbrev pub invariant-loop-place : goal.invariant-loop-place
invariant-loop-place l = digits l.base (length l.initial.out) l.n ≡ digits l.base l.place l.rest ++ drop l.place l.out
