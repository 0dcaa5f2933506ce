use Rattle.std.proofs.Common.{◌≡◌}
use lib.Seq.{paste}
use Rattle.capi.proofs.Words.{zeros}
use Rattle.capi.proofs.answer_of.Given as goal

abbrev pub invariant-loop-i : goal.invariant-loop-i
invariant-loop-i g l = l.words ≡ paste zeros 0 l.value-items l.i
