use Rattle.std.proofs.Common.{◌≡◌, ◌*◌, take}
use Rattle.replay.specs.Fields.{pairs}
use Rattle.replay.proofs.fields.image.Given as goal

abbrev pub invariant-loop-high : goal.invariant-loop-high
invariant-loop-high l = take (2 * l.high-index) l.fn.text ≡ pairs l.out.items
