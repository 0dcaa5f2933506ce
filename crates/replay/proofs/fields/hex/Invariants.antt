use Rattle.std.proofs.Common.{◌≡◌, ◌^◌, ◌<◌, take}
use Rattle.text.specs.Digits.{digits}
use Rattle.replay.proofs.fields.hex.Given as goal

abbrev pub invariant-loop-byte : goal.invariant-loop-byte
invariant-loop-byte l = (take l.byte-index l.text ≡ digits 16 l.byte-index l.number) × (l.number < 16 ^ l.byte-index)
