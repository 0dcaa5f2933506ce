use Rattle.std.proofs.Common.{rules, ◌≡◌, ◌+◌, ◌*◌}
use Rattle.replay.proofs.Spelled.{digit_more, weight_more}
use Rattle.replay.proofs.fields.hex.Goals as goal

-- after one more digit
pub loop-byte-preserved : goal.loop-byte-preserved
loop-byte-preserved c =
    let is : c.in_ok-number.number ≡ c.loop-byte.number * 16 + c.in_ok-hex_digit.field-0 = search rules in (
      rw is (digit_more c.args.text.now c.loop-byte.byte-index c.loop-byte.number c.in_ok-hex_digit.field-0 c.loop-byte-test.true c.in_ok-hex_digit.ensures.0 c.in_ok-hex_digit.ensures.1 c.loop-byte.invariant.0),
      rw is (weight_more c.loop-byte.byte-index c.loop-byte.number c.in_ok-hex_digit.field-0 c.in_ok-hex_digit.ensures.0 c.loop-byte.invariant.1),
    )
