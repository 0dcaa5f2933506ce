use Rattle.std.proofs.Common.{rules, inr, ◌≡◌, sym, ap, ◌∙◌, ◌+◌, ◌*◌, ◌<◌, ◌%◌, [], ◌∷◌, ◌++◌, length}
use Rattle.replay.specs.Fields.{pairs}
use Rattle.replay.proofs.Spelled.{no_pair, byte_more, bytes_all}
use Rattle.replay.proofs.fields.image.Goals as goal

-- before the first pair
pub loop-high-init : goal.loop-high-init
loop-high-init c = no_pair ∙ sym (ap pairs c.clear.ensures)

-- after one more
pub loop-high-preserved : goal.loop-high-preserved
loop-high-preserved c =
    let pushed : c.try_push.new.self.items ≡ c.loop-high.out.items ++ (c.in_ok-hex_digit.field-0 * 16 + c.in_ok-byte.field-0) ∷ [] = search rules in
    byte_more c.args.text.now c.loop-high.out.items c.try_push.new.self.items c.as_chunks.result.0.now c.loop-high.high-index c.in_ok-hex_digit.field-0 c.in_ok-byte.field-0 c.as_chunks.ensures.front c.as_chunks.ensures.front_len c.loop-high-test.true c.in_ok-hex_digit.ensures c.in_ok-byte.ensures pushed c.loop-high.invariant

-- after the last
pub returns : goal.returns
returns c =
    let even : length c.args.text.now % 2 ≡ 0 = search rules in
    let some : 0 < length c.args.text.now = search rules in
    inr (some, bytes_all c.args.text.now c.loop-high.out.items c.loop-high.high-index (search rules) even c.loop-high.invariant)
