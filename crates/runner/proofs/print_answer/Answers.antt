-- The line is that of the bytes that were held, which are the input's.
use Rattle.std.proofs.Common.{arith}
use Rattle.runner.proofs.Answered.{line_of_bytes, of_mapped}
use Rattle.runner.proofs.print_answer.Goals as goal

pub returns : goal.returns
returns g c = line_of_bytes _ _ _ c.in_ok-held.held c.read_image.new.image _ _ 32768 1 _ _ c.write_line.result c.map_err-2.result (omega arith) (omega arith) (of_mapped _ _ _ _ _ c.read_image.result c.map_err.result c.in_ok-held.held c.map_err.ensures.cases c.map_err.ensures.variant c.in_ok-held.was c.read_image.ensures.whole) c.answer-count.ensures.line_after c.write_line.ensures c.map_err-2.ensures.variant
