use Rattle.std.proofs.Common.{◌≡◌, ◌+◌, ◌*◌, ◌++◌, ◌≤◌, drop, length}
use Rattle.text.specs.Line.{fields}
use Rattle.text.proofs.line.Line.of.Given as goal

-- what is written, with the fields that are to come, is the whole line
abbrev pub invariant-loop-n : goal.invariant-loop-n
invariant-loop-n l = record {
  whole : l.line ++ fields (drop l.n-index l.numbers) ≡ l.word ++ fields l.numbers;
  short : length l.line ≤ length l.word + 21 * l.n-index;
}
