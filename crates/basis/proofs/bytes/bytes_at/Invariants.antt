use Rattle.std.proofs.Common.{◌≡◌, ◌<◌, ℕ, length, slice_index}
use Rattle.basis.specs.Bytes.{byte_at}
use Rattle.basis.proofs.bytes.bytes_at.Given as goal

abbrev pub invariant-loop-k : goal.invariant-loop-k
invariant-loop-k g l = record {
  whole : length l.byte-items ≡ g.row.N;
  read : (j : ℕ) → j < l.k → slice_index l.byte-items j ≡ byte_at l.rest j;
}
