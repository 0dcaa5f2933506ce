-- Numbers in bytes: the least byte first. A byte past the end counts as 0, so that a number stands at every place of every list.
use Rattle.std.specs.Prelude.{ℕ, ◌+◌, ◌*◌, ◌^◌, List, get_or}

unfoldable pub byte_at : List ℕ → ℕ → ℕ
byte_at bytes i = get_or bytes i 0

-- two bytes
unfoldable pub half_at : List ℕ → ℕ → ℕ
half_at bytes i = byte_at bytes i + byte_at bytes (i + 1) * 2 ^ 8

-- four bytes
unfoldable pub word_at : List ℕ → ℕ → ℕ
word_at bytes i = half_at bytes i + half_at bytes (i + 2) * 2 ^ 16
