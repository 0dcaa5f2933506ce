-- The digest of a result.
use Rattle.std.specs.Prelude.{ℕ, ◌+◌, ◌*◌, ◌%◌, ◌^◌, bit_xor}
use Rattle.value.specs.declared.result.CoreResult.{CoreResult}
use Rattle.value.specs.Result.{status_word}
use Rattle.value.specs.Value.{kind_of, payload_of}

-- where every digest starts
abbrev pub offset : ℕ
offset = 0xcbf29ce484222325

-- 2^44 + 435. The published 64-bit FNV prime is 2^40 + 435; the engine that this one replaces has this one
abbrev pub multiplier : ℕ
multiplier = 2 ^ 44 + 435

-- one word goes in: exclusive or, then the product modulo 2^64
unfoldable pub mixed : ℕ → ℕ → ℕ
mixed acc word = bit_xor acc word * multiplier % 2 ^ 64

-- five words go in, in this order; the fourth is always 0
unfoldable pub digested : ℕ → ℕ → ℕ → ℕ → ℕ
digested status kind payload fuel = mixed (mixed (mixed (mixed (mixed offset status) kind) payload) 0) fuel

unfoldable pub result_digest : CoreResult → ℕ
result_digest r =
    digested (status_word r.status) (kind_of r.return_value) (payload_of r.return_value) r.fuel_used
