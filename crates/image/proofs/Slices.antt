-- A record read out of its own bytes alone is the record. Assumes nothing.
use Prim.Native.Nat.{ℕ, ◌+◌, ◌-◌, ◌<◌}
use mathlib.Core.Path.{◌≡◌, ◌∙◌}
use mathlib.Core.List.{List}
use lib.ListN.{take, drop}
use lib.Seq.{get_or-take, get_or-drop}
use native.Mathlib.Omega.{arith}
use native.Mathlib.Nat.{add-zero}
use Rattle.basis.specs.Bytes.{byte_at, half_at, word_at}
use Rattle.image.specs.Records.{header_of, function_at, form1_instr}

-- the bytes from lo up to hi, as code lends them
abbrev pub slice : List ℕ → ℕ → ℕ → List ℕ
slice s lo hi = take (hi - lo) (drop lo s)

module _ (s : List ℕ) (at n : ℕ) where
  byte_in : (i : ℕ) → i < n → byte_at (slice s at (at + n)) i ≡ byte_at s (at + i)
  unfolding byte_at
  byte_in i h = get_or-take (at + n - at) (drop at s) i 0 (omega arith) ∙ get_or-drop at s i 0

  half_in : (i : ℕ) → i + 1 < n → half_at (slice s at (at + n)) i ≡ half_at s (at + i)
  unfolding half_at
  half_in i h =
      let e : at + (i + 1) ≡ at + i + 1 = omega arith in
      rw (byte_in i (omega arith), byte_in (i + 1) h, e)

  word_in : (i : ℕ) → i + 3 < n → word_at (slice s at (at + n)) i ≡ word_at s (at + i)
  unfolding word_at
  word_in i h =
      let e : at + (i + 2) ≡ at + i + 2 = omega arith in
      rw (half_in i (omega arith), half_in (i + 2) (omega arith), e)

pub header_in_slice : (s : List ℕ) → header_of (slice s 0 24) ≡ header_of s
unfolding header_of
header_in_slice s =
    rw (
      half_in s 0 24 0 (omega arith),
      half_in s 0 24 2 (omega arith),
      word_in s 0 24 4 (omega arith),
      word_in s 0 24 8 (omega arith),
      word_in s 0 24 12 (omega arith),
      word_in s 0 24 16 (omega arith),
      word_in s 0 24 20 (omega arith),
    )

pub function_in_slice : (s : List ℕ) (at : ℕ) → function_at (slice s at (at + 16)) 0 ≡ function_at s at
unfolding function_at
function_in_slice s at =
    rw (
      word_in s at 16 0 (omega arith),
      half_in s at 16 4 (omega arith),
      half_in s at 16 6 (omega arith),
      word_in s at 16 8 (omega arith),
      word_in s at 16 12 (omega arith),
      add-zero at,
    )

pub instr_in_slice : (s : List ℕ) (at : ℕ) → form1_instr (slice s at (at + 12)) 0 ≡ form1_instr s at
unfolding form1_instr
instr_in_slice s at =
    rw (
      byte_in s at 12 0 (omega arith),
      byte_in s at 12 1 (omega arith),
      half_in s at 12 2 (omega arith),
      half_in s at 12 4 (omega arith),
      half_in s at 12 6 (omega arith),
      word_in s at 12 8 (omega arith),
      add-zero at,
    )
