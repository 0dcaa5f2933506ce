-- Records past the end of the bytes are all zeros. Assumes nothing.
use Prim.Native.Nat.{ℕ, ◌+◌, ◌≤◌}
use mathlib.Core.Path.{◌≡◌}
use mathlib.Core.List.{List}
use lib.ListN.{length}
use native.Mathlib.Omega.{arith}
use Rattle.basis.proofs.Past.{byte_past, half_past, word_past}
use Rattle.image.specs.Records.{function_at, form1_instr}

module _ (s : List ℕ) (at : ℕ) (l : length s ≤ at) where
  pub function_past : function_at s at ≡ record { name = 0; regs = 0; zero = 0; first = 0; count = 0 }
  unfolding function_at
  function_past =
      rw (word_past s at l, half_past s (at + 4) (omega arith), half_past s (at + 6) (omega arith), word_past s (at + 8) (omega arith), word_past s (at + 12) (omega arith))

  pub instr_past : form1_instr s at ≡ record { op = 0; small = 0; a = 0; b = 0; c = 0; w = 0 }
  unfolding form1_instr
  instr_past =
      rw (byte_past s at l, byte_past s (at + 1) (omega arith), half_past s (at + 2) (omega arith), half_past s (at + 4) (omega arith), half_past s (at + 6) (omega arith), word_past s (at + 8) (omega arith))
