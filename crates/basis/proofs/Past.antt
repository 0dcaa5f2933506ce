-- Past the end of the bytes every number is 0, and what lies from a place on has the bytes after it. Assumes nothing.
use Prim.Native.Nat.{ℕ, ◌+◌, ◌-◌, ◌≤◌}
use mathlib.Core.Path.{◌≡◌, sym}
use mathlib.Core.Logic.{⊎_elim}
use mathlib.Core.List.{List, []}
use denote.Ref.{Bor}
use lib.ListN.{length, drop, get_or-eq_default, length-drop}
use lib.Seq.{take_all}
use Rattle.std.proofs.Common.{get_or-drop}
use native.Mathlib.Omega.{arith}
use Rattle.std.specs.Prelude.{Option, Some, None}
use Rattle.std.specs.Option.{unwrap_or}
use Rattle.std.specs.Slice.{IsGetRangeResult}
use Rattle.basis.specs.Bytes.{byte_at, half_at, word_at}

module _ (bytes : List ℕ) where
  pub byte_past : (i : ℕ) → length bytes ≤ i → byte_at bytes i ≡ 0
  unfolding byte_at
  byte_past i l = get_or-eq_default bytes 0 l

  pub half_past : (i : ℕ) → length bytes ≤ i → half_at bytes i ≡ 0
  unfolding half_at
  half_past i l = rw (byte_past i l, byte_past (i + 1) (omega arith))

  pub word_past : (i : ℕ) → length bytes ≤ i → word_at bytes i ≡ 0
  unfolding word_at
  word_past i l = rw (half_past i l, half_past (i + 2) (omega arith))

  -- the rest of the bytes from place i on, where there is one
  pub rest_at : (i k : ℕ) (r : Option (Bor (List ℕ))) (none : Bor (List ℕ)) → none.now ≡ []
      → IsGetRangeResult bytes i (length bytes) r → byte_at (unwrap_or r none).now k ≡ byte_at bytes (i + k)
  unfolding byte_at
  rest_at i k None none e p = rw e (sym (get_or-eq_default bytes 0 (⊎_elim (λ l. omega arith) (λ l. absurd (omega arith)) p.0)))
  rest_at i k (Some x) none e p = rw (p.0.2, take_all (length bytes - i) (drop i bytes) (simp length-drop (omega arith))) (get_or-drop i bytes k 0)
