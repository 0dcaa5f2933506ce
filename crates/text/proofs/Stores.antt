-- Laws of digits put one before the other. Assumes nothing.
use Prim.Native.Nat.{ℕ, zero, suc, ◌+◌, ◌/◌, ◌%◌, ◌≤◌}
use mathlib.Core.Path.{◌≡◌, refl}
use mathlib.Core.List.{List, ◌++◌, append_assoc}
use native.Mathlib.Numerals.{add-one}
use native.Mathlib.Omega.{arith}
use lib.ListN.{length, set, drop, length-append}
use Rattle.std.proofs.lemmas.List.{drop-set}
use Rattle.text.specs.Digits.{digit, digits}

pub length_digits : (base k n : ℕ) → length (digits base k n) ≡ k
unfolding digits
length_digits base zero n = refl
length_digits base (suc k) n = rw (length-append, length_digits base k (n / base)) (omega arith)

-- one more digit, the last of those left, before those that are there
pub digit_before : (l : List ℕ) (base place k n glyph : ℕ) → k + 1 ≡ place → place ≤ length l → glyph ≡ digit (n % base)
    → digits base place n ++ drop place l ≡ digits base k (n / base) ++ drop k (set l k glyph)
unfolding digits
digit_before l base zero k n glyph e h is = absurd (omega arith)
digit_before l base (suc p) k n glyph e h is =
    let same : k ≡ p = omega arith in
    rw (same, append_assoc, is, drop-set l p (digit (n % base)) (omega arith), add-one)
