-- Identifiers of different events differ. Assumes nothing.
use Prim.Native.Nat.{ℕ, zero, suc, ◌*◌, ◌/◌, ◌%◌, ◌^◌, ◌<◌}
use mathlib.Core.Path.{◌≡◌, sym, ap, ◌∙◌, subst}
use mathlib.Core.List.{List, [], ◌∷◌, ◌++◌}
use native.Mathlib.Nat.{pow-succ'}
use native.Mathlib.Omega.{arith}
use lib.ListN.{length, get_or, take, drop}
use lib.Seq.{take-append_seam, drop-append_seam}
use Rattle.text.specs.Digits.{digit, digits}
use Rattle.text.specs.Identifier.{identifier, Apart}
use Rattle.text.proofs.Glyphs.{value, value_digit}
use Rattle.text.proofs.Stores.{length_digits}

-- two lists of one length, each with an element after it
ends : (xs ys : List ℕ) (a b : ℕ) (t u : List ℕ) → length xs ≡ length ys → xs ++ (a ∷ t) ≡ ys ++ (b ∷ u) → (xs ≡ ys) × (a ∷ t ≡ b ∷ u)
ends xs ys a b t u h e = (
  sym (take-append_seam xs (a ∷ t)) ∙ ap (take (length xs)) e ∙ ap (λ (k : ℕ). take k (ys ++ (b ∷ u))) h ∙ take-append_seam ys (b ∷ u),
  sym (drop-append_seam xs (a ∷ t)) ∙ ap (drop (length xs)) e ∙ ap (λ (k : ℕ). drop k (ys ++ (b ∷ u))) h ∙ drop-append_seam ys (b ∷ u),
)

sixteenth : (n p : ℕ) → n < 16 * p → n / 16 < p
sixteenth n p h = omega arith

-- a number that k digits hold is told by them
digits_tell : (k n m : ℕ) → n < 16 ^ k → m < 16 ^ k → digits 16 k n ≡ digits 16 k m → n ≡ m
unfolding digits
digits_tell zero n m hn hm e = omega arith
digits_tell (suc k) n m hn hm e =
    let both = ends (digits 16 k (n / 16)) (digits 16 k (m / 16)) (digit (n % 16)) (digit (m % 16)) [] [] (length_digits 16 k (n / 16) ∙ sym (length_digits 16 k (m / 16))) e in
    let high = digits_tell k (n / 16) (m / 16) (sixteenth n (16 ^ k) (subst (λ (p : ℕ). n < p) (pow-succ' 16 k) hn)) (sixteenth m (16 ^ k) (subst (λ (p : ℕ). m < p) (pow-succ' 16 k) hm)) both.0 in
    let same = ap (λ (l : List ℕ). value (get_or l 0 0)) both.1 in
    let low : n % 16 ≡ m % 16 = sym (value_digit (n % 16) (omega arith)) ∙ same ∙ value_digit (m % 16) (omega arith) in
    omega arith

pub identifiers_apart : Apart
unfolding identifier
identifiers_apart l d l' d' hl hd hl' hd' = (
  λ e. let both = ends (digits 16 8 l) (digits 16 8 l') 45 45 (digits 16 16 d) (digits 16 16 d') (length_digits 16 8 l ∙ sym (length_digits 16 8 l')) e in
      (digits_tell 8 l l' hl hl' both.0, digits_tell 16 d d' hd hd' (ap (drop 1) both.1)),
  λ e. rw (e.0, e.1),
)
