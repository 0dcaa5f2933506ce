-- Laws of the first of n answers that finds something wrong, as a loop that looks for it needs them. Assumes nothing.
use Prim.Native.Nat.{ℕ, zero, suc, ◌+◌, ◌≤◌, ◌<◌}
use mathlib.Core.Path.{◌≡◌, refl, sym, ◌∙◌, ap, subst}
use mathlib.Core.List.{List, [], ◌∷◌}
use mathlib.Core.Logic.{⊎_elim}
use native.Mathlib.Nat.{eq-or-lt_of_le, le_of_suc-le-suc, not-suc-le-zero}
use native.Mathlib.Numerals.{add-one}
use native.Mathlib.Omega.{arith}
use mathlib.Core.Bool.{true, false}
use Rattle.basis.specs.Answers.{is_fine, or_else, first_of}

pub or_nothing : (a : List ℕ) → or_else a [] ≡ a
or_nothing [] = refl
or_nothing (n ∷ ns) = refl

-- where the first of two finds nothing, neither does
pub or_split : (a b : List ℕ) → or_else a b ≡ [] → (a ≡ []) × (b ≡ [])
or_split [] b e = (refl, e)
or_split (n ∷ ns) b e = let z : ◌≡◌ {A = ℕ} 0 1 = cc in absurd (omega arith)

-- an answer that finds nothing is the empty one
pub fine_nothing : (a : List ℕ) → is_fine a ≡ true → a ≡ []
fine_nothing [] e = refl
fine_nothing (n ∷ ns) e = cc

-- the first of two by the test of the first
pub or_unfine : (a b : List ℕ) → is_fine a ≡ false → or_else a b ≡ a
or_unfine [] b e = cc
or_unfine (n ∷ ns) b e = refl

module _ (f : ℕ → List ℕ) where
  -- the start of a loop
  pub first_none : first_of f 0 ≡ []
  unfolding first_of
  first_none = refl

  -- a turn that found nothing
  pub first_more : (i : ℕ) → first_of f i ≡ [] → f i ≡ [] → first_of f (i + 1) ≡ []
  unfolding first_of
  first_more i p q = rw (add-one, p) q

  first_kept : (i n x : ℕ) (xs : List ℕ) → i ≤ n → first_of f i ≡ x ∷ xs → first_of f n ≡ x ∷ xs
  unfolding first_of
  first_kept i zero x xs l e = let z : zero ≡ i = omega arith in ap (first_of f) z ∙ e
  first_kept i (suc n) x xs l e =
      ⊎_elim (λ q. ap (first_of f) (sym q) ∙ e)
      (λ q. rw (first_kept i n x xs (le_of_suc-le-suc q) e)) (eq-or-lt_of_le l)

  -- a turn that found something
  pub first_here : (i n x : ℕ) (xs : List ℕ) → i < n → first_of f i ≡ [] → f i ≡ x ∷ xs → first_of f n ≡ x ∷ xs
  unfolding first_of
  first_here i n x xs l p q = first_kept (suc i) n x xs l (rw p q)

  pub first_found : (i n : ℕ) (a : List ℕ) → i < n → first_of f i ≡ [] → a ≡ f i → is_fine a ≡ false → a ≡ first_of f n
  first_found i n [] l p q e = cc
  first_found i n (x ∷ xs) l p q e = sym (first_here i n x xs l p (sym q))

  -- nothing is found exactly where no place has anything wrong
  pub first_all : (n : ℕ) → ((k : ℕ) → k < n → f k ≡ []) → first_of f n ≡ []
  unfolding first_of
  first_all zero h = refl
  first_all (suc n) h = rw (first_all n (λ k l. h k (omega arith))) (h n (omega arith))

  pub first_each : (n : ℕ) → first_of f n ≡ [] → (k : ℕ) → k < n → f k ≡ []
  unfolding first_of
  first_each zero e k l = absurd (not-suc-le-zero l)
  first_each (suc n) e k l =
      let h = or_split (first_of f n) (f n) e in
      ⊎_elim (λ s. subst (λ (x : ℕ). f x ≡ []) (sym s) h.1)
      (λ s. first_each n h.0 k s) (eq-or-lt_of_le (le_of_suc-le-suc l))

-- answers beyond the n do not matter
pub first_cong : (f g : ℕ → List ℕ) (n : ℕ) → ((k : ℕ) → k < n → f k ≡ g k) → first_of f n ≡ first_of g n
unfolding first_of
first_cong f g zero h = refl
first_cong f g (suc n) h = rw (first_cong f g n (λ k l. h k (omega arith)), h n (omega arith))
