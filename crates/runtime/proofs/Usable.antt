-- A profile has no fault exactly where it is usable: the two ways of saying the rule agree. Assumes nothing.
use Prim.Native.Nat.{ℕ, zero, suc, ◌<◌}
use mathlib.Core.Bool.{Bool, true, false}
use mathlib.Core.Path.{◌≡◌, refl}
use mathlib.Core.List.{List, [], ◌∷◌}
use native.Mathlib.Omega.{arith}
use borrow.Author.Tests.{le-ltb, ltb-false, ne_eqb, eqb-false}
use Rattle.basis.specs.Choice.{pick}
use Rattle.basis.specs.Answers.{or_else, under}
use Rattle.runtime.specs.declared.CoreAdmissionProfile.{CoreAdmissionProfile}
use Rattle.runtime.specs.Profile.{Limit, limits, is_zero, is_unbounded, first_number, profile_fault, InBounds, Usable}

-- the test finds none of the limits
abbrev Free : (Limit → Bool) → List Limit → Type 0
Free found [] = Unit {0}
Free found (l ∷ ls) = (found l ≡ false) × Free found ls

not_picked : (b : Bool) (n : ℕ) (ns : List ℕ) → pick b (n ∷ []) ns ≡ [] → (b ≡ false) × (ns ≡ [])
not_picked true n ns e = let z : ◌≡◌ {A = ℕ} 0 1 = cc in absurd (omega arith)
not_picked false n ns e = (refl, e)

none_free : (found : Limit → Bool) (n : ℕ) (ls : List Limit) → first_number found n ls ≡ [] → Free found ls
none_free found n [] e = tt
none_free found n (l ∷ ls) e =
    let h = not_picked (found l) n (first_number found (suc n) ls) e in
    (h.0, none_free found (suc n) ls h.1)

free_none : (found : Limit → Bool) (n : ℕ) (ls : List Limit) → Free found ls → first_number found n ls ≡ []
free_none found n [] f = refl
free_none found n (l ∷ ls) f = rw f.0 (free_none found (suc n) ls f.1)

bounded_free : (ls : List Limit) → InBounds ls → Free is_zero ls × Free is_unbounded ls
bounded_free [] b = (tt, tt)
bounded_free (l ∷ ls) b =
    let f = bounded_free ls b.1 in
    ((ne_eqb l.value 0 (λ e. omega arith), f.0), (le-ltb l.bound l.value b.0.1, f.1))

above_zero : (n : ℕ) → (n ≡ 0 → ⊥) → 0 < n
above_zero zero f = absurd (f refl)
above_zero (suc n) f = omega arith

free_bounded : (ls : List Limit) → Free is_zero ls → Free is_unbounded ls → InBounds ls
free_bounded [] f g = tt
free_bounded (l ∷ ls) f g =
    ((above_zero l.value (eqb-false l.value 0 f.0), ltb-false l.bound l.value g.0), free_bounded ls f.1 g.1)

both_none : (a b : List ℕ) → or_else (under 0 a) (under 1 b) ≡ [] → (a ≡ []) × (b ≡ [])
both_none [] [] e = (refl, refl)
both_none [] (n ∷ b) e = let z : ◌≡◌ {A = ℕ} 0 1 = cc in absurd (omega arith)
both_none (n ∷ a) b e = let z : ◌≡◌ {A = ℕ} 0 1 = cc in absurd (omega arith)

pub usable_valid : (p : CoreAdmissionProfile) → Usable p → profile_fault p ≡ []
unfolding profile_fault
usable_valid p u =
    let f = bounded_free (limits p) u in
    rw (free_none is_zero 1 (limits p) f.0, free_none is_unbounded 1 (limits p) f.1)

pub valid_usable : (p : CoreAdmissionProfile) → profile_fault p ≡ [] → Usable p
unfolding profile_fault
valid_usable p e =
    let h = both_none (first_number is_zero 1 (limits p)) (first_number is_unbounded 1 (limits p)) e in
    free_bounded (limits p) (none_free is_zero 1 (limits p) h.0) (none_free is_unbounded 1 (limits p) h.1)
