-- An answer that is there exactly where a fact holds, where it does. Assumes nothing.
use Prim.Native.Nat.{ℕ}
use mathlib.Core.Path.{◌≡◌, refl, sym, ap, ◌∙◌}
use native.Mathlib.Omega.{arith}
use Rattle.std.specs.Prelude.{Option, Some, None, SomeIff, is_some, true}

pub there : {A : Type 0} (r : Option A) (P : Type 0) (v : A) → SomeIff r P v → P → is_some r ≡ true
there (Some x) P v h p = refl
there None P v h p = absurd (h p)

-- and what it is, once it was found there
pub got : {A : Type 0} (r : Option A) (P : Type 0) (v x : A) → SomeIff r P v → r ≡ Some x → x ≡ v
got (Some y) P v x h e = let same : y ≡ x = cc in sym same ∙ h.1
got None P v x h e = absurd (let z : ◌≡◌ {A = ℕ} 0 1 = cc in omega arith)

-- just one answer is there exactly where a fact holds, and this value then
pub same_found : {A : Type 0} (x y : Option A) (P : Type 0) (v : A) → SomeIff x P v → SomeIff y P v → x ≡ y
same_found (Some a) (Some b) P v h k = ap Some (h.1 ∙ sym k.1)
same_found (Some a) None P v h k = absurd (k h.0)
same_found None (Some b) P v h k = absurd (h k.0)
same_found None None P v h k = refl
