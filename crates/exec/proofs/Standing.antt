-- Whether frames stand, test by test, and what follows where they do. Assumes nothing.
use Prim.Native.Nat.{ℕ, ◌+◌, ◌*◌, ◌-◌, ◌/◌, ◌≤◌, ◌<◌}
use mathlib.Core.Path.{◌≡◌, refl, sym, ◌∙◌, subst}
use mathlib.Core.Bool.{Bool, true, false, ◌||◌, ◌&&◌, true≢false}
use mathlib.Core.List.{List}
use native.Mathlib.Omega.{arith}
use lib.Dec.{ltb, leb, eqb}
use lib.ListN.{length}
use borrow.Author.Tests.{le-leb, lt-leb, le-ltb, lt-ltb, ne_eqb, leb-true, leb-false, ltb-true}
use Rattle.image.specs.Program.{Program}
use Rattle.image.specs.Parts.{functions_of, regs_of}
use Rattle.exec.specs.Lent.{function_word, first_word}
use Rattle.exec.specs.Step.{stands_at, stands}
use Rattle.exec.specs.Burst.{Frame, Ready}

both : (a b : Bool) → (a && b) ≡ true → (a ≡ true) × (b ≡ true)
both true b e = (refl, e)
both false b e = absurd (true≢false (sym e))

module _ (p : Program) (fr : List ℕ) (n k : ℕ) where
  pub no_record : length fr / 4 ≤ k → false ≡ stands_at p fr n k
  unfolding stands_at
  no_record h = let l : length fr < 4 * (k + 1) = omega arith in rw (lt-leb _ _ l)

  module _ (whole : 4 * (k + 1) ≤ length fr) (f : ℕ) (e : f ≡ function_word fr k) where
    pub no_function_lem : functions_of p ≤ f → false ≡ stands_at p fr n k
    unfolding stands_at
    no_function_lem h = let l : functions_of p ≤ function_word fr k = rw e at h in rw (le-leb _ _ whole, le-ltb _ _ l)

    module _ (exists : f < functions_of p) (first regs : ℕ) (a : first ≡ first_word fr k) (b : regs ≡ regs_of p f) where
      here : stands_at p fr n k ≡ leb (first + regs) n
      unfolding stands_at
      here = let l : function_word fr k < functions_of p = rw e at exists in rw (le-leb _ _ whole, lt-ltb _ _ l, b, e, a)

      pub no_registers : n < first → false ≡ stands_at p fr n k
      no_registers h = let l : n < first + regs = omega arith in sym (here ∙ lt-leb _ _ l)

      pub registers_fit : first ≤ n → leb regs (n - first) ≡ stands_at p fr n k
      registers_fit h = go (leb regs (n - first)) refl ∙ sym here
        where
          go : (c : Bool) → leb regs (n - first) ≡ c → leb regs (n - first) ≡ leb (first + regs) n
          go true q = let l : regs ≤ n - first = leb-true _ _ q in let m : first + regs ≤ n = omega arith in q ∙ sym (le-leb _ _ m)
          go false q = let l : n - first < regs = leb-false _ _ q in let m : n < first + regs = omega arith in q ∙ sym (lt-leb _ _ m)

  pub stands_frame : stands_at p fr n k ≡ true → (4 * (k + 1) ≤ length fr) × Frame p fr n k
  unfolding stands_at
  stands_frame e =
      let a = both (leb (4 * (k + 1)) (length fr)) (ltb (function_word fr k) (functions_of p) && leb (first_word fr k + regs_of p (function_word fr k)) n) e in
      let b = both (ltb (function_word fr k) (functions_of p)) (leb (first_word fr k + regs_of p (function_word fr k)) n) a.1 in
      (leb-true _ _ a.0, record { function = ltb-true _ _ b.0; registers = leb-true _ _ b.1 })

module _ (p : Program) (fr : List ℕ) (n d : ℕ) where
  pub none_stands : d ≡ 0 → false ≡ stands p fr n d
  unfolding stands
  none_stands e = rw e

  module _ (some : (d ≡ 0 → ⊥)) where
    pub top_falls : stands_at p fr n (d - 1) ≡ false → false ≡ stands p fr n d
    unfolding stands
    top_falls h = let l : 0 < d = omega arith in rw (lt-ltb _ _ l, h)

    pub entry_stands : stands_at p fr n (d - 1) ≡ true → d ≡ 1 → true ≡ stands p fr n d
    unfolding stands
    entry_stands h e = let l : 0 < d = omega arith in rw (lt-ltb _ _ l, h, e)

  pub stands_ready : stands p fr n d ≡ true → Ready p fr n d
  unfolding stands
  stands_ready e =
      let a = both (ltb 0 d) (stands_at p fr n (d - 1) && (eqb d 1 || stands_at p fr n (d - 2))) e in
      let b = both (stands_at p fr n (d - 1)) (eqb d 1 || stands_at p fr n (d - 2)) a.1 in
      let some : 0 < d = ltb-true 0 d a.0 in
      let top = stands_frame p fr n (d - 1) b.0 in
      record {
        some = some;
        room = let whole : 4 * (d - 1 + 1) ≤ length fr = top.0 in omega arith;
        top = top.1;
        below = λ two.
            let other : stands_at p fr n (d - 2) ≡ true = subst (λ (x : Bool). (x || stands_at p fr n (d - 2)) ≡ true) (ne_eqb d 1 (λ q. omega arith)) b.1 in
            let same : d - 2 ≡ d - 1 - 1 = omega arith in
            subst (Frame p fr n) same (stands_frame p fr n (d - 2) other).1;
      }
