-- Words that agree in two lists still do after the same stores, and words that are stored agree. Assumes nothing.
use Prim.Native.Nat.{ℕ, suc, ◌+◌, ◌-◌, ◌≤◌, ◌<◌, max}
use mathlib.Core.Path.{◌≡◌, refl, sym, ◌∙◌, subst}
use mathlib.Core.Bool.{Bool, true, false}
use mathlib.Core.List.{List, [], ◌∷◌}
use native.Mathlib.Nat.{le-max_left, le-max_right}
use native.Mathlib.Omega.{arith}
use lib.Dec.{ltb, eqb}
use lib.ListN.{length, get_or, set, length-set}
use lib.Seq.{sets, get_or-set_same, get_or-set_other, length-sets, ext_get_or}
use borrow.Author.Tests.{ltb-true, ltb-false, eqb-true, eqb-false}
use Rattle.exec.specs.Lent.{part, put}
use Rattle.exec.proofs.Parts.{length_part, length-put, get_or-part, put_low, put_in, put_high}
use Rattle.exec.proofs.Lists.{get_or-sets_in}
use Rattle.twins.specs.Twins.{Agree}

-- fewer words
pub less : (n k : ℕ) (xs ys : List ℕ) → k ≤ n → Agree n xs ys → Agree k xs ys
less n k xs ys l h = record { left = omega (arith, h.left); right = omega (arith, h.right); words = λ j q. h.words j (omega arith) }

-- the same part of both
pub part_same : (n : ℕ) (xs ys : List ℕ) (a k : ℕ) → Agree n xs ys → a + k ≤ n → part ys a k ≡ part xs a k
part_same n xs ys a k h l =
    let fx : a + k ≤ length xs = omega (arith, h.left) in
    let fy : a + k ≤ length ys = omega (arith, h.right) in
    ext_get_or 0 (part ys a k) (part xs a k) (length_part ys a k fy ∙ sym (length_part xs a k fx)) (λ i q.
    let r : i < k = rw (length_part ys a k fy) at q in
    get_or-part ys a k fy i r ∙ sym (h.words (a + i) (omega arith)) ∙ sym (get_or-part xs a k fx i r))

-- ---- one store
store_word : (xs ys : List ℕ) (a v j : ℕ) → a < length xs → a < length ys → get_or xs j 0 ≡ get_or ys j 0 → get_or (set xs a v) j 0 ≡ get_or (set ys a v) j 0
store_word xs ys a v j x y h = go (eqb j a) refl
  where
    go : (b : Bool) → eqb j a ≡ b → get_or (set xs a v) j 0 ≡ get_or (set ys a v) j 0
    go true e = rw (eqb-true j a e, get_or-set_same xs a v 0 x, get_or-set_same ys a v 0 y)
    go false e = rw (get_or-set_other xs a j v 0 (eqb-false j a e), get_or-set_other ys a j v 0 (eqb-false j a e)) h

pub set_agrees : (n : ℕ) (xs ys : List ℕ) (a v : ℕ) → Agree n xs ys → a < n → Agree n (set xs a v) (set ys a v)
set_agrees n xs ys a v h l = record {
  left = rw length-set h.left;
  right = rw length-set h.right;
  words = λ j q. store_word xs ys a v j (omega (arith, h.left)) (omega (arith, h.right)) (h.words j q);
}

-- ---- a part put back
module _ (n : ℕ) (xs ys : List ℕ) (a k : ℕ) (vs : List ℕ) (h : Agree n xs ys) (e : length vs ≡ k) (fits : a + k ≤ n) where
  fits_left : a + k ≤ length xs
  fits_left = omega (arith, h.left)

  fits_right : a + k ≤ length ys
  fits_right = omega (arith, h.right)

  put_word : (j : ℕ) → j < n → get_or (put xs a k vs) j 0 ≡ get_or (put ys a k vs) j 0
  put_word j q = go (ltb j a) refl (ltb j (a + k)) refl
    where
      go : (b : Bool) → ltb j a ≡ b → (c : Bool) → ltb j (a + k) ≡ c → get_or (put xs a k vs) j 0 ≡ get_or (put ys a k vs) j 0
      go true x c y = rw (put_low xs a k fits_left vs j (ltb-true _ _ x), put_low ys a k fits_right vs j (ltb-true _ _ x)) (h.words j q)
      go false x true y =
          let l : a ≤ j = ltb-false _ _ x in
          let m : j < a + k = ltb-true _ _ y in
          let z : a + (j - a) ≡ j = omega arith in
          subst (λ (i : ℕ). get_or (put xs a k vs) i 0 ≡ get_or (put ys a k vs) i 0) z
          (put_in xs a k fits_left vs (j - a) e (omega arith) ∙ sym (put_in ys a k fits_right vs (j - a) e (omega arith)))
      go false x false y =
          let m : a + k ≤ j = ltb-false _ _ y in
          let z : a + (k + (j - a - k)) ≡ j = omega arith in
          subst (λ (i : ℕ). get_or (put xs a k vs) i 0 ≡ get_or (put ys a k vs) i 0) z
          (put_high xs a k fits_left vs (j - a - k) e ∙ h.words (a + (k + (j - a - k))) (omega arith) ∙ sym (put_high ys a k fits_right vs (j - a - k) e))

  pub put_agrees : Agree n (put xs a k vs) (put ys a k vs)
  put_agrees = record {
    left = rw (length-put xs a k fits_left vs e) h.left;
    right = rw (length-put ys a k fits_right vs e) h.right;
    words = put_word;
  }

-- ---- stores side by side, which may reach past what agreed before
sets_word : (vs xs ys : List ℕ) (a j : ℕ) → a + length vs ≤ length xs → a + length vs ≤ length ys → get_or xs j 0 ≡ get_or ys j 0 → get_or (sets xs a vs) j 0 ≡ get_or (sets ys a vs) j 0
sets_word [] xs ys a j x y h = h
sets_word (v ∷ vs) xs ys a j x y h =
    sets_word vs (set xs a v) (set ys a v) (suc a) j (rw length-set (omega arith)) (rw length-set (omega arith)) (store_word xs ys a v j (omega arith) (omega arith) h)

module _ (n : ℕ) (xs ys : List ℕ) (a : ℕ) (vs : List ℕ) (h : Agree n xs ys) (from : a ≤ n) (x : a + length vs ≤ length xs) (y : a + length vs ≤ length ys) where
  -- up to the farther of the two
  pub reach : ℕ
  reach = max n (a + length vs)

  pub reach_old : n ≤ max n (a + length vs)
  reach_old = le-max_left n (a + length vs)

  pub reach_new : a + length vs ≤ max n (a + length vs)
  reach_new = le-max_right n (a + length vs)

  set_words : (j : ℕ) → j < max n (a + length vs) → get_or (sets xs a vs) j 0 ≡ get_or (sets ys a vs) j 0
  set_words j q = go (ltb j n) refl
    where
      go : (b : Bool) → ltb j n ≡ b → get_or (sets xs a vs) j 0 ≡ get_or (sets ys a vs) j 0
      go true e = sets_word vs xs ys a j x y (h.words j (ltb-true _ _ e))
      go false e =
          let l : n ≤ j = ltb-false _ _ e in
          let m : j < a + length vs = omega arith in
          let z : a + (j - a) ≡ j = omega arith in
          subst (λ (i : ℕ). get_or (sets xs a vs) i 0 ≡ get_or (sets ys a vs) i 0) z
          (get_or-sets_in xs a vs (j - a) x (omega arith) ∙ sym (get_or-sets_in ys a vs (j - a) y (omega arith)))

  pub sets_agree : Agree (max n (a + length vs)) (sets xs a vs) (sets ys a vs)
  sets_agree = record {
    left = rw length-sets (omega (arith, h.left));
    right = rw length-sets (omega (arith, h.right));
    words = set_words;
  }
