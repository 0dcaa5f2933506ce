-- Laws of a part of a list and of what stands once it is put back: what a window lent out of the registers needs. Assumes nothing.
use Prim.Native.Nat.{ℕ, ◌+◌, ◌-◌, ◌≤◌, ◌<◌}
use mathlib.Core.Path.{◌≡◌, sym, ap, ◌∙◌, subst}
use mathlib.Core.List.{List, ◌++◌}
use native.Mathlib.Omega.{arith}
use lib.ListN.{length, get_or, take, drop, length-append, length-drop, take-append-drop, get_or-append}
use lib.Seq.{length-take-le, take_at, drop_at, get_or-append-add, get_or-take, get_or-drop}
use Rattle.exec.specs.Lent.{part, put}

-- as the code lends it: from lo to lo + k
pub part_lent : (xs : List ℕ) (lo k : ℕ) → take (lo + k - lo) (drop lo xs) ≡ part xs lo k
part_lent xs lo k = let e : lo + k - lo ≡ k = omega arith in rw e

-- as it comes back
pub put_lent : (xs : List ℕ) (lo k : ℕ) (ys : List ℕ) → take lo xs ++ (ys ++ drop (lo + k - lo) (drop lo xs)) ≡ put xs lo k ys
put_lent xs lo k ys = let e : lo + k - lo ≡ k = omega arith in rw e

pub put_part : (xs : List ℕ) (a k : ℕ) → put xs a k (part xs a k) ≡ xs
put_part xs a k = rw (take-append-drop k (drop a xs), take-append-drop a xs)

module _ (xs : List ℕ) (a k : ℕ) (fits : a + k ≤ length xs) where
  front : length (take a xs) ≡ a
  front = length-take-le a xs (omega arith)

  pub length_part : length (part xs a k) ≡ k
  length_part = length-take-le k (drop a xs) (simp length-drop (omega arith))

  pub length-put : (ys : List ℕ) → length ys ≡ k → length (put xs a k ys) ≡ length xs
  length-put ys e = simp (length-append, front, e, length-drop) (omega arith)

  pub part_put : (ys : List ℕ) → length ys ≡ k → part (put xs a k ys) a k ≡ ys
  part_put ys e = ap (take k) (drop_at (take a xs) (ys ++ drop k (drop a xs)) a front) ∙ take_at ys (drop k (drop a xs)) k e

  pub put_put : (ys zs : List ℕ) → length ys ≡ k → put (put xs a k ys) a k zs ≡ put xs a k zs
  put_put ys zs e =
      let f : take a (put xs a k ys) ≡ take a xs = take_at (take a xs) (ys ++ drop k (drop a xs)) a front in
      let g : drop a (put xs a k ys) ≡ ys ++ drop k (drop a xs) = drop_at (take a xs) (ys ++ drop k (drop a xs)) a front in
      let h : drop k (ys ++ drop k (drop a xs)) ≡ drop k (drop a xs) = drop_at ys (drop k (drop a xs)) k e in
      rw (f, g, h)

  -- read and stored through the part is read and stored in the whole
  pub get_or-part : (r : ℕ) → r < k → get_or (part xs a k) r 0 ≡ get_or xs (a + r) 0
  get_or-part r h = get_or-take k (drop a xs) r 0 h ∙ get_or-drop a xs r 0

  -- and a word of the whole is one of the part, or as it was
  pub put_low : (ys : List ℕ) (j : ℕ) → j < a → get_or (put xs a k ys) j 0 ≡ get_or xs j 0
  put_low ys j h = get_or-append (take a xs) (ys ++ drop k (drop a xs)) 0 j (rw front h) ∙ get_or-take a xs j 0 h

  pub put_in : (ys : List ℕ) (j : ℕ) → length ys ≡ k → j < k → get_or (put xs a k ys) (a + j) 0 ≡ get_or ys j 0
  put_in ys j e h =
      sym (get_or-drop a (put xs a k ys) j 0)
      ∙ ap (λ (l : List ℕ). get_or l j 0) (drop_at (take a xs) (ys ++ drop k (drop a xs)) a front)
      ∙ get_or-append ys (drop k (drop a xs)) 0 j (rw e h)

  pub put_high : (ys : List ℕ) (r : ℕ) → length ys ≡ k → get_or (put xs a k ys) (a + (k + r)) 0 ≡ get_or xs (a + (k + r)) 0
  put_high ys r e =
      subst (λ (m : ℕ). get_or (put xs a k ys) (m + (k + r)) 0 ≡ get_or (ys ++ drop k (drop a xs)) (k + r) 0) front (get_or-append-add (take a xs) (ys ++ drop k (drop a xs)) (k + r) 0)
      ∙ subst (λ (m : ℕ). get_or (ys ++ drop k (drop a xs)) (m + r) 0 ≡ get_or (drop k (drop a xs)) r 0) e (get_or-append-add ys (drop k (drop a xs)) r 0)
      ∙ get_or-drop k (drop a xs) r 0
      ∙ get_or-drop a xs (k + r) 0
