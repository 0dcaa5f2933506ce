-- Laws of stores side by side. Assumes nothing.
use Prim.Native.Nat.{ℕ, zero, suc, ◌+◌, ◌≤◌, ◌<◌, ◌-◌}
use mathlib.Core.Path.{◌≡◌, refl, sym, ap, ◌∙◌}
use mathlib.Core.List.{List, [], ◌∷◌, ◌++◌}
use native.Mathlib.Nat.{add-zero, add-suc, suc-add, not-suc-le-zero, le_of_suc-le-suc}
use native.Mathlib.Omega.{arith}
use lib.ListN.{length, get_or, set, take, drop, replicate, length-set, length-drop, length-replicate}
use lib.Seq.{sets, paste, get_or-set_same, get_or-set_other, length-take-le}
use borrow.Rule.Slice.PartMut.{put_mid}
use Rattle.std.proofs.lemmas.List.{append_assoc}
use Rattle.std.proofs.lemmas.List.Edits.{sets-eq, paste_all}
use Rattle.std.proofs.lemmas.Slice.{put_mid-paste}

pub sets_append : (l : List ℕ) (d : ℕ) (vs ws : List ℕ) → sets l d (vs ++ ws) ≡ sets (sets l d vs) (d + length vs) ws
sets_append l d [] ws = rw add-zero
sets_append l d (a ∷ vs) ws = sets_append (set l d a) (suc d) vs ws ∙ ap (λ (k : ℕ). sets (sets (set l d a) (suc d) vs) k ws) (suc-add d (length vs) ∙ sym (add-suc d (length vs)))

pub get_or-sets_below : (l : List ℕ) (d j : ℕ) (vs : List ℕ) → j < d → get_or (sets l d vs) j 0 ≡ get_or l j 0
get_or-sets_below l d j [] h = refl
get_or-sets_below l d j (a ∷ vs) h = get_or-sets_below (set l d a) (suc d) j vs (omega arith) ∙ get_or-set_other l d j a 0 (λ e. omega arith)

pub get_or-sets_above : (l : List ℕ) (d j : ℕ) (vs : List ℕ) → d + length vs ≤ j → get_or (sets l d vs) j 0 ≡ get_or l j 0
get_or-sets_above l d j [] h = refl
get_or-sets_above l d j (a ∷ vs) h = get_or-sets_above (set l d a) (suc d) j vs (omega arith) ∙ get_or-set_other l d j a 0 (λ e. omega arith)

pub take_len : (l : List ℕ) (s d w : ℕ) → d ≤ length l → (1 ≤ w → s + w ≤ d) → length (take w (drop s l)) ≡ w
take_len l s d zero r h = refl
take_len l s d (suc w) r h =
    let k : s + suc w ≤ d = h (omega arith) in
    length-take-le (suc w) (drop s l) (simp length-drop (omega arith))

-- what `copy_within` leaves
pub copied : (l : List ℕ) (s d n : ℕ) → s + n ≤ length l → d + n ≤ length l → paste l d (drop s l) (s + n - s) ≡ sets l d (take n (drop s l))
copied l s d n from to =
    let many : s + n - s ≡ n = omega arith in
    let len : length (take n (drop s l)) ≡ n = length-take-le n (drop s l) (simp length-drop (omega arith)) in
    let whole : sets l d (take n (drop s l)) ≡ take d l ++ take n (drop s l) ++ drop (d + length (take n (drop s l))) l = sets-eq (take n (drop s l)) l d (rw len to) in
    rw many (sym (rw len at whole))

-- and `fill`, on a part
pub cleared : (l w : List ℕ) (d n : ℕ) → w ≡ replicate (length (take (d + n - d) (drop d l))) 0 → d + n ≤ length l
    → put_mid d (d + n - d) l w ≡ sets l d (replicate n 0)
cleared l w d n e to =
    let many : d + n - d ≡ n = omega arith in
    let len : length (take (d + n - d) (drop d l)) ≡ n = rw many (length-take-le n (drop d l) (simp length-drop (omega arith))) in
    let whole : sets l d (replicate n 0) ≡ take d l ++ replicate n 0 ++ drop (d + length (replicate {A = ℕ} n 0)) l = sets-eq (replicate n 0) l d (rw length-replicate to) in
    put_mid-paste d (d + n - d) l w (replicate n 0) n (rw len at e) (sym many) (sym (length-replicate n 0))
    ∙ paste_all l d (replicate n 0) n (sym (length-replicate n 0))
    ∙ sym (rw (length-replicate, append_assoc) at whole)

-- a copy and a clear right after it
pub push_regs : (l : List ℕ) (s d w n : ℕ) → d ≤ length l → (1 ≤ w → s + w ≤ d)
    → sets (sets l d (take w (drop s l))) (d + w) (replicate (n - w) 0) ≡ sets l d (take w (drop s l) ++ replicate (n - w) 0)
push_regs l s d w n r h = sym (rw (sets_append, take_len l s d w r h))

-- a word among those that were stored
pub get_or-sets_in : (l : List ℕ) (d : ℕ) (vs : List ℕ) (j : ℕ) → d + length vs ≤ length l → j < length vs → get_or (sets l d vs) (d + j) 0 ≡ get_or vs j 0
get_or-sets_in l d [] j fits h = absurd (not-suc-le-zero h)
get_or-sets_in l d (a ∷ vs) zero fits h =
    let e : d + 0 ≡ d = omega arith in
    rw e (get_or-sets_below (set l d a) (suc d) d vs (omega arith) ∙ get_or-set_same l d a 0 (omega arith))
get_or-sets_in l d (a ∷ vs) (suc j) fits h =
    let e : d + suc j ≡ suc d + j = omega arith in
    rw e (get_or-sets_in (set l d a) (suc d) vs j (rw (length-set l d a) (omega arith)) (le_of_suc-le-suc h))
