-- The window of a turn: the records that it shows are the running frame's and the one below it. Assumes nothing.
use Prim.Native.Nat.{ℕ, ◌+◌, ◌*◌, ◌-◌, ◌≤◌, ◌<◌}
use mathlib.Core.Path.{◌≡◌, refl, sym, ap, ◌∙◌}
use mathlib.Core.Bool.{Bool, true, false}
use mathlib.Core.List.{List, ◌++◌}
use native.Mathlib.Omega.{arith}
use lib.Dec.{ltb}
use lib.ListN.{length, set, take, replicate, length-set}
use lib.Seq.{sets, get_or-set_same, get_or-set_other, get_or-take, length-take-le, take_at}
use borrow.Author.Tests.{ne_eqb, lt-ltb, le-ltb, ltb-true, ltb-false}
use Rattle.std.specs.Prelude.{Result}
use Rattle.image.specs.Records.{form1}
use Rattle.image.specs.Program.{decode}
use Rattle.lent.specs.declared.FrameRecord.{FrameRecord}
use Rattle.lent.specs.Records.{record_words, no_record, record_at, words_of}
use Rattle.lent.proofs.Words.{length-words, sets_record, take_words}
use Rattle.exec.specs.declared.Ending.{Ending}
use Rattle.exec.specs.declared.in_frames.Machine.{Machine}
use Rattle.exec.specs.Price.{unit}
use Rattle.exec.specs.Lent.{state}
use Rattle.exec.specs.Burst.{turned, turn, Ready}
use Rattle.exec.specs.InFrames.{held, Stands, shown, window_of, seen, Under}
use Rattle.exec.proofs.Keeps.{good_ready}
use Rattle.exec.proofs.Windows.{View, view_ready}

-- ---- its size
pub shown_two : (d : ℕ) → 1 < d → shown d ≡ 2
shown_two d h = rw (ne_eqb d 1 (λ e. omega arith))

-- d is 1, or more
by_depth : (d : ℕ) (Q : Type 0) → 1 ≤ d → (d ≡ 1 → Q) → (1 < d → Q) → Q
by_depth d Q some f g = go (ltb 1 d) refl
  where
    go : (b : Bool) → ltb 1 d ≡ b → Q
    go true e = g (ltb-true 1 d e)
    go false e = f (omega (arith, ltb-false 1 d e))

pub shown_least : (d : ℕ) → 1 ≤ d → (1 ≤ shown d) × (shown d ≤ 2) × (shown d ≤ d)
shown_least d some =
    by_depth d _ some
    (λ e. rw e (omega arith, omega arith, omega arith))
    (λ l. rw (shown_two d l) (omega arith, omega arith, omega arith))

pub window_more : (d n : ℕ) → d < n → window_of d n ≡ shown d + 1
window_more d n h = rw (lt-ltb d n h)

pub window_full : (d n : ℕ) → n ≤ d → window_of d n ≡ shown d
window_full d n h = rw (le-ltb d n h)

pub window_size : (d n : ℕ) → 1 ≤ d → (shown d ≤ window_of d n) × (window_of d n ≤ 3)
window_size d n some = go (ltb d n) refl
  where
    go : (b : Bool) → ltb d n ≡ b → (shown d ≤ window_of d n) × (window_of d n ≤ 3)
    go true e = rw (window_more d n (ltb-true d n e)) (omega arith, omega (arith, shown_least d some))
    go false e = rw (window_full d n (ltb-false d n e)) (omega arith, omega (arith, shown_least d some))

-- ---- its words
zeros : replicate {A = ℕ} 12 0 ≡ words_of (replicate 3 no_record)
unfolding words_of
zeros = refl

window_words : (below top : FrameRecord) (k n : ℕ)
    → take (4 * n) (sets (sets (replicate 12 0) 0 (record_words below)) (4 * (k - 1)) (record_words top)) ≡ words_of (take n (set (set (replicate 3 no_record) 0 below) (k - 1) top))
window_words below top k n =
    ap (λ (l : List ℕ). take (4 * n) (sets (sets l 0 (record_words below)) (4 * (k - 1)) (record_words top))) zeros
    ∙ ap (λ (l : List ℕ). take (4 * n) (sets l (4 * (k - 1)) (record_words top))) (sets_record (replicate 3 no_record) 0 below)
    ∙ ap (take (4 * n)) (sets_record (set (replicate 3 no_record) 0 below) (k - 1) top)
    ∙ take_words (set (set (replicate 3 no_record) 0 below) (k - 1) top) n

-- ---- its records
module _ (bytes : List ℕ) (m : Machine) (frames : List FrameRecord) (n : ℕ) (below : FrameRecord) (s : Stands bytes m frames n) (found : below ≡ record_at frames (m.depth - 2)) where
  abbrev d : ℕ
  d = m.depth

  abbrev k : ℕ
  k = shown d

  abbrev size : ℕ
  size = window_of d m.records

  some : 1 ≤ d
  some = s.good.some

  there : d ≤ length (held m frames)
  there = omega (arith, length-words (held m frames), s.good.room)

  lent : d ≤ length frames
  lent = rw length-set at there

  abbrev filled : List FrameRecord
  filled = set (set (replicate 3 no_record) 0 below) (k - 1) m.top

  pub long : length (seen m below) ≡ size
  long = length-take-le size filled (simp length-set (omega (arith, window_size d m.records some)))

  top_seen : record_at (seen m below) (k - 1) ≡ m.top
  top_seen =
      get_or-take size filled (k - 1) no_record (omega (arith, window_size d m.records some, shown_least d some))
      ∙ get_or-set_same (set (replicate 3 no_record) 0 below) (k - 1) m.top no_record (simp length-set (omega (arith, shown_least d some)))

  below_seen : 1 < d → record_at (seen m below) (k - 1 - 1) ≡ record_at frames (d - 2)
  below_seen h =
      let two : k ≡ 2 = shown_two d h in
      let zero_is : k - 1 - 1 ≡ 0 = omega (arith, two) in
      get_or-take size filled (k - 1 - 1) no_record (omega (arith, two, window_size d m.records some))
      ∙ get_or-set_other (set (replicate 3 no_record) 0 below) (k - 1) (k - 1 - 1) m.top no_record (λ e. omega (arith, two))
      ∙ rw zero_is (get_or-set_same (replicate 3 no_record) 0 below no_record (omega arith))
      ∙ found

  pub seen_view : View (held m frames) (seen m below) d k
  seen_view = record {
    some = (shown_least d some).0;
    least = (shown_least d some).2;
    here = rw long (window_size d m.records some).0;
    there = there;
    top = top_seen ∙ sym (get_or-set_same frames (d - 1) m.top no_record (omega (arith, lent, some)));
    deep = λ h. omega (arith, shown_two d h);
    below = λ h. below_seen h ∙ let e : d - 2 ≡ d - 1 - 1 = omega arith in rw e (sym (get_or-set_other frames (d - 1) (d - 1 - 1) m.top no_record (λ e. omega arith)));
    room = λ h. rw (long, window_more d m.records (rw s.records (rw length-set at h))) (omega arith);
    fits = fits;
  }
    where
      fits : k < length (seen m below) → d < length (held m frames)
      fits h = go (ltb d m.records) refl
        where
          go : (b : Bool) → ltb d m.records ≡ b → d < length (held m frames)
          go true e = rw length-set (rw s.records at (ltb-true d m.records e))
          go false e = omega (arith, long, window_full d m.records (ltb-false d m.records e))

-- ---- the turn in it
-- the words as they are lent, of a window of k frames and n records
pub lent_words : (m : Machine) (below : FrameRecord) (k n : ℕ) (xs ys zs : List ℕ) → k ≡ shown m.depth → n ≡ window_of m.depth m.records → xs ≡ replicate 12 0
    → ys ≡ sets xs 0 (record_words below) → zs ≡ sets ys (4 * (k - 1)) (record_words m.top) → take (4 * n) zs ≡ words_of (seen m below)
lent_words m below k n xs ys zs ek en ex ey ez = rw (ez, ey, ex, ek, en) (window_words below m.top (shown m.depth) (window_of m.depth m.records))

module _ (bytes : List ℕ) (m : Machine) (below : FrameRecord) where
  pub window_ready : (len k : ℕ) (w : List ℕ) → Under bytes m len below → k ≡ shown m.depth → w ≡ words_of (seen m below) → Ready (decode form1 bytes) w len k
  window_ready len k w u ek ew =
      rw (ek, ew) (view_ready (decode form1 bytes) (held m u.frames) (seen m below) len m.depth (shown m.depth) (seen_view bytes m u.frames len below u.stands u.found)
      (good_ready (decode form1 bytes) (words_of (held m u.frames)) len m.depth u.stands.good))

  pub window_turned : (k n most l : ℕ) (x : Result ℕ Ending) (w w' rest rg rg' : List ℕ) → k ≡ shown m.depth → n ≡ window_of m.depth m.records → most ≡ m.most - (m.depth - k) → w ≡ words_of (seen m below)
      → length w' ≡ 4 * n → turned l x w' rg' ≡ turn (decode form1 bytes) unit most m.left (state w rg k)
      → turned l x (take (4 * window_of m.depth m.records) (w' ++ rest)) rg'
      ≡ turn (decode form1 bytes) unit (m.most - (m.depth - shown m.depth)) m.left (state (words_of (seen m below)) rg (shown m.depth))
  window_turned k n most l x w w' rest rg rg' ek en em ew long e =
      ap (λ (z : List ℕ). turned l x z rg') (rw (← en) (take_at w' rest (4 * n) long))
      ∙ e ∙ rw (em, ek, ew)
