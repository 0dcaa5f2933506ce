-- A turn on some of the records is the turn on all of them, if the running frame's record is among them, and the one below it. Assumes nothing.
use Prim.Native.Nat.{ℕ, ◌+◌, ◌*◌, ◌-◌, ◌≤◌, ◌<◌}
use mathlib.Core.Path.{◌≡◌, refl, sym, ap, ◌∙◌, subst}
use mathlib.Core.Bool.{Bool, true, false}
use mathlib.Core.List.{List}
use native.Mathlib.Omega.{arith}
use lib.Dec.{ltb, leb, eqb}
use lib.ListN.{length, set, length-set}
use lib.Seq.{get_or-set_same, get_or-set_other, set-set}
use borrow.Author.Tests.{ltb-true, ltb-false, leb-true, lt-ltb, le-leb}
use Rattle.std.specs.Prelude.{Ok, Err}
use Rattle.basis.specs.Choice.{pick}
use Rattle.runtime.specs.declared.CoreTrap.TheVariants.{InvalidRegister}
use Rattle.instr.specs.declared.Instr.{Instr}
use Rattle.image.specs.Program.{Program}
use Rattle.image.specs.Parts.{functions_of, regs_of, length_of, code_of, Call}
use Rattle.straight.specs.declared.Went.TheVariants as went
use Rattle.straight.specs.Straight.{straight}
use Rattle.lent.specs.declared.FrameRecord.{FrameRecord}
use Rattle.lent.specs.Records.{record_at, words_of}
use Rattle.lent.proofs.Words.{length-words, function_word_lem, place_word_lem, dst_word_lem, first_word, placed_at, set_place, sets_record}
use Rattle.exec.specs.declared.frame.Top.{Top}
use Rattle.exec.specs.declared.burst.Why.{Why}
use Rattle.exec.specs.declared.burst.Why.TheVariants.{Past, Dry, Fails, Leaves}
use Rattle.exec.specs.declared.Ending.{Ending}
use Rattle.exec.specs.declared.Ending.TheVariants.{Trapped}
use Rattle.exec.specs.Price.{Price, Fair}
use Rattle.exec.specs.Lent.{part, put, State, state, dst_word, top_of}
use Rattle.exec.specs.Step.{Stepped, stepped, stops, goes, too_deep, window_fits, pushed_frames, pushed_regs, called, handed, returned, left, step}
use Rattle.exec.specs.Burst.{Halted, burst, Paused, paused, landing, stretch, Turned, turned, acting, turn, Ready, Frame, AtLeave}
use Rattle.exec.proofs.Facts.{step_left}
use Rattle.exec.proofs.Outer.{stretch_ready, stretch_leaves, turn_by}

-- ---- a frame by its record
abbrev pub top_from : Program → FrameRecord → Top
top_from p r = record { function = r.function; place = r.place; first = r.first; limit = regs_of p r.function }

pub top_from_lem : (p : Program) (zs : List FrameRecord) (d : ℕ) → top_of p (words_of zs) d ≡ top_from p (record_at zs (d - 1))
top_from_lem p zs d = rw (function_word_lem zs (d - 1), place_word_lem zs (d - 1), first_word zs (d - 1))

-- a frame stands by its record
abbrev FrameFrom : Program → ℕ → FrameRecord → Type 0
FrameFrom p n r = (r.function < functions_of p) × (r.first + regs_of p r.function ≤ n)

frame_from : (p : Program) (zs : List FrameRecord) (n k : ℕ) → Frame p (words_of zs) n k → FrameFrom p n (record_at zs k)
frame_from p zs n k f = (rw (function_word_lem zs k) at f.function, rw (function_word_lem zs k, first_word zs k) at f.registers)

from_frame : (p : Program) (zs : List FrameRecord) (n k : ℕ) → FrameFrom p n (record_at zs k) → Frame p (words_of zs) n k
from_frame p zs n k f = record { function = rw (function_word_lem zs k) f.0; registers = rw (first_word zs k, function_word_lem zs k) f.1 }

-- ---- k of the records ws, seen as the last k of the d records zs
pub record View (zs ws : List FrameRecord) (d k : ℕ) : Type 0 where
  pub some : 1 ≤ k
  pub least : k ≤ d
  pub here : k ≤ length ws
  pub there : d ≤ length zs
  pub top : record_at ws (k - 1) ≡ record_at zs (d - 1)
  pub deep : 1 < d → 1 < k
  pub below : 1 < d → record_at ws (k - 1 - 1) ≡ record_at zs (d - 1 - 1)
  pub room : d < length zs → k < length ws
  pub fits : k < length ws → d < length zs

-- it is so too with another record of the running frame
pub view_set : (zs ws : List FrameRecord) (d k : ℕ) (r : FrameRecord) → View zs ws d k → View (set zs (d - 1) r) (set ws (k - 1) r) d k
view_set zs ws d k r v = record {
  some = v.some;
  least = v.least;
  here = rw length-set v.here;
  there = rw length-set v.there;
  top = get_or-set_same ws (k - 1) r _ (omega (arith, v.some, v.here)) ∙ sym (get_or-set_same zs (d - 1) r _ (omega (arith, v.some, v.least, v.there)));
  deep = v.deep;
  below = λ h. get_or-set_other ws (k - 1) (k - 1 - 1) r _ (λ e. omega (arith, v.deep h)) ∙ v.below h ∙ sym (get_or-set_other zs (d - 1) (d - 1 - 1) r _ (λ e. omega arith));
  room = λ h. rw length-set (v.room (rw length-set at h));
  fits = λ h. rw length-set (v.fits (rw length-set at h));
}

pub view_ready : (p : Program) (zs ws : List FrameRecord) (n d k : ℕ) → View zs ws d k → Ready p (words_of zs) n d → Ready p (words_of ws) n k
view_ready p zs ws n d k v g = record {
  some = v.some;
  room = rw (length-words ws) (omega (arith, v.here));
  top = from_frame p ws n (k - 1) (rw v.top (frame_from p zs n (d - 1) g.top));
  below = λ h. let l : 1 < d = omega (arith, v.least) in from_frame p ws n (k - 1 - 1) (rw (v.below l) (frame_from p zs n (d - 1 - 1) (g.below l)));
}

-- ---- what a turn makes of them
-- one answer for both, with depths of their own; at most the running frame's record is another, r, and one is pushed on it, q
pub data Both (zs ws : List FrameRecord) (d k : ℕ) (o u : Turned) : Type 0 where
  ends : (m : ℕ) (e : Ending) (r : FrameRecord) (rg : List ℕ) → o ≡ turned m (Err e) (words_of (set zs (d - 1) r)) rg → u ≡ turned m (Err e) (words_of (set ws (k - 1) r)) rg → Both zs ws d k o u
  pushes : (m : ℕ) (r q : FrameRecord) (rg : List ℕ) → d < length zs → k < length ws → o ≡ turned m (Ok (d + 1)) (words_of (set (set zs (d - 1) r) d q)) rg
      → u ≡ turned m (Ok (k + 1)) (words_of (set (set ws (k - 1) r) k q)) rg → Both zs ws d k o u
  pops : (m : ℕ) (r : FrameRecord) (rg : List ℕ) → 1 < d → o ≡ turned m (Ok (d - 1)) (words_of (set zs (d - 1) r)) rg → u ≡ turned m (Ok (k - 1)) (words_of (set ws (k - 1) r)) rg → Both zs ws d k o u

-- so of the Call or Ret in it, before which nothing of the records changes
data Alike (zs ws : List FrameRecord) (d k : ℕ) (rg : List ℕ) (o u : Stepped) : Type 0 where
  ends : (e : Ending) → o ≡ stepped (Err e) (words_of zs) rg → u ≡ stepped (Err e) (words_of ws) rg → Alike zs ws d k rg o u
  pushes : (r q : FrameRecord) (rg' : List ℕ) → d < length zs → k < length ws → o ≡ stepped (Ok (d + 1)) (words_of (set (set zs (d - 1) r) d q)) rg'
      → u ≡ stepped (Ok (k + 1)) (words_of (set (set ws (k - 1) r) k q)) rg' → Alike zs ws d k rg o u
  pops : (rg' : List ℕ) → 1 < d → o ≡ stepped (Ok (d - 1)) (words_of zs) rg' → u ≡ stepped (Ok (k - 1)) (words_of ws) rg' → Alike zs ws d k rg o u

by : (zs ws : List FrameRecord) (d k : ℕ) (rg : List ℕ) (b c : Bool) (x y v w : Stepped) → c ≡ b → (b ≡ true → Alike zs ws d k rg x v) → (b ≡ false → Alike zs ws d k rg y w)
    → Alike zs ws d k rg (pick b x y) (pick c v w)
by zs ws d k rg true c x y v w e f g = subst (λ (z : Bool). Alike zs ws d k rg x (pick z v w)) (sym e) (f refl)
by zs ws d k rg false c x y v w e f g = subst (λ (z : Bool). Alike zs ws d k rg y (pick z v w)) (sym e) (g refl)

-- tests that come out the same
same : (x y : Bool) → (x ≡ true → y ≡ true) → (y ≡ true → x ≡ true) → x ≡ y
same true y f g = sym (f refl)
same false true f g = g refl
same false false f g = refl

module _ (zs ws : List FrameRecord) (d k : ℕ) (v : View zs ws d k) where
  deep_same : (most : ℕ) → too_deep (most - (d - k)) k ≡ too_deep most d
  unfolding too_deep
  deep_same most =
      same _ _
      (λ e. le-leb most d (omega (arith, leb-true (most - (d - k)) k e, v.least)))
      (λ e. le-leb (most - (d - k)) k (omega (arith, leb-true most d e, v.least)))

  room_same : ltb (length (words_of ws)) (4 * (k + 1)) ≡ ltb (length (words_of zs)) (4 * (d + 1))
  room_same =
      rw (length-words ws, length-words zs) (same _ _
      (λ e. lt-ltb _ _ (no_room (ltb-true _ _ e)))
      (λ e. lt-ltb _ _ (no_window (ltb-true _ _ e))))
    where
      no_room : 4 * length ws < 4 * (k + 1) → 4 * length zs < 4 * (d + 1)
      no_room l = go (ltb d (length zs)) refl
        where
          go : (b : Bool) → ltb d (length zs) ≡ b → 4 * length zs < 4 * (d + 1)
          go true e = let h : k < length ws = v.room (ltb-true _ _ e) in omega arith
          go false e = let h : length zs ≤ d = ltb-false _ _ e in omega arith

      no_window : 4 * length zs < 4 * (d + 1) → 4 * length ws < 4 * (k + 1)
      no_window l = go (ltb k (length ws)) refl
        where
          go : (b : Bool) → ltb k (length ws) ≡ b → 4 * length ws < 4 * (k + 1)
          go true e = let h : d < length zs = v.fits (ltb-true _ _ e) in omega arith
          go false e = let h : length ws ≤ k = ltb-false _ _ e in omega arith

  more_same : ltb 1 k ≡ ltb 1 d
  more_same = same _ _ (λ e. lt-ltb 1 d (omega (arith, ltb-true 1 k e, v.least))) (λ e. lt-ltb 1 k (v.deep (ltb-true 1 d e)))

  module _ (p : Program) (most : ℕ) (rg : List ℕ) where
    abbrev s : State
    s = state (words_of zs) rg d

    abbrev t : State
    t = state (words_of ws) rg k

    abbrev As : Stepped → Stepped → Type 0
    As o u = Alike zs ws d k rg o u

    -- ---- Ret
    abbrev passed : Top → ℕ → State → ℕ → Stepped
    passed q dst x w = pick (ltb dst q.limit) (goes (state x.frames (set x.regs (q.first + dst) w) (x.depth - 1))) (stops x (Err (Trapped InvalidRegister)))

    below_same : 1 < d → top_of p (words_of ws) (k - 1) ≡ top_of p (words_of zs) (d - 1)
    below_same h = top_from_lem p ws (k - 1) ∙ ap (top_from p) (v.below h) ∙ sym (top_from_lem p zs (d - 1))

    dst_same : dst_word (words_of ws) (k - 1) ≡ dst_word (words_of zs) (d - 1)
    dst_same = dst_word_lem ws (k - 1) ∙ ap (λ (r : FrameRecord). r.dst) v.top ∙ sym (dst_word_lem zs (d - 1))

    handed_alike : (w : ℕ) → 1 < d → As (handed p s w) (handed p t w)
    unfolding handed
    handed_alike w h =
        subst (λ (q : Top). As (passed (top_of p (words_of zs) (d - 1)) (dst_word (words_of zs) (d - 1)) s w) (passed q (dst_word (words_of ws) (k - 1)) t w)) (sym (below_same h))
        (subst (λ (x : ℕ). As (passed (top_of p (words_of zs) (d - 1)) (dst_word (words_of zs) (d - 1)) s w) (passed (top_of p (words_of zs) (d - 1)) x t w)) (sym dst_same)
        (by zs ws d k rg (ltb (dst_word (words_of zs) (d - 1)) (top_of p (words_of zs) (d - 1)).limit) _ _ _ _ _ refl
        (λ e. pops _ h refl refl)
        (λ e. ends _ refl refl)))

    returned_alike : (q : Top) (i : Instr) → As (returned p s q i) (returned p t q i)
    unfolding returned
    returned_alike q i =
        by zs ws d k rg (ltb i.a q.limit) _ _ _ _ _ refl
        (λ e. by zs ws d k rg (ltb 1 d) (ltb 1 k) _ _ _ _ more_same (λ l. handed_alike _ (ltb-true 1 d l)) (λ l. ends _ refl refl))
        (λ e. ends _ refl refl)

    -- ---- Call
    pushed_words : (xs : List FrameRecord) (n : ℕ) (q : Top) (i : Instr)
        → pushed_frames (words_of xs) n q i ≡ words_of (set (set xs (n - 1) (placed_at (record_at xs (n - 1)) (q.place + 1))) n (record { function = i.b; place = 0; dst = i.a; first = q.first + q.limit }))
    unfolding pushed_frames
    pushed_words xs n q i = rw (set_place xs (n - 1) (q.place + 1)) (sets_record (set xs (n - 1) (placed_at (record_at xs (n - 1)) (q.place + 1))) n (record { function = i.b; place = 0; dst = i.a; first = q.first + q.limit }))

    called_alike : (q : Top) (i : Instr) → As (called p most s q i) (called p (most - (d - k)) t q i)
    unfolding called
    called_alike q i =
        by zs ws d k rg (too_deep most d) (too_deep (most - (d - k)) k) _ _ _ _ (deep_same most) (λ e. ends _ refl refl) (λ e.
        by zs ws d k rg (leb (functions_of p) i.b) _ _ _ _ _ refl (λ e. ends _ refl refl) (λ e.
        by zs ws d k rg (window_fits q.limit (regs_of p i.b) i) _ _ _ _ _ refl (λ e.
        by zs ws d k rg (ltb (length (words_of zs)) (4 * (d + 1))) (ltb (length (words_of ws)) (4 * (k + 1))) _ _ _ _ room_same (λ e. ends _ refl refl) (λ roomy.
        by zs ws d k rg (ltb (length rg) (q.first + q.limit + regs_of p i.b)) _ _ _ _ _ refl (λ e. ends _ refl refl) (λ e.
        let there : d < length zs = omega (arith, length-words zs, ltb-false (length (words_of zs)) (4 * (d + 1)) roomy) in
        pushes (placed_at (record_at zs (d - 1)) (q.place + 1)) (record { function = i.b; place = 0; dst = i.a; first = q.first + q.limit }) (pushed_regs rg q i (regs_of p i.b))
        there (v.room there)
        (rw (pushed_words zs d q i))
        (rw (pushed_words ws k q i, v.top)))))
        (λ e. ends _ refl refl)))

    left_alike : (q : Top) (i : Instr) → As (left p most s q i) (left p (most - (d - k)) t q i)
    unfolding left
    left_alike q i = by zs ws d k rg (eqb i.op Call) _ _ _ _ _ refl (λ e. called_alike q i) (λ e. returned_alike q i)

-- ---- the whole turn
module _ (p : Program) (price : Price) (fair : Fair price) (zs ws : List FrameRecord) (d k : ℕ) (v : View zs ws d k) (most fuel : ℕ) (rg : List ℕ) (g : Ready p (words_of zs) (length rg) d) where
  -- the running frame, and how its burst stops
  abbrev top : FrameRecord
  top = record_at zs (d - 1)

  abbrev halt : Halted
  halt = burst p price top.function fuel fuel top.place (part rg top.first (regs_of p top.function))

  abbrev after : FrameRecord
  after = placed_at top halt.place

  abbrev rest : List ℕ
  rest = put rg top.first (regs_of p top.function) halt.regs

  abbrev stopped : List FrameRecord → ℕ → Paused
  stopped xs n = paused halt.why halt.left (words_of (set xs (n - 1) after)) rest

  stops_so : (xs : List FrameRecord) (n : ℕ) → record_at xs (n - 1) ≡ top → stopped xs n ≡ stretch p price fuel (state (words_of xs) rg n)
  unfolding stretch
  stops_so xs n e =
      sym
      (ap (λ (t : Top). landing (state (words_of xs) rg n) t (burst p price t.function fuel fuel t.place (part rg t.first t.limit))) (top_from_lem p xs n ∙ ap (top_from p) e)
      ∙ ap (λ (l : List ℕ). paused halt.why halt.left l rest) (set_place xs (n - 1) halt.place ∙ ap (λ (r : FrameRecord). words_of (set xs (n - 1) (placed_at r halt.place))) e))

  abbrev Turns : Turned → Turned → Type 0
  Turns o u = Both zs ws d k o u

  -- Call or Ret
  module _ (m : ℕ) (e : paused Leaves m (words_of (set zs (d - 1) after)) rest ≡ stretch p price fuel (state (words_of zs) rg d)) where
    abbrev zs' : List FrameRecord
    zs' = set zs (d - 1) after

    abbrev ws' : List FrameRecord
    ws' = set ws (k - 1) after

    top_same : top_of p (words_of ws') k ≡ top_of p (words_of zs') d
    top_same = top_from_lem p ws' k ∙ ap (top_from p) (view_set zs ws d k after v).top ∙ sym (top_from_lem p zs' d)

    leaves : AtLeave p (words_of zs') rest d
    leaves = stretch_leaves p price fair fuel (words_of zs) rg d g m (words_of zs') rest e

    leaves_window : AtLeave p (words_of ws') rest k
    leaves_window =
        record {
          inside = subst (λ (q : Top). q.place < length_of p q.function) (sym top_same) leaves.inside;
          leaves = subst (λ (q : Top). (straight (code_of p q.function q.place) (part rest q.first q.limit)).went ≡ Ok went.Leaves) (sym top_same) leaves.leaves;
        }

    abbrev acted : Stepped → Turned
    acted o = turned m o.answer o.frames o.regs

    left_turns : (o u : Stepped) → Alike zs' ws' d k rest o u → Turns (acted o) (acted u)
    left_turns o u (ends e x y) = ends m e after rest (ap acted x) (ap acted y)
    left_turns o u (pushes r q rg' h l x y) =
        pushes m r q rg' (rw length-set at h) (rw length-set at l)
        (ap acted x ∙ ap (λ (l : List FrameRecord). turned m (Ok (d + 1)) (words_of (set l d q)) rg') (set-set zs (d - 1) after r))
        (ap acted y ∙ ap (λ (l : List FrameRecord). turned m (Ok (k + 1)) (words_of (set l k q)) rg') (set-set ws (k - 1) after r))
    left_turns o u (pops rg' h x y) = pops m after rg' h (ap acted x) (ap acted y)

    abbrev q : Top
    q = top_of p (words_of zs') d

    view : View zs' ws' d k
    view = view_set zs ws d k after v

    ready : Ready p (words_of zs') (length rest) d
    ready = stretch_ready p price fair fuel (words_of zs) rg d g Leaves m (words_of zs') rest e

    whole_left : step p most (state (words_of zs') rest d) ≡ left p most (state (words_of zs') rest d) q (code_of p q.function q.place)
    whole_left = step_left p (words_of zs') rest d q ready refl leaves most

    window_left : step p (most - (d - k)) (state (words_of ws') rest k) ≡ left p (most - (d - k)) (state (words_of ws') rest k) q (code_of p q.function q.place)
    window_left =
        step_left p (words_of ws') rest k (top_of p (words_of ws') k) (view_ready p zs' ws' (length rest) d k view ready) refl leaves_window (most - (d - k))
        ∙ ap (λ (t : Top). left p (most - (d - k)) (state (words_of ws') rest k) t (code_of p t.function t.place)) top_same

    step_turns : Turns (acting p most d Leaves m (words_of zs') rest) (acting p (most - (d - k)) k Leaves m (words_of ws') rest)
    step_turns =
        left_turns (step p most (state (words_of zs') rest d)) (step p (most - (d - k)) (state (words_of ws') rest k))
        (subst (λ (o : Stepped). Alike zs' ws' d k rest o (step p (most - (d - k)) (state (words_of ws') rest k))) (sym whole_left)
        (subst (λ (u : Stepped). Alike zs' ws' d k rest (left p most (state (words_of zs') rest d) q (code_of p q.function q.place)) u) (sym window_left)
        (left_alike zs' ws' d k view p most rest q (code_of p q.function q.place))))

  turns_by : (y : Why) (m : ℕ) → paused y m (words_of (set zs (d - 1) after)) rest ≡ stretch p price fuel (state (words_of zs) rg d)
      → Turns (acting p most d y m (words_of (set zs (d - 1) after)) rest) (acting p (most - (d - k)) k y m (words_of (set ws (k - 1) after)) rest)
  turns_by Past m e = ends m _ after rest refl refl
  turns_by Dry m e = ends m _ after rest refl refl
  turns_by (Fails t) m e = ends m _ after rest refl refl
  turns_by Leaves m e = step_turns m e

  pub turn_both : Turns (turn p price most fuel (state (words_of zs) rg d)) (turn p price (most - (d - k)) fuel (state (words_of ws) rg k))
  turn_both =
      subst (λ (o : Turned). Turns o (turn p price (most - (d - k)) fuel (state (words_of ws) rg k))) (turn_by p price most fuel (words_of zs) rg d _ _ _ _ whole)
      (subst (λ (u : Turned). Turns (acting p most d halt.why halt.left (words_of (set zs (d - 1) after)) rest) u)
      (turn_by p price (most - (d - k)) fuel (words_of ws) rg k _ _ _ _ (stops_so ws k v.top))
      (turns_by halt.why halt.left whole))
    where
      whole : stopped zs d ≡ stretch p price fuel (state (words_of zs) rg d)
      whole = stops_so zs d refl
