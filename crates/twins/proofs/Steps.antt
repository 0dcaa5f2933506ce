-- Two machines that are alike take the same step, or one of them is refused for room. Assumes nothing.
use Prim.Native.Nat.{ℕ, ◌+◌, ◌*◌, ◌-◌, ◌≤◌, ◌<◌, max}
use mathlib.Core.Path.{◌≡◌, refl, sym, ap, ◌∙◌, subst}
use mathlib.Core.Bool.{Bool, true, false}
use mathlib.Core.List.{List, ◌++◌}
use native.Mathlib.Omega.{arith}
use lib.Dec.{ltb, leb, eqb}
use lib.ListN.{length, get_or, set, take, drop, replicate, length-set, length-append, length-replicate}
use lib.Seq.{sets}
use borrow.Author.Tests.{ltb-true, ltb-false, eqb-true, eqb-false}
use Rattle.basis.specs.Choice.{pick}
use Rattle.runtime.specs.declared.CoreTrap.TheVariants.{InvalidRegister, CallDepthExceeded, InvalidFunction}
use Rattle.instr.specs.declared.Instr.{Instr}
use Rattle.image.specs.Program.{Program}
use Rattle.image.specs.Parts.{functions_of, regs_of, code_of, Call}
use Rattle.straight.specs.declared.Went.{Went}
use Rattle.straight.specs.declared.Went.TheVariants.{On, To, Leaves}
use Rattle.straight.specs.Straight.{straight}
use Rattle.straight.proofs.Stays.{Stays, straight_stays}
use Rattle.exec.specs.declared.frame.Top.{Top}
use Rattle.exec.specs.declared.Ending.{Ending}
use Rattle.exec.specs.declared.Ending.TheVariants.{Returned, Trapped, FrameRoom, RegisterRoom}
use Rattle.lent.specs.Records.{record_of}
use Rattle.exec.specs.Lent.{function_word, dst_word, first_word, unit_word, part, State, state, top_of}
use Rattle.exec.specs.Step.{Stepped, stops, goes, moved, landed, too_deep, window_fits, pushed_frames, pushed_regs, called, handed, returned, left, acted, next_instr, step}
use Rattle.exec.specs.Burst.{Window}
use Rattle.exec.proofs.Parts.{length_part}
use Rattle.exec.proofs.Lists.{take_len}
use Rattle.course.specs.Course.{Refused}
use Rattle.course.proofs.Cases.{window_fact}
use Rattle.course.proofs.Words.{moved_function, moved_first, old_function, old_first, new_function, new_first}
use Rattle.twins.specs.Twins.{Agree, Alike}
use Rattle.twins.proofs.Agrees.{part_same, set_agrees, put_agrees, sets_agree}
use Rattle.std.specs.Prelude.{Result, Ok, Err}
use Rattle.runtime.specs.declared.CoreTrap.{CoreTrap}

-- both go on and are alike, at least as far as before; or both end in the same way; or one is refused for room
pub data Together (p : Program) (k m : ℕ) (o u : Stepped) : Type 0 where
  on : (d K M : ℕ) → k ≤ K → m ≤ M → o.answer ≡ Ok d → u.answer ≡ Ok d → Alike p K M (state o.frames o.regs d) (state u.frames u.regs d) → Together p k m o u
  ends : (e : Ending) → o.answer ≡ Err e → u.answer ≡ Err e → Together p k m o u
  first_refused : (e : Ending) → o.answer ≡ Err e → Refused e → Together p k m o u
  second_refused : (e : Ending) → u.answer ≡ Err e → Refused e → Together p k m o u

by : (p : Program) (k m : ℕ) (b : Bool) (x y v w : Stepped) → (b ≡ true → Together p k m x v) → (b ≡ false → Together p k m y w) → Together p k m (pick b x y) (pick b v w)
by p k m true x y v w f g = f refl
by p k m false x y v w f g = g refl

module _ (p : Program) (most k m : ℕ) (fr rg fr' rg' : List ℕ) (d : ℕ) (h : Alike p k m (state fr rg d) (state fr' rg' d)) where
  abbrev s : State
  s = state fr rg d

  abbrev t : State
  t = state fr' rg' d

  abbrev Both : Stepped → Stepped → Type 0
  Both o u = Together p k m o u

  some : 1 ≤ d
  some = h.some

  -- ---- what they read is the same
  word : (j : ℕ) → j < 4 * d → get_or fr' j 0 ≡ get_or fr j 0
  word j l = sym (h.frames.words j (omega (arith, h.records)))

  pub top_same : top_of p fr' d ≡ top_of p fr d
  top_same = rw (word (4 * (d - 1)) (omega (arith, some)), word (4 * (d - 1) + 1) (omega (arith, some)), word (4 * (d - 1) + 3) (omega (arith, some)))

  below_same : 1 < d → top_of p fr' (d - 1) ≡ top_of p fr (d - 1)
  below_same l = rw (word (4 * (d - 1 - 1)) (omega arith), word (4 * (d - 1 - 1) + 1) (omega arith), word (4 * (d - 1 - 1) + 3) (omega arith))

  dst_same : dst_word fr' (d - 1) ≡ dst_word fr (d - 1)
  dst_same = word (4 * (d - 1) + 2) (omega (arith, some))

  fits : (top_of p fr d).first + (top_of p fr d).limit ≤ m
  fits = h.windows (d - 1) (omega (arith, some))

  wide : length (part rg (top_of p fr d).first (top_of p fr d).limit) ≡ (top_of p fr d).limit
  wide = length_part rg (top_of p fr d).first (top_of p fr d).limit (omega (arith, fits, h.regs.left))

  window_same : part rg' (top_of p fr d).first (top_of p fr d).limit ≡ part rg (top_of p fr d).first (top_of p fr d).limit
  window_same = part_same m rg rg' (top_of p fr d).first (top_of p fr d).limit h.regs fits

  -- ---- inside the frame
  moved_alike : (n : ℕ) (w : List ℕ) → length w ≡ (top_of p fr d).limit → Alike p k m (moved s (top_of p fr d) n w) (moved t (top_of p fr d) n w)
  moved_alike n w e = record {
    depth = refl;
    some = some;
    frames = set_agrees k fr fr' (4 * (d - 1) + 1) n h.frames (omega (arith, some, h.records));
    regs = put_agrees m rg rg' (top_of p fr d).first (top_of p fr d).limit w h.regs e fits;
    records = h.records;
    windows = λ j l. rw (moved_first fr d n j, moved_function fr d n j) (h.windows j l);
  }

  moved_both : (n : ℕ) (w : List ℕ) → length w ≡ (top_of p fr d).limit → Both (goes (moved s (top_of p fr d) n w)) (goes (moved t (top_of p fr d) n w))
  moved_both n w e = on d k m (omega arith) (omega arith) refl refl (moved_alike n w e)

  landed_both : (x y : Stepped) (a : Result Went CoreTrap) (w : List ℕ) → Both x y → Stays (part rg (top_of p fr d).first (top_of p fr d).limit) a w
      → Both (landed s (top_of p fr d) x a w) (landed t (top_of p fr d) y a w)
  landed_both x y (Ok On) w b e = moved_both ((top_of p fr d).place + 1) w (e ∙ wide)
  landed_both x y (Ok (To n)) w b e = moved_both n w (ap length e ∙ wide)
  landed_both x y (Err c) w b e = ends (Trapped c) refl refl
  landed_both x y (Ok Leaves) w b e = b

  -- ---- Ret
  -- the value v handed to the frame q
  abbrev passed : Top → ℕ → State → ℕ → Stepped
  passed q dst x v = pick (ltb dst q.limit) (goes (state x.frames (set x.regs (q.first + dst) v) (x.depth - 1))) (stops x (Err (Trapped InvalidRegister)))

  handed_alike : (v dst : ℕ) → 1 < d → dst < (top_of p fr (d - 1)).limit
      → Alike p k m (state fr (set rg ((top_of p fr (d - 1)).first + dst) v) (d - 1)) (state fr' (set rg' ((top_of p fr (d - 1)).first + dst) v) (d - 1))
  handed_alike v dst deep l = record {
    depth = refl;
    some = omega arith;
    frames = h.frames;
    regs = set_agrees m rg rg' ((top_of p fr (d - 1)).first + dst) v h.regs (omega (arith, h.windows (d - 1 - 1) (omega arith)));
    records = omega (arith, h.records);
    windows = λ j q. h.windows j (omega arith);
  }

  passed_both : (v dst : ℕ) → 1 < d → Both (passed (top_of p fr (d - 1)) dst s v) (passed (top_of p fr (d - 1)) dst t v)
  passed_both v dst deep =
      by p k m (ltb dst (top_of p fr (d - 1)).limit) _ _ _ _
      (λ e. on (d - 1) k m (omega arith) (omega arith) refl refl (handed_alike v dst deep (ltb-true _ _ e)))
      (λ e. ends (Trapped InvalidRegister) refl refl)

  handed_both : (v : ℕ) → 1 < d → Both (handed p s v) (handed p t v)
  unfolding handed
  handed_both v deep =
      let dst : ℕ = dst_word fr (d - 1) in
      subst (λ (q : Top). Both (passed (top_of p fr (d - 1)) dst s v) (passed q (dst_word fr' (d - 1)) t v)) (sym (below_same deep))
      (subst (λ (x : ℕ). Both (passed (top_of p fr (d - 1)) dst s v) (passed (top_of p fr (d - 1)) x t v)) (sym dst_same) (passed_both v dst deep))

  source_same : (r : ℕ) → r < (top_of p fr d).limit → get_or rg' ((top_of p fr d).first + r) 0 ≡ get_or rg ((top_of p fr d).first + r) 0
  source_same r l = sym (h.regs.words ((top_of p fr d).first + r) (omega (arith, fits)))

  returned_both : (i : Instr) → Both (returned p s (top_of p fr d) i) (returned p t (top_of p fr d) i)
  unfolding returned
  returned_both i =
      let v : ℕ = get_or rg ((top_of p fr d).first + i.a) 0 in
      by p k m (ltb i.a (top_of p fr d).limit) _ _ _ _
      (λ e. subst (λ (x : ℕ). Both (pick (ltb 1 d) (handed p s v) (stops s (Err (Returned v)))) (pick (ltb 1 d) (handed p t x) (stops t (Err (Returned x)))))
      (sym (source_same i.a (ltb-true _ _ e)))
      (by p k m (ltb 1 d) _ _ _ _ (λ q. handed_both v (ltb-true _ _ q)) (λ q. ends (Returned v) refl refl)))
      (λ e. ends (Trapped InvalidRegister) refl refl)

  -- ---- Call
  module _ (i : Instr) (n : ℕ) (e : n ≡ regs_of p i.b) (win : Window (top_of p fr d).limit n i.c i.w) (room : 4 * (d + 1) ≤ length fr) (room' : 4 * (d + 1) ≤ length fr')
      (space : (top_of p fr d).first + (top_of p fr d).limit + n ≤ length rg) (space' : (top_of p fr d).first + (top_of p fr d).limit + n ≤ length rg') where
    abbrev end : ℕ
    end = (top_of p fr d).first + (top_of p fr d).limit

    abbrev row : List ℕ → List ℕ
    row xs = take i.w (drop ((top_of p fr d).first + i.c) xs) ++ replicate (n - i.w) unit_word

    row_same : row rg' ≡ row rg
    row_same = go (eqb i.w 0) refl
      where
        go : (b : Bool) → eqb i.w 0 ≡ b → row rg' ≡ row rg
        go true q = rw (eqb-true i.w 0 q)
        go false q =
            let x : i.w ≡ 0 → ⊥ = eqb-false i.w 0 q in
            let c : i.c + i.w ≤ (top_of p fr d).limit = win.caller (omega arith) in
            ap (λ (l : List ℕ). l ++ replicate (n - i.w) unit_word) (part_same m rg rg' ((top_of p fr d).first + i.c) i.w h.regs (omega (arith, fits)))

    row_length : length (row rg) ≡ n
    row_length =
        let a : length (take i.w (drop ((top_of p fr d).first + i.c) rg)) ≡ i.w = take_len rg ((top_of p fr d).first + i.c) end i.w (omega arith) (λ q. omega (arith, win.caller q)) in
        rw (length-append, a, length-replicate) (omega (arith, win.callee))

    pushed_frames_lem : Agree (max k (4 * d + 4)) (pushed_frames fr d (top_of p fr d) i) (pushed_frames fr' d (top_of p fr d) i)
    unfolding pushed_frames
    pushed_frames_lem =
        sets_agree k (set fr (4 * (d - 1) + 1) ((top_of p fr d).place + 1)) (set fr' (4 * (d - 1) + 1) ((top_of p fr d).place + 1)) (4 * d)
        (record_of i.b 0 i.a ((top_of p fr d).first + (top_of p fr d).limit))
        (set_agrees k fr fr' (4 * (d - 1) + 1) ((top_of p fr d).place + 1) h.frames (omega (arith, some, h.records)))
        h.records (rw length-set (omega arith)) (rw length-set (omega arith))

    pushed_regs_lem : Agree (max m (end + n)) (pushed_regs rg (top_of p fr d) i n) (pushed_regs rg' (top_of p fr d) i n)
    unfolding pushed_regs
    pushed_regs_lem =
        let x : end + length (row rg) ≤ length rg = rw row_length space in
        let y : end + length (row rg) ≤ length rg' = rw row_length space' in
        let a : Agree (max m (end + length (row rg))) (sets rg end (row rg)) (sets rg' end (row rg)) = sets_agree m rg rg' end (row rg) h.regs fits x y in
        let b : Agree (max m (end + n)) (sets rg end (row rg)) (sets rg' end (row rg)) = subst (λ (z : ℕ). Agree (max m (end + z)) (sets rg end (row rg)) (sets rg' end (row rg))) row_length a in
        subst (λ (l : List ℕ). Agree (max m (end + n)) (sets rg end (row rg)) (sets rg' end l)) (sym row_same) b

    pushed_windows : (j : ℕ) → j < d + 1 → first_word (pushed_frames fr d (top_of p fr d) i) j + regs_of p (function_word (pushed_frames fr d (top_of p fr d) i) j) ≤ max m (end + n)
    pushed_windows j l = go (ltb j d) refl
      where
        go : (b : Bool) → ltb j d ≡ b → first_word (pushed_frames fr d (top_of p fr d) i) j + regs_of p (function_word (pushed_frames fr d (top_of p fr d) i) j) ≤ max m (end + n)
        go true x = rw (old_first fr d (top_of p fr d) i j (ltb-true _ _ x), old_function fr d (top_of p fr d) i j (ltb-true _ _ x)) (omega (arith, h.windows j (ltb-true _ _ x)))
        go false x =
            let q : d ≤ j = ltb-false _ _ x in
            let z : j ≡ d = omega arith in
            rw (z, new_first fr d (top_of p fr d) i some room, new_function fr d (top_of p fr d) i some room, ← e) (omega arith)

    pushed_both : Both (goes (state (pushed_frames fr d (top_of p fr d) i) (pushed_regs rg (top_of p fr d) i n) (d + 1))) (goes (state (pushed_frames fr' d (top_of p fr d) i) (pushed_regs rg' (top_of p fr d) i n) (d + 1)))
    pushed_both = on (d + 1) (max k (4 * d + 4)) (max m (end + n)) (omega arith) (omega arith) refl refl (record {
      depth = refl;
      some = omega arith;
      frames = pushed_frames_lem;
      regs = pushed_regs_lem;
      records = omega arith;
      windows = pushed_windows;
    })

  -- a test of room, which may come out differently
  room_both : (b c : Bool) (e : Ending) → Refused e → (x y : Stepped) → (b ≡ false → c ≡ false → Both x y) → Both (pick b (stops s (Err e)) x) (pick c (stops t (Err e)) y)
  room_both true true e r x y f = ends e refl refl
  room_both true false e r x y f = first_refused e refl r
  room_both false true e r x y f = second_refused e refl r
  room_both false false e r x y f = f refl refl

  called_both : (i : Instr) → Both (called p most s (top_of p fr d) i) (called p most t (top_of p fr d) i)
  unfolding called
  called_both i =
      let n : ℕ = regs_of p i.b in
      by p k m (too_deep most d) _ _ _ _ (λ e. ends (Trapped CallDepthExceeded) refl refl) (λ e.
      by p k m (leb (functions_of p) i.b) _ _ _ _ (λ e. ends (Trapped InvalidFunction) refl refl) (λ e.
      by p k m (window_fits (top_of p fr d).limit n i) _ _ _ _ (λ fit.
      room_both (ltb (length fr) (4 * (d + 1))) (ltb (length fr') (4 * (d + 1))) FrameRoom tt _ _ (λ x x'.
      room_both (ltb (length rg) ((top_of p fr d).first + (top_of p fr d).limit + n)) (ltb (length rg') ((top_of p fr d).first + (top_of p fr d).limit + n)) RegisterRoom tt _ _ (λ y y'.
      pushed_both i n refl (window_fact (top_of p fr d).limit n i fit) (ltb-false _ _ x) (ltb-false _ _ x') (ltb-false _ _ y) (ltb-false _ _ y'))))
      (λ e. ends (Trapped InvalidRegister) refl refl)))

  left_both : (i : Instr) → Both (left p most s (top_of p fr d) i) (left p most t (top_of p fr d) i)
  unfolding left
  left_both i = by p k m (eqb i.op Call) _ _ _ _ (λ e. called_both i) (λ e. returned_both i)

  acted_both : (i : Instr) → Both (acted p most s (top_of p fr d) i) (acted p most t (top_of p fr d) i)
  unfolding acted
  acted_both i =
      let w : List ℕ = part rg (top_of p fr d).first (top_of p fr d).limit in
      subst (λ (v : List ℕ). Both (landed s (top_of p fr d) (left p most s (top_of p fr d) i) (straight i w).went (straight i w).regs) (landed t (top_of p fr d) (left p most t (top_of p fr d) i) (straight i v).went (straight i v).regs))
      (sym window_same)
      (landed_both (left p most s (top_of p fr d) i) (left p most t (top_of p fr d) i) (straight i w).went (straight i w).regs (left_both i) (straight_stays i w))

  pub step_both : Together p k m (step p most (state fr rg d)) (step p most (state fr' rg' d))
  unfolding step
  step_both =
      subst (λ (x : Top). Both (acted p most s (top_of p fr d) (next_instr p s)) (acted p most t x (code_of p x.function x.place))) (sym top_same)
      (acted_both (next_instr p s))
