-- A step of a program whose operands are allowed keeps its frames linked: no place is past its function's length, and each frame's
-- result has a register in the frame below. Assumes nothing.
use Prim.Native.Nat.{ℕ, suc, ◌+◌, ◌*◌, ◌-◌, ◌≤◌, ◌<◌}
use mathlib.Core.Path.{◌≡◌, refl, sym, ap, ◌∙◌, subst}
use mathlib.Core.Bool.{Bool, true, false, ◌||◌, true≢false}
use mathlib.Core.List.{List}
use mathlib.Core.Logic.{◌≢◌}
use native.Mathlib.Omega.{arith}
use lib.Dec.{ltb, eqb}
use lib.ListN.{length, set, length-set}
use borrow.Author.Tests.{ltb-true, ltb-false, eqb-true, eqb-false, le-leb}
use Rattle.runtime.specs.declared.CoreTrap.{CoreTrap}
use Rattle.runtime.specs.declared.CoreTrap.TheVariants.{InvalidPc, InvalidRegister, TypeMismatch, DivisionByZero, IntegerOverflow, FuelExceeded, CallDepthExceeded, InvalidFunction, AssertFailed, ExplicitTrap}
use Rattle.image.specs.Fields.{Use, opcodes, forms, fields_of}
use Rattle.image.specs.Fields.Use.{register}
use Rattle.image.specs.Program.{Program}
use Rattle.image.specs.Parts.{functions_of, regs_of, length_of, code_of, Call, Ret}
use Rattle.admission.specs.Admissible.{Allowed, Operands}
use Rattle.straight.specs.declared.Went.TheVariants.{To, Leaves}
use Rattle.exec.specs.declared.Ending.{Ending}
use Rattle.exec.specs.declared.Ending.TheVariants.{Returned, Trapped, FrameRoom, RegisterRoom}
use Rattle.exec.specs.Lent.{function_word, place_word, dst_word, State, state, top_at}
use Rattle.exec.specs.Step.{moved, window_fits, pushed_frames, pushed_regs, next_instr, step, Inside}
use Rattle.exec.proofs.Parts.{length_part}
use Rattle.exec.proofs.Keeps.{GoodIn, moved_good, push_keeps}
use Rattle.course.proofs.Cases.{window, went_at, regs_at, source, below_at, dst_at, step_cases}
use Rattle.course.proofs.Words.{moved_function, moved_dst, moved_place, moved_top, old_function, old_dst, old_place, caller_place, new_place, new_dst}
use Rattle.course.proofs.Traps.{Own, OwnWay, straight_own}
use Rattle.course.proofs.Along.{Keeps}
use Rattle.std.specs.Prelude.{Result, Ok, Err, Option, Some, None}

-- what a run rests on: every instruction has an opcode and allowed operands
pub record Sure (p : Program) : Type 0 where
  pub opcode : (k j : ℕ) → k < functions_of p → j < length_of p k → (code_of p k j).op < opcodes
  pub operands : (k j : ℕ) → k < functions_of p → j < length_of p k → Operands p k (code_of p k j)

pub record Linked (p : Program) (s : State) : Type 0 where
  pub good : GoodIn p s
  pub places : (k : ℕ) → k < s.depth → place_word s.frames k ≤ length_of p (function_word s.frames k)
  pub dsts : (k : ℕ) → suc k < s.depth → dst_word s.frames (suc k) < regs_of p (function_word s.frames k)

-- the traps that a step of such a program can still end with
abbrev pub Sound : CoreTrap → Type 0
Sound InvalidPc = ⊥
Sound InvalidRegister = ⊥
Sound TypeMismatch = Unit {0}
Sound DivisionByZero = Unit {0}
Sound IntegerOverflow = Unit {0}
Sound FuelExceeded = ⊥
Sound CallDepthExceeded = Unit {0}
Sound InvalidFunction = ⊥
Sound AssertFailed = Unit {0}
Sound ExplicitTrap = Unit {0}

abbrev pub SoundEnd : Ending → Type 0
SoundEnd (Returned v) = Unit {0}
SoundEnd (Trapped t) = Sound t
SoundEnd FrameRoom = Unit {0}
SoundEnd RegisterRoom = Unit {0}

own_sound : (t : CoreTrap) → Own ⊥ t → Sound t
own_sound InvalidPc h = h
own_sound InvalidRegister h = h
own_sound TypeMismatch h = tt
own_sound DivisionByZero h = tt
own_sound IntegerOverflow h = tt
own_sound FuelExceeded h = h
own_sound CallDepthExceeded h = tt
own_sound InvalidFunction h = h
own_sound AssertFailed h = tt
own_sound ExplicitTrap h = tt

or_true : (b : Bool) → (b || true) ≡ true
or_true true = refl
or_true false = refl

-- of the opcodes that leave their frame Ret is the one that is not Call
between : (n : ℕ) → 54 ≤ n → n < 56 → n ≢ Call → n ≡ Ret
between n low high f = omega arith

module _ (p : Program) (sure : Sure p) (s : State) (h : Linked p s) (inside : Inside p s) where
  some : 1 ≤ s.depth
  some = h.good.some

  known : (top_at p s).function < functions_of p
  known = (h.good.each (s.depth - 1) (omega (arith, some))).function

  operands : Operands p (top_at p s).function (next_instr p s)
  operands = sure.operands (top_at p s).function (top_at p s).place known inside

  wide : length (window p s) ≡ (top_at p s).limit
  wide = length_part s.regs (top_at p s).first (top_at p s).limit (h.good.each (s.depth - 1) (omega (arith, some))).registers

  -- a field that names a register names one of the frame's
  named : (u : Use) (x : ℕ) → Allowed u p (top_at p s).function (next_instr p s) x → u ≡ register → length (window p s) ≤ x → ⊥
  named u x a e l =
      let b : x < (top_at p s).limit = subst (λ (v : Use). Allowed v p (top_at p s).function (next_instr p s) x) e a in
      omega (arith, wide)

  way : OwnWay ⊥ (next_instr p s) (went_at p s)
  way = straight_own ⊥ (window p s) (next_instr p s) (record {
    a = named (fields_of (next_instr p s).op).a (next_instr p s).a operands.a;
    b = named (fields_of (next_instr p s).op).b (next_instr p s).b operands.b;
    c = named (fields_of (next_instr p s).op).c (next_instr p s).c operands.c;
  })

  -- ---- inside the frame
  moved_linked : (n : ℕ) (w : List ℕ) → length w ≡ (top_at p s).limit → n ≤ length_of p (top_at p s).function → Linked p (moved s (top_at p s) n w)
  moved_linked n w e l = record {
    good = moved_good p s n w h.good e;
    places = λ k q. rw (moved_function s.frames s.depth n k) (go k q (eqb k (s.depth - 1)) refl);
    dsts = λ k q. rw (moved_dst s.frames s.depth n (suc k), moved_function s.frames s.depth n k) (h.dsts k q);
  }
    where
      go : (k : ℕ) → k < s.depth → (b : Bool) → eqb k (s.depth - 1) ≡ b → place_word (moved s (top_at p s) n w).frames k ≤ length_of p (function_word s.frames k)
      go k q true x = rw (eqb-true k (s.depth - 1) x, moved_top s.frames s.depth n some h.good.room) l
      go k q false x = rw (moved_place s.frames s.depth n k (eqb-false k (s.depth - 1) x)) (h.places k q)

  jump_inside : (n : ℕ) → went_at p s ≡ Ok (To n) → n ≤ length_of p (top_at p s).function
  jump_inside n e =
      let t = subst (OwnWay ⊥ (next_instr p s)) e way in
      let l : (next_instr p s).w < length_of p (top_at p s).function = subst (λ (u : Use). Allowed u p (top_at p s).function (next_instr p s) (next_instr p s).w) t.0 operands.w in
      omega (arith, t.1)

  -- ---- Call
  callee : (next_instr p s).op ≡ Call → (next_instr p s).b < functions_of p
  unfolding forms fields_of
  callee e = subst (λ (n : ℕ). Allowed (fields_of n).b p (top_at p s).function (next_instr p s) (next_instr p s).b) e operands.b

  result : (next_instr p s).op ≡ Call → (next_instr p s).a < (top_at p s).limit
  unfolding forms fields_of
  result e = subst (λ (n : ℕ). Allowed (fields_of n).a p (top_at p s).function (next_instr p s) (next_instr p s).a) e operands.a

  arguments : (next_instr p s).op ≡ Call → ((next_instr p s).c + (next_instr p s).w ≤ (top_at p s).limit) × ((next_instr p s).w ≤ regs_of p (next_instr p s).b)
  unfolding forms fields_of
  arguments e = subst (λ (n : ℕ). Allowed (fields_of n).w p (top_at p s).function (next_instr p s) (next_instr p s).w) e operands.w

  fits : (next_instr p s).op ≡ Call → window_fits (top_at p s).limit (regs_of p (next_instr p s).b) (next_instr p s) ≡ true
  unfolding window_fits
  fits e = rw (le-leb _ _ (arguments e).0, le-leb _ _ (arguments e).1) (or_true (eqb (next_instr p s).w 0))

  -- the words after a push
  abbrev frames' : List ℕ
  frames' = pushed_frames s.frames s.depth (top_at p s) (next_instr p s)

  abbrev regs' : List ℕ
  regs' = pushed_regs s.regs (top_at p s) (next_instr p s) (regs_of p (next_instr p s).b)

  module _ (is : (next_instr p s).op ≡ Call) (room : 4 * (s.depth + 1) ≤ length s.frames) where
    pushed_places : (k : ℕ) → k < s.depth + 1 → place_word frames' k ≤ length_of p (function_word frames' k)
    pushed_places k q = go (ltb (suc k) s.depth) refl (ltb k s.depth) refl
      where
        go : (b : Bool) → ltb (suc k) s.depth ≡ b → (c : Bool) → ltb k s.depth ≡ c → place_word frames' k ≤ length_of p (function_word frames' k)
        go true x c y =
            let l : suc k < s.depth = ltb-true _ _ x in
            rw (old_place s.frames s.depth (top_at p s) (next_instr p s) k (omega arith) l, old_function s.frames s.depth (top_at p s) (next_instr p s) k (omega arith))
            (h.places k (omega arith))
        go false x true y =
            let l : k < s.depth = ltb-true _ _ y in
            let m : s.depth ≤ suc k = ltb-false _ _ x in
            let e : k ≡ s.depth - 1 = omega arith in
            rw (e, caller_place s.frames s.depth (top_at p s) (next_instr p s) some room, old_function s.frames s.depth (top_at p s) (next_instr p s) (s.depth - 1) (omega (arith, some)))
            (omega (arith, inside))
        go false x false y =
            let m : s.depth ≤ k = ltb-false _ _ y in
            let e : k ≡ s.depth = omega arith in
            rw (e, new_place s.frames s.depth (top_at p s) (next_instr p s) some room) (omega arith)

    pushed_dsts : (k : ℕ) → suc k < s.depth + 1 → dst_word frames' (suc k) < regs_of p (function_word frames' k)
    pushed_dsts k q = go (ltb (suc k) s.depth) refl
      where
        go : (b : Bool) → ltb (suc k) s.depth ≡ b → dst_word frames' (suc k) < regs_of p (function_word frames' k)
        go true x =
            let l : suc k < s.depth = ltb-true _ _ x in
            rw (old_dst s.frames s.depth (top_at p s) (next_instr p s) (suc k) l, old_function s.frames s.depth (top_at p s) (next_instr p s) k (omega arith)) (h.dsts k l)
        go false x =
            let m : s.depth ≤ suc k = ltb-false _ _ x in
            let e : suc k ≡ s.depth = omega arith in
            let f : k ≡ s.depth - 1 = omega arith in
            rw (e, new_dst s.frames s.depth (top_at p s) (next_instr p s) some room, f, old_function s.frames s.depth (top_at p s) (next_instr p s) (s.depth - 1) (omega (arith, some)))
            (result is)

    pushed_linked : (top_at p s).first + (top_at p s).limit + regs_of p (next_instr p s).b ≤ length s.regs → Linked p (state frames' regs' (s.depth + 1))
    pushed_linked space = record {
      good = push_keeps p s (top_at p s) (next_instr p s) h.good (callee is) room space;
      places = pushed_places;
      dsts = pushed_dsts;
    }

  -- ---- Ret
  reads : went_at p s ≡ Ok Leaves → (next_instr p s).op ≢ Call → (next_instr p s).a < (top_at p s).limit
  unfolding forms fields_of
  reads l n =
      let low : 54 ≤ (next_instr p s).op = subst (OwnWay ⊥ (next_instr p s)) l way in
      let high : (next_instr p s).op < 56 = sure.opcode (top_at p s).function (top_at p s).place known inside in
      let e : (next_instr p s).op ≡ 55 = between (next_instr p s).op low high n in
      subst (λ (m : ℕ). Allowed (fields_of m).a p (top_at p s).function (next_instr p s) (next_instr p s).a) e operands.a

  taken : 1 < s.depth → dst_at s < (below_at p s).limit
  taken deep =
      let e : suc (s.depth - 1 - 1) ≡ s.depth - 1 = omega arith in
      subst (λ (k : ℕ). dst_word s.frames k < regs_of p (function_word s.frames (s.depth - 1 - 1))) e (h.dsts (s.depth - 1 - 1) (omega arith))

  handed_linked : (j v : ℕ) → 1 < s.depth → Linked p (state s.frames (set s.regs j v) (s.depth - 1))
  handed_linked j v deep = record {
    good = rw length-set (record { some = omega arith; room = omega (arith, h.good.room); each = λ k l. h.good.each k (omega arith) });
    places = λ k l. h.places k (omega arith);
    dsts = λ k l. h.dsts k (omega arith);
  }

  -- ---- any instruction
  pub step_linked : (most : ℕ) → Keeps (Linked p) SoundEnd (step p most s)
  step_linked most =
      step_cases p most s (Keeps (Linked p) SoundEnd) (record {
        on = λ e l. moved_linked ((top_at p s).place + 1) (regs_at p s) (l ∙ wide) (omega (arith, inside));
        to = λ n e l. moved_linked n (regs_at p s) (ap length l ∙ wide) (jump_inside n e);
        fails = λ x e. own_sound x (subst (OwnWay ⊥ (next_instr p s)) e way);
        deep = λ _ _ _. tt;
        unknown = λ _ is _ l. omega (arith, callee is);
        misfits = λ _ is _ _ e. true≢false (sym (fits is) ∙ e);
        frames = λ _ _. tt;
        registers = λ _ _ _. tt;
        pushes = λ c room space. pushed_linked c.is room space;
        lacks = λ l n q. omega (arith, reads l n);
        returns = λ _ _. tt;
        hands = λ _ deep _. handed_linked ((below_at p s).first + dst_at s) (source p s) deep;
        nowhere = λ _ deep q. omega (arith, taken deep);
      })
