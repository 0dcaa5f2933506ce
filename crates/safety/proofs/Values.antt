-- A run keeps values in the registers that it has reached, and hands back a value. Assumes nothing.
use Prim.Native.Nat.{ℕ, zero, suc, ◌+◌, ◌*◌, ◌-◌, ◌≤◌, ◌<◌, max}
use mathlib.Core.Path.{◌≡◌, refl, sym, ap, ◌∙◌, subst}
use mathlib.Core.Bool.{Bool, true, false}
use mathlib.Core.List.{List, [], ◌∷◌, ◌++◌}
use native.Mathlib.Nat.{not-suc-le-zero, le_of_suc-le-suc}
use native.Mathlib.Omega.{arith}
use lib.Dec.{ltb, eqb}
use lib.ListN.{length, get_or, set, take, drop, replicate, length-set, length-append, length-replicate}
use lib.Seq.{sets, get_or-set_same, get_or-set_other, get_or-take, get_or-drop, length-sets}
use borrow.Author.Tests.{ltb-true, ltb-false, eqb-true, eqb-false}
use Rattle.value.specs.declared.word.CoreValue.TheVariants as value
use Rattle.value.specs.Value.{HoldsValue, word_of}
use Rattle.operate.specs.Values.{HoldValues, LoadsValue}
use Rattle.image.specs.Program.{Program}
use Rattle.image.specs.Parts.{regs_of, length_of, code_of}
use Rattle.straight.proofs.Holds.{straight_holds}
use Rattle.exec.specs.declared.Ending.{Ending}
use Rattle.exec.specs.declared.Ending.TheVariants.{Returned, Trapped, FrameRoom, RegisterRoom}
use Rattle.exec.specs.Price.{Price, Fair}
use Rattle.exec.specs.Lent.{function_word, first_word, unit_word, put, State, state, top_at}
use Rattle.exec.specs.Step.{moved, pushed_frames, pushed_regs, next_instr, step, Inside}
use Rattle.exec.specs.Run.{run}
use Rattle.exec.specs.Execute.{entry_state, entered}
use Rattle.exec.specs.Burst.{Window}
use Rattle.exec.proofs.Parts.{length_part, length-put, get_or-part, put_low, put_in, put_high}
use Rattle.exec.proofs.Lists.{get_or-sets_below, get_or-sets_in, get_or-sets_above, take_len}
use Rattle.course.specs.Course.{after, charged, Stop, Course}
use Rattle.course.specs.Course.Stop.{past, dry, acts}
use Rattle.course.proofs.Cases.{window, regs_at, source, below_at, dst_at, Rets, step_cases, window_fact}
use Rattle.course.proofs.Words.{moved_function, moved_first, old_function, old_first, new_function, new_first, entry_function, entry_first}
use Rattle.course.proofs.Entered.{entered_cases}
use Rattle.course.proofs.Courses.{run_course}
use Rattle.course.proofs.Along.{Keeps, along, at_end}

-- every instruction loads values, as those of a well-formed image do
abbrev pub LoadsValues : Program → Type 0
LoadsValues p = (k j : ℕ) → j < length_of p k → LoadsValue (code_of p k j).op (code_of p k j)

-- the first `reach` words of registers, among them those of all frames, hold values
pub record Valued (p : Program) (s : State) : Type 0 where
  pub some : 1 ≤ s.depth
  pub reach : ℕ
  pub lent : reach ≤ length s.regs
  pub windows : (k : ℕ) → k < s.depth → first_word s.frames k + regs_of p (function_word s.frames k) ≤ reach
  pub values : (j : ℕ) → j < reach → HoldsValue (get_or s.regs j 0)

-- what is returned is a value
abbrev pub EndsValued : Ending → Type 0
EndsValued (Returned v) = HoldsValue v
EndsValued (Trapped t) = Unit {0}
EndsValued FrameRoom = Unit {0}
EndsValued RegisterRoom = Unit {0}

-- ---- lists of values
unit_holds : HoldsValue unit_word
unfolding word_of
unit_holds = record { value = value.Unit; held = tt; is = refl }

append_holds : (xs ys : List ℕ) → HoldValues xs → HoldValues ys → HoldValues (xs ++ ys)
append_holds [] ys h k r l = k r l
append_holds (x ∷ xs) ys h k zero l = h 0 (omega arith)
append_holds (x ∷ xs) ys h k (suc r) l = append_holds xs ys (λ r l. h (suc r) (omega arith)) k r (le_of_suc-le-suc l)

units_hold : (n : ℕ) → HoldValues (replicate n unit_word)
units_hold zero r l = absurd (not-suc-le-zero l)
units_hold (suc n) zero l = unit_holds
units_hold (suc n) (suc r) l = units_hold n r (le_of_suc-le-suc l)

-- the first n words of a list hold values
abbrev HoldTo : ℕ → List ℕ → Type 0
HoldTo n xs = (j : ℕ) → j < n → HoldsValue (get_or xs j 0)

set_to : (n : ℕ) (xs : List ℕ) (a v : ℕ) → a < length xs → HoldTo n xs → HoldsValue v → HoldTo n (set xs a v)
set_to n xs a v l h hv j q = go (eqb j a) refl
  where
    go : (b : Bool) → eqb j a ≡ b → HoldsValue (get_or (set xs a v) j 0)
    go true e = rw (eqb-true j a e, get_or-set_same xs a v 0 l) hv
    go false e = rw (get_or-set_other xs a j v 0 (eqb-false j a e)) (h j q)

put_to : (n : ℕ) (xs : List ℕ) (a k : ℕ) (vs : List ℕ) → length vs ≡ k → a + k ≤ length xs → HoldTo n xs → HoldValues vs → HoldTo n (put xs a k vs)
put_to n xs a k vs e fits h held j q = go (ltb j a) refl (ltb j (a + k)) refl
  where
    go : (b : Bool) → ltb j a ≡ b → (c : Bool) → ltb j (a + k) ≡ c → HoldsValue (get_or (put xs a k vs) j 0)
    go true x c y = rw (put_low xs a k fits vs j (ltb-true _ _ x)) (h j q)
    go false x true y =
        let l : a ≤ j = ltb-false _ _ x in
        let m : j < a + k = ltb-true _ _ y in
        let z : a + (j - a) ≡ j = omega arith in
        subst (λ (i : ℕ). HoldsValue (get_or (put xs a k vs) i 0)) z (rw (put_in xs a k fits vs (j - a) e (omega arith)) (held (j - a) (rw e (omega arith))))
    go false x false y =
        let m : a + k ≤ j = ltb-false _ _ y in
        let z : a + (k + (j - a - k)) ≡ j = omega arith in
        subst (λ (i : ℕ). HoldsValue (get_or (put xs a k vs) i 0)) z (rw (put_high xs a k fits vs (j - a - k) e) (h (a + (k + (j - a - k))) (omega arith)))

sets_to : (n : ℕ) (xs : List ℕ) (a : ℕ) (vs : List ℕ) → a ≤ n → a + length vs ≤ length xs → HoldTo n xs → HoldValues vs → HoldTo (max n (a + length vs)) (sets xs a vs)
sets_to n xs a vs from fits h held j q = go (ltb j a) refl (ltb j (a + length vs)) refl
  where
    go : (b : Bool) → ltb j a ≡ b → (c : Bool) → ltb j (a + length vs) ≡ c → HoldsValue (get_or (sets xs a vs) j 0)
    go true x c y = let l : j < a = ltb-true _ _ x in rw (get_or-sets_below xs a j vs l) (h j (omega arith))
    go false x true y =
        let l : a ≤ j = ltb-false _ _ x in
        let m : j < a + length vs = ltb-true _ _ y in
        let z : a + (j - a) ≡ j = omega arith in
        subst (λ (i : ℕ). HoldsValue (get_or (sets xs a vs) i 0)) z (rw (get_or-sets_in xs a vs (j - a) fits (omega arith)) (held (j - a) (omega arith)))
    go false x false y =
        let m : a + length vs ≤ j = ltb-false _ _ y in
        rw (get_or-sets_above xs a j vs m) (h j (omega arith))

module _ (p : Program) (s : State) (h : Valued p s) where
  some : 1 ≤ s.depth
  some = h.some

  fits : (top_at p s).first + (top_at p s).limit ≤ h.reach
  fits = h.windows (s.depth - 1) (omega (arith, some))

  lies : (top_at p s).first + (top_at p s).limit ≤ length s.regs
  lies = omega (arith, fits, h.lent)

  wide : length (window p s) ≡ (top_at p s).limit
  wide = length_part s.regs (top_at p s).first (top_at p s).limit lies

  window_holds : HoldValues (window p s)
  window_holds r l =
      let k : r < (top_at p s).limit = rw wide at l in
      rw (get_or-part s.regs (top_at p s).first (top_at p s).limit lies r k) (h.values ((top_at p s).first + r) (omega (arith, fits)))

  -- ---- inside the frame
  moved_valued : (n : ℕ) (w : List ℕ) → length w ≡ (top_at p s).limit → HoldValues w → Valued p (moved s (top_at p s) n w)
  moved_valued n w e held = record {
    some = some;
    reach = h.reach;
    lent = rw (length-put s.regs (top_at p s).first (top_at p s).limit lies w e) h.lent;
    windows = λ k l. rw (moved_first s.frames s.depth n k, moved_function s.frames s.depth n k) (h.windows k l);
    values = put_to h.reach s.regs (top_at p s).first (top_at p s).limit w e lies h.values held;
  }

  -- ---- Call: the arguments are the caller's, and Unit is a value
  module _ (c : Window (top_at p s).limit (regs_of p (next_instr p s).b) (next_instr p s).c (next_instr p s).w) (room : 4 * (s.depth + 1) ≤ length s.frames)
      (space : (top_at p s).first + (top_at p s).limit + regs_of p (next_instr p s).b ≤ length s.regs) where
    abbrev n : ℕ
    n = regs_of p (next_instr p s).b

    abbrev end : ℕ
    end = (top_at p s).first + (top_at p s).limit

    abbrev args : List ℕ
    args = take (next_instr p s).w (drop ((top_at p s).first + (next_instr p s).c) s.regs)

    abbrev row : List ℕ
    row = args ++ replicate (n - (next_instr p s).w) unit_word

    args_length : length args ≡ (next_instr p s).w
    args_length = take_len s.regs ((top_at p s).first + (next_instr p s).c) end (next_instr p s).w lies (λ q. omega (arith, c.caller q))

    args_hold : HoldValues args
    args_hold r l =
        let k : r < (next_instr p s).w = rw args_length at l in
        let q : (next_instr p s).c + (next_instr p s).w ≤ (top_at p s).limit = c.caller (omega arith) in
        rw (get_or-take (next_instr p s).w (drop ((top_at p s).first + (next_instr p s).c) s.regs) r 0 k, get_or-drop ((top_at p s).first + (next_instr p s).c) s.regs r 0)
        (h.values ((top_at p s).first + (next_instr p s).c + r) (omega (arith, fits)))

    row_length : length row ≡ n
    row_length = rw (length-append, args_length, length-replicate) (omega (arith, c.callee))

    pushed_windows : (k : ℕ) → k < s.depth + 1
        → first_word (pushed_frames s.frames s.depth (top_at p s) (next_instr p s)) k + regs_of p (function_word (pushed_frames s.frames s.depth (top_at p s) (next_instr p s)) k) ≤ max h.reach (end + length row)
    pushed_windows k l = go (ltb k s.depth) refl
      where
        go : (b : Bool) → ltb k s.depth ≡ b
            → first_word (pushed_frames s.frames s.depth (top_at p s) (next_instr p s)) k + regs_of p (function_word (pushed_frames s.frames s.depth (top_at p s) (next_instr p s)) k) ≤ max h.reach (end + length row)
        go true x =
            rw (old_first s.frames s.depth (top_at p s) (next_instr p s) k (ltb-true _ _ x), old_function s.frames s.depth (top_at p s) (next_instr p s) k (ltb-true _ _ x))
            (omega (arith, h.windows k (ltb-true _ _ x)))
        go false x =
            let q : s.depth ≤ k = ltb-false _ _ x in
            let z : k ≡ s.depth = omega arith in
            rw (z, new_first s.frames s.depth (top_at p s) (next_instr p s) some room, new_function s.frames s.depth (top_at p s) (next_instr p s) some room)
            (omega (arith, row_length))

    pushed_valued : Valued p (state (pushed_frames s.frames s.depth (top_at p s) (next_instr p s)) (pushed_regs s.regs (top_at p s) (next_instr p s) n) (s.depth + 1))
    unfolding pushed_regs
    pushed_valued = record {
      some = omega arith;
      reach = max h.reach (end + length row);
      lent = rw length-sets (omega (arith, row_length, h.lent));
      windows = pushed_windows;
      values =
          sets_to h.reach s.regs end row fits (omega (arith, row_length)) h.values
          (append_holds args (replicate (n - (next_instr p s).w) unit_word) args_hold (units_hold (n - (next_instr p s).w)));
    }

  -- ---- Ret
  source_holds : Rets p s → HoldsValue (source p s)
  source_holds r = h.values ((top_at p s).first + (next_instr p s).a) (omega (arith, fits, r.reads))

  handed_valued : Rets p s → 1 < s.depth → dst_at s < (below_at p s).limit → Valued p (state s.frames (set s.regs ((below_at p s).first + dst_at s) (source p s)) (s.depth - 1))
  handed_valued r deep l = record {
    some = omega arith;
    reach = h.reach;
    lent = rw length-set h.lent;
    windows = λ k q. h.windows k (omega arith);
    values = set_to h.reach s.regs ((below_at p s).first + dst_at s) (source p s) (omega (arith, h.windows (s.depth - 1 - 1) (omega arith), h.lent)) h.values (source_holds r);
  }

  pub step_valued : (most : ℕ) → LoadsValues p → Inside p s → Keeps (Valued p) EndsValued (step p most s)
  step_valued most loads inside =
      let held : HoldValues (regs_at p s) = straight_holds (window p s) window_holds (next_instr p s) (loads (top_at p s).function (top_at p s).place inside) in
      step_cases p most s (Keeps (Valued p) EndsValued) (record {
        on = λ e l. moved_valued ((top_at p s).place + 1) (regs_at p s) (l ∙ wide) held;
        to = λ n e l. moved_valued n (regs_at p s) (ap length l ∙ wide) held;
        fails = λ _ _. tt;
        deep = λ _ _ _. tt;
        unknown = λ _ _ _ _. tt;
        misfits = λ _ _ _ _ _. tt;
        frames = λ _ _. tt;
        registers = λ _ _ _. tt;
        pushes = λ c room space. pushed_valued (window_fact (top_at p s).limit (regs_of p (next_instr p s).b) (next_instr p s) c.fits) room space;
        lacks = λ _ _ _. tt;
        returns = λ r _. source_holds r;
        hands = λ r deep l. handed_valued r deep l;
        nowhere = λ _ _ _. tt;
      })

-- ---- the run
module _ (p : Program) (price : Price) (fair : Fair price) (most fuel : ℕ) (loads : LoadsValues p) where
  run_valued : (s : State) → Valued p s → EndsValued (run p price most fuel s).what
  run_valued s h = go c.stop
    where
      c : Course p price most fuel s (run p price most fuel s)
      c = run_course p price most fair fuel s

      go : Stop p price most (fuel - charged p price most c.steps s) (after p most c.steps s) (run p price most fuel s).what c.last → EndsValued (run p price most fuel s).what
      go (past w z l) = subst EndsValued (sym w) tt
      go (dry w z i l) = subst EndsValued (sym w) tt
      go (acts z i l q) =
          at_end p most (Valued p) EndsValued (λ t x y. step_valued p t x most loads y) (after p most c.steps s) (run p price most fuel s).what
          (along p most (Valued p) EndsValued (λ t x y. step_valued p t x most loads y) c.steps s c.leads h) i q

  entry_valued : (fr rg : List ℕ) → 4 ≤ length fr → regs_of p p.entry ≤ length rg → Valued p (entry_state p fr rg)
  entry_valued fr rg room space =
      let units : List ℕ = replicate (regs_of p p.entry) unit_word in
      record {
        some = omega arith;
        reach = max 0 (0 + length units);
        lent = rw length-sets (omega (arith, length-replicate (regs_of p p.entry) unit_word));
        windows = λ k l. let e : k ≡ 0 = omega arith in rw (e, entry_first fr p.entry room, entry_function fr p.entry room) (omega (arith, length-replicate (regs_of p p.entry) unit_word));
        values = sets_to 0 rg 0 units (omega arith) (omega (arith, length-replicate (regs_of p p.entry) unit_word)) (λ j l. absurd (not-suc-le-zero l)) (units_hold (regs_of p p.entry));
      }

  -- what an execution hands back is a value
  pub returns_value : (fr rg : List ℕ) → EndsValued (entered p price most fuel fr rg).what
  returns_value fr rg =
      entered_cases p price most fuel fr rg (λ f. EndsValued f.what) (record {
        unknown = λ _. tt;
        frames = λ _ _. tt;
        registers = λ _ _ _. tt;
        runs = λ _ room space. run_valued (entry_state p fr rg) (entry_valued fr rg room space);
      })
