-- A step keeps the frames standing. Assumes nothing.
use Prim.Native.Nat.{ℕ, suc, ◌+◌, ◌*◌, ◌-◌, ◌≤◌, ◌<◌}
use mathlib.Core.Path.{◌≡◌, refl, sym, ◌∙◌, ap, subst}
use mathlib.Core.Bool.{Bool, true, false}
use mathlib.Core.List.{List}
use mathlib.Core.Logic.{◌≢◌}
use native.Mathlib.Omega.{arith}
use borrow.Author.Count.{below_more}
use lib.Dec.{ltb, leb, eqb}
use lib.ListN.{length, get_or, set, length-set}
use lib.Seq.{get_or-set_other, get_or-set_same, length-sets}
use borrow.Author.Tests.{ltb-true, ltb-false, leb-false}
use Rattle.std.specs.Prelude.{Result, Ok, Err}
use Rattle.runtime.specs.declared.CoreTrap.{CoreTrap}
use Rattle.basis.specs.Choice.{pick}
use Rattle.instr.specs.declared.Instr.{Instr}
use Rattle.image.specs.Program.{Program}
use Rattle.image.specs.Parts.{functions_of, regs_of, Call}
use Rattle.straight.specs.declared.Went.{Went}
use Rattle.straight.specs.declared.Went.TheVariants.{On, To, Leaves}
use Rattle.straight.specs.Straight.{straight}
use Rattle.straight.proofs.Stays.{Stays, straight_stays}
use Rattle.exec.specs.declared.Ending.{Ending}
use Rattle.exec.specs.declared.frame.Top.{Top}
use Rattle.exec.specs.Lent.{dst_word, part, State, state, top_of, top_at}
use Rattle.exec.specs.Step.{Stepped, stepped, moved, landed, too_deep, window_fits, pushed_frames, pushed_regs, called, handed, returned, left, acted, step}
use Rattle.exec.specs.Burst.{Frame, Ready, Good}
use Rattle.exec.proofs.Parts.{length_part, length-put}

-- the running frame and the one below it
pub good_ready : (p : Program) (fr : List ℕ) (n d : ℕ) → Good p fr n d → Ready p fr n d
good_ready p fr n d g = record {
  some = g.some;
  room = g.room;
  top = g.each (d - 1) (omega (arith, g.some));
  below = λ h. g.each (d - 1 - 1) (omega arith);
}

-- after a step that goes on, all frames stand
abbrev pub Kept : Program → Result ℕ Ending → List ℕ → List ℕ → Type 0
Kept p (Ok d) fr rg = Good p fr (length rg) d
Kept p (Err e) fr rg = Unit

abbrev pub Keeps : Program → Stepped → Type 0
Keeps p o = Kept p o.answer o.frames o.regs

abbrev pub GoodIn : Program → State → Type 0
GoodIn p s = Good p s.frames (length s.regs) s.depth

-- by a test
by : (p : Program) (b : Bool) (x y : Stepped) → (b ≡ true → Keeps p x) → (b ≡ false → Keeps p y) → Keeps p (pick b x y)
by p true x y f g = f refl
by p false x y f g = g refl

-- a store that leaves a record alone
other : (p : Program) (fr : List ℕ) (n k j v : ℕ) → 4 * k ≢ j → 4 * k + 3 ≢ j → Frame p fr n k → Frame p (set fr j v) n k
other p fr n k j v a b f = record {
  function = rw (get_or-set_other fr j (4 * k) v 0 a) f.function;
  registers = rw (get_or-set_other fr j (4 * k) v 0 a, get_or-set_other fr j (4 * k + 3) v 0 b) f.registers;
}

-- the running frame moved, with as many registers
pub moved_good : (p : Program) (s : State) (n : ℕ) (w : List ℕ) → GoodIn p s → length w ≡ (top_at p s).limit → GoodIn p (moved s (top_at p s) n w)
moved_good p s n w g e =
    let fits : (top_at p s).first + (top_at p s).limit ≤ length s.regs = (g.each (s.depth - 1) (omega (arith, g.some))).registers in
    rw (length-put s.regs (top_at p s).first (top_at p s).limit fits w e) (record {
      some = g.some;
      room = rw length-set g.room;
      each = λ k h. other p s.frames (length s.regs) k (4 * (s.depth - 1) + 1) n (λ e. omega arith) (λ e. omega arith) (g.each k h);
    })

-- so it is with the running frame and the one below it alone
pub moved_ready : (p : Program) (s : State) (n : ℕ) (w : List ℕ) → Ready p s.frames (length s.regs) s.depth → length w ≡ (top_at p s).limit
    → Ready p (moved s (top_at p s) n w).frames (length (moved s (top_at p s) n w).regs) s.depth
moved_ready p s n w g e =
    rw (length-put s.regs (top_at p s).first (top_at p s).limit g.top.registers w e) (record {
      some = g.some;
      room = rw length-set g.room;
      top = other p s.frames (length s.regs) (s.depth - 1) (4 * (s.depth - 1) + 1) n (λ e. omega arith) (λ e. omega arith) g.top;
      below = λ h. other p s.frames (length s.regs) (s.depth - 1 - 1) (4 * (s.depth - 1) + 1) n (λ e. omega arith) (λ e. omega arith) (g.below h);
    })

-- every instruction inside a frame
landed_keeps : (p : Program) (s : State) (l : Stepped) (a : Result Went CoreTrap) (w : List ℕ) → GoodIn p s → Keeps p l → Stays (part s.regs (top_at p s).first (top_at p s).limit) a w
    → Keeps p (landed s (top_at p s) l a w)
landed_keeps p s l (Ok On) w g k e =
    moved_good p s ((top_at p s).place + 1) w g (e ∙ length_part s.regs (top_at p s).first (top_at p s).limit (g.each (s.depth - 1) (omega (arith, g.some))).registers)
landed_keeps p s l (Ok (To n)) w g k e =
    moved_good p s n w g (ap length e ∙ length_part s.regs (top_at p s).first (top_at p s).limit (g.each (s.depth - 1) (omega (arith, g.some))).registers)
landed_keeps p s l (Err t) w g k e = tt
landed_keeps p s l (Ok Leaves) w g k e = k

pub handed_keeps : (p : Program) (s : State) (v : ℕ) → GoodIn p s → 1 < s.depth → Keeps p (handed p s v)
unfolding handed
handed_keeps p s v g h =
    by p (ltb (dst_word s.frames (s.depth - 1)) (top_of p s.frames (s.depth - 1)).limit) _ _
    (λ e. rw length-set (record { some = omega arith; room = omega (arith, g.room); each = λ k l. g.each k (omega arith) }))
    (λ e. tt)

returned_keeps : (p : Program) (s : State) (t : Top) (i : Instr) → GoodIn p s → Keeps p (returned p s t i)
unfolding returned
returned_keeps p s t i g =
    by p (ltb i.a t.limit) _ _
    (λ e. by p (ltb 1 s.depth) _ _ (λ l. handed_keeps p s _ g (ltb-true 1 s.depth l)) (λ l. tt))
    (λ e. tt)

-- a record is pushed on top
pub push_keeps : (p : Program) (s : State) (t : Top) (i : Instr) → GoodIn p s → i.b < functions_of p
    → 4 * (s.depth + 1) ≤ length s.frames → t.first + t.limit + regs_of p i.b ≤ length s.regs
    → Good p (pushed_frames s.frames s.depth t i) (length (pushed_regs s.regs t i (regs_of p i.b))) (s.depth + 1)
unfolding pushed_frames pushed_regs
push_keeps p s t i g f r q =
    let d : ℕ = s.depth in
    let n : ℕ = length s.regs in
    let fr : List ℕ = s.frames in
    let f1 : List ℕ = set fr (4 * (d - 1) + 1) (t.place + 1) in
    let f2 : List ℕ = set f1 (4 * d) i.b in
    let f3 : List ℕ = set f2 (suc (4 * d)) 0 in
    let f4 : List ℕ = set f3 (suc (suc (4 * d))) i.a in
    let f5 : List ℕ = set f4 (suc (suc (suc (4 * d)))) (t.first + t.limit) in
    let old : (k : ℕ) → k < d → Frame p f5 n k = λ k h.
    other p f4 n k (suc (suc (suc (4 * d)))) _ (λ e. omega arith) (λ e. omega arith)
    (other p f3 n k (suc (suc (4 * d))) _ (λ e. omega arith) (λ e. omega arith)
    (other p f2 n k (suc (4 * d)) _ (λ e. omega arith) (λ e. omega arith)
    (other p f1 n k (4 * d) _ (λ e. omega arith) (λ e. omega arith)
    (other p fr n k (4 * (d - 1) + 1) _ (λ e. omega arith) (λ e. omega arith) (g.each k h))))) in
    let a : get_or f5 (4 * d) 0 ≡ i.b =
    get_or-set_other f4 (suc (suc (suc (4 * d)))) (4 * d) _ 0 (λ e. omega arith)
    ∙ get_or-set_other f3 (suc (suc (4 * d))) (4 * d) _ 0 (λ e. omega arith)
    ∙ get_or-set_other f2 (suc (4 * d)) (4 * d) _ 0 (λ e. omega arith)
    ∙ get_or-set_same f1 (4 * d) i.b 0 (simp length-set (omega arith)) in
    let third : 4 * d + 3 ≡ suc (suc (suc (4 * d))) = omega arith in
    let b : get_or f5 (4 * d + 3) 0 ≡ t.first + t.limit = rw third (get_or-set_same f4 (suc (suc (suc (4 * d)))) _ 0 (simp length-set (omega arith))) in
    let new : Frame p f5 n d = record { function = rw a f; registers = rw (b, a) q } in
    record {
      some = omega arith;
      room = simp length-set (omega arith);
      each = λ k h. rw length-sets (below_more (λ (j : ℕ). Frame p f5 n j) d old new k h);
    }

called_keeps : (p : Program) (most : ℕ) (s : State) (t : Top) (i : Instr) → GoodIn p s → Keeps p (called p most s t i)
unfolding called
called_keeps p most s t i g =
    by p (too_deep most s.depth) _ _ (λ e. tt) (λ e.
    by p (leb (functions_of p) i.b) _ _ (λ e. tt) (λ known.
    by p (window_fits t.limit (regs_of p i.b) i) _ _ (λ e.
    by p (ltb (length s.frames) (4 * (s.depth + 1))) _ _ (λ e. tt) (λ r.
    by p (ltb (length s.regs) (t.first + t.limit + regs_of p i.b)) _ _ (λ e. tt)
    (λ q. push_keeps p s t i g (leb-false (functions_of p) i.b known) (ltb-false _ _ r) (ltb-false _ _ q))))
    (λ e. tt)))

left_keeps : (p : Program) (most : ℕ) (s : State) (t : Top) (i : Instr) → GoodIn p s → Keeps p (left p most s t i)
unfolding left
left_keeps p most s t i g = by p (eqb i.op Call) _ _ (λ e. called_keeps p most s t i g) (λ e. returned_keeps p s t i g)

acted_keeps : (p : Program) (most : ℕ) (s : State) (i : Instr) → GoodIn p s → Keeps p (acted p most s (top_at p s) i)
unfolding acted
acted_keeps p most s i g =
    let w : List ℕ = part s.regs (top_at p s).first (top_at p s).limit in
    landed_keeps p s (left p most s (top_at p s) i) (straight i w).went (straight i w).regs g (left_keeps p most s (top_at p s) i g) (straight_stays i w)

-- a step that goes on leaves all frames standing
pub step_keeps : (p : Program) (most : ℕ) (fr rg : List ℕ) (d : ℕ) (fr' rg' : List ℕ) (d' : ℕ) → Good p fr (length rg) d
    → stepped (Ok d') fr' rg' ≡ step p most (state fr rg d) → Good p fr' (length rg') d'
unfolding step
step_keeps p most fr rg d fr' rg' d' g e =
    subst (λ (o : Stepped). Keeps p o) (sym e) (acted_keeps p most (state fr rg d) _ g)
