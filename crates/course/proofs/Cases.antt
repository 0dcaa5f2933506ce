-- One step by its tests: what holds of each of its ways holds of the step. Assumes nothing.
use Prim.Native.Nat.{ℕ, ◌+◌, ◌*◌, ◌-◌, ◌≤◌, ◌<◌}
use mathlib.Core.Path.{◌≡◌, refl, sym}
use mathlib.Core.Bool.{Bool, true, false, ◌&&◌, ◌||◌, true≢false}
use mathlib.Core.List.{List}
use mathlib.Core.Logic.{◌≢◌}
use native.Mathlib.Omega.{arith}
use lib.Dec.{ltb, leb, eqb}
use lib.ListN.{length, get_or, set}
use borrow.Author.Tests.{ltb-true, ltb-false, leb-true, leb-false, eqb-true, eqb-false}
use Rattle.basis.specs.Choice.{pick}
use Rattle.runtime.specs.declared.CoreTrap.{CoreTrap}
use Rattle.runtime.specs.declared.CoreTrap.TheVariants.{InvalidRegister, CallDepthExceeded, InvalidFunction}
use Rattle.instr.specs.declared.Instr.{Instr}
use Rattle.image.specs.Program.{Program}
use Rattle.image.specs.Parts.{functions_of, regs_of, Call}
use Rattle.straight.specs.declared.Went.{Went}
use Rattle.straight.specs.declared.Went.TheVariants.{On, To, Leaves}
use Rattle.straight.specs.Straight.{straight}
use Rattle.straight.proofs.Stays.{Stays, straight_stays}
use Rattle.exec.specs.declared.frame.Top.{Top}
use Rattle.exec.specs.declared.Ending.TheVariants.{Returned, Trapped, FrameRoom, RegisterRoom}
use Rattle.exec.specs.Lent.{dst_word, part, State, state, top_of, top_at}
use Rattle.exec.specs.Step.{Stepped, stops, goes, moved, landed, too_deep, window_fits, pushed_frames, pushed_regs, called, handed, returned, left, acted, next_instr, step}
use Rattle.exec.specs.Burst.{Window}
use Rattle.std.specs.Prelude.{Result, Ok, Err}

-- the running frame's registers, and what its instruction asks for there
abbrev pub window : Program → State → List ℕ
window p s = part s.regs (top_at p s).first (top_at p s).limit

abbrev pub went_at : Program → State → Result Went CoreTrap
went_at p s = (straight (next_instr p s) (window p s)).went

abbrev pub regs_at : Program → State → List ℕ
regs_at p s = (straight (next_instr p s) (window p s)).regs

-- the value that a Ret reads
abbrev pub source : Program → State → ℕ
source p s = get_or s.regs ((top_at p s).first + (next_instr p s).a) 0

-- the frame below, and its register that takes the value
abbrev pub below_at : Program → State → Top
below_at p s = top_of p s.frames (s.depth - 1)

abbrev pub dst_at : State → ℕ
dst_at s = dst_word s.frames (s.depth - 1)

-- a Call that passes its first three tests
pub record Calls (p : Program) (most : ℕ) (s : State) : Type 0 where
  pub leaves : went_at p s ≡ Ok Leaves
  pub is : (next_instr p s).op ≡ Call
  pub shallow : s.depth < most
  pub known : (next_instr p s).b < functions_of p
  pub fits : window_fits (top_at p s).limit (regs_of p (next_instr p s).b) (next_instr p s) ≡ true

-- a Ret that reads its src
pub record Rets (p : Program) (s : State) : Type 0 where
  pub leaves : went_at p s ≡ Ok Leaves
  pub is : (next_instr p s).op ≢ Call
  pub reads : (next_instr p s).a < (top_at p s).limit

pub record Cases (p : Program) (most : ℕ) (s : State) (Q : Stepped → Type 0) : Type 0 where
  -- inside the frame
  pub on : went_at p s ≡ Ok On → length (regs_at p s) ≡ length (window p s) → Q (goes (moved s (top_at p s) ((top_at p s).place + 1) (regs_at p s)))
  pub to : (n : ℕ) → went_at p s ≡ Ok (To n) → regs_at p s ≡ window p s → Q (goes (moved s (top_at p s) n (regs_at p s)))
  pub fails : (x : CoreTrap) → went_at p s ≡ Err x → Q (stops s (Err (Trapped x)))
  -- Call
  pub deep : went_at p s ≡ Ok Leaves → (next_instr p s).op ≡ Call → most ≤ s.depth → Q (stops s (Err (Trapped CallDepthExceeded)))
  pub unknown : went_at p s ≡ Ok Leaves → (next_instr p s).op ≡ Call → s.depth < most → functions_of p ≤ (next_instr p s).b → Q (stops s (Err (Trapped InvalidFunction)))
  pub misfits : went_at p s ≡ Ok Leaves → (next_instr p s).op ≡ Call → s.depth < most → (next_instr p s).b < functions_of p
      → window_fits (top_at p s).limit (regs_of p (next_instr p s).b) (next_instr p s) ≡ false → Q (stops s (Err (Trapped InvalidRegister)))
  pub frames : Calls p most s → length s.frames < 4 * (s.depth + 1) → Q (stops s (Err FrameRoom))
  pub registers : Calls p most s → 4 * (s.depth + 1) ≤ length s.frames → length s.regs < (top_at p s).first + (top_at p s).limit + regs_of p (next_instr p s).b
      → Q (stops s (Err RegisterRoom))
  pub pushes : Calls p most s → 4 * (s.depth + 1) ≤ length s.frames → (top_at p s).first + (top_at p s).limit + regs_of p (next_instr p s).b ≤ length s.regs
      → Q (goes (state (pushed_frames s.frames s.depth (top_at p s) (next_instr p s)) (pushed_regs s.regs (top_at p s) (next_instr p s) (regs_of p (next_instr p s).b)) (s.depth + 1)))
  -- Ret
  pub lacks : went_at p s ≡ Ok Leaves → (next_instr p s).op ≢ Call → (top_at p s).limit ≤ (next_instr p s).a → Q (stops s (Err (Trapped InvalidRegister)))
  pub returns : Rets p s → s.depth ≤ 1 → Q (stops s (Err (Returned (source p s))))
  pub hands : Rets p s → 1 < s.depth → dst_at s < (below_at p s).limit → Q (goes (state s.frames (set s.regs ((below_at p s).first + dst_at s) (source p s)) (s.depth - 1)))
  pub nowhere : Rets p s → 1 < s.depth → (below_at p s).limit ≤ dst_at s → Q (stops s (Err (Trapped InvalidRegister)))

by : (Q : Stepped → Type 0) (b : Bool) (x y : Stepped) → (b ≡ true → Q x) → (b ≡ false → Q y) → Q (pick b x y)
by Q true x y f g = f refl
by Q false x y f g = g refl

module _ (p : Program) (most : ℕ) (s : State) (Q : Stepped → Type 0) (c : Cases p most s Q) where
  called_cases : went_at p s ≡ Ok Leaves → (next_instr p s).op ≡ Call → Q (called p most s (top_at p s) (next_instr p s))
  unfolding called too_deep
  called_cases l e =
      by Q (leb most s.depth) _ _ (λ q. c.deep l e (leb-true _ _ q)) (λ shallow.
      by Q (leb (functions_of p) (next_instr p s).b) _ _ (λ q. c.unknown l e (leb-false _ _ shallow) (leb-true _ _ q)) (λ known.
      by Q (window_fits (top_at p s).limit (regs_of p (next_instr p s).b) (next_instr p s)) _ _ (λ fits.
      let k : Calls p most s = record { leaves = l; is = e; shallow = leb-false _ _ shallow; known = leb-false _ _ known; fits = fits } in
      by Q (ltb (length s.frames) (4 * (s.depth + 1))) _ _ (λ q. c.frames k (ltb-true _ _ q)) (λ room.
      by Q (ltb (length s.regs) ((top_at p s).first + (top_at p s).limit + regs_of p (next_instr p s).b)) _ _ (λ q. c.registers k (ltb-false _ _ room) (ltb-true _ _ q)) (λ q.
      c.pushes k (ltb-false _ _ room) (ltb-false _ _ q))))
      (λ q. c.misfits l e (leb-false _ _ shallow) (leb-false _ _ known) q)))

  returned_cases : went_at p s ≡ Ok Leaves → (next_instr p s).op ≢ Call → Q (returned p s (top_at p s) (next_instr p s))
  unfolding returned handed
  returned_cases l e =
      by Q (ltb (next_instr p s).a (top_at p s).limit) _ _ (λ q.
      let k : Rets p s = record { leaves = l; is = e; reads = ltb-true _ _ q } in
      by Q (ltb 1 s.depth) _ _ (λ deep.
      by Q (ltb (dst_at s) (below_at p s).limit) _ _ (λ r. c.hands k (ltb-true _ _ deep) (ltb-true _ _ r)) (λ r. c.nowhere k (ltb-true _ _ deep) (ltb-false _ _ r)))
      (λ deep. c.returns k (ltb-false _ _ deep)))
      (λ q. c.lacks l e (ltb-false _ _ q))

  left_cases : went_at p s ≡ Ok Leaves → Q (left p most s (top_at p s) (next_instr p s))
  unfolding left
  left_cases l = by Q (eqb (next_instr p s).op Call) _ _ (λ q. called_cases l (eqb-true _ _ q)) (λ q. returned_cases l (eqb-false _ _ q))

  landed_cases : (a : Result Went CoreTrap) → went_at p s ≡ a → Stays (window p s) a (regs_at p s) → Q (landed s (top_at p s) (left p most s (top_at p s) (next_instr p s)) a (regs_at p s))
  landed_cases (Ok On) e k = c.on e k
  landed_cases (Ok (To n)) e k = c.to n e k
  landed_cases (Err x) e k = c.fails x e
  landed_cases (Ok Leaves) e k = left_cases e

  pub step_cases : Q (step p most s)
  unfolding step acted
  step_cases = landed_cases (went_at p s) refl (straight_stays (next_instr p s) (window p s))

-- the test of a Call's arguments is the fact
pub window_fact : (caller callee : ℕ) (i : Instr) → window_fits caller callee i ≡ true → Window caller callee i.c i.w
unfolding window_fits
window_fact caller callee i e = go (eqb i.w 0) refl (leb (i.c + i.w) caller) refl (leb i.w callee) refl e
  where
    go : (x : Bool) → eqb i.w 0 ≡ x → (y : Bool) → leb (i.c + i.w) caller ≡ y → (z : Bool) → leb i.w callee ≡ z
        → (x || (y && z)) ≡ true → Window caller callee i.c i.w
    go true p y q z r e = let w : i.w ≡ 0 = eqb-true _ _ p in record { callee = omega arith; caller = λ h. omega arith }
    go false p true q true r e = record { callee = leb-true _ _ r; caller = λ h. leb-true _ _ q }
    go false p true q false r e = absurd (true≢false (sym e))
    go false p false q z r e = absurd (true≢false (sym e))
