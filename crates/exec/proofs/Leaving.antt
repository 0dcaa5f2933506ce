-- Call and Ret, test by test. Assumes nothing.
use Prim.Native.Nat.{ℕ, ◌+◌, ◌*◌, ◌-◌, ◌≤◌, ◌<◌}
use mathlib.Core.Path.{◌≡◌, sym, ◌∙◌}
use mathlib.Core.Bool.{true, false}
use mathlib.Core.List.{List}
use native.Mathlib.Omega.{arith}
use lib.ListN.{length, get_or, set}
use borrow.Author.Tests.{le-leb, lt-leb, le-ltb, lt-ltb}
use Rattle.std.specs.Prelude.{Ok, Err}
use Rattle.runtime.specs.declared.CoreTrap.TheVariants.{InvalidRegister, CallDepthExceeded, InvalidFunction}
use Rattle.instr.specs.declared.Instr.{Instr}
use Rattle.image.specs.Program.{Program}
use Rattle.image.specs.Parts.{functions_of, regs_of}
use Rattle.exec.specs.declared.frame.Top.{Top}
use Rattle.exec.specs.declared.Ending.TheVariants.{Returned, Trapped, FrameRoom, RegisterRoom}
use Rattle.exec.specs.Lent.{dst_word, state, top_of}
use Rattle.exec.specs.Step.{Stepped, stepped, too_deep, window_fits, pushed_frames, pushed_regs, called, handed, returned}
use Rattle.exec.specs.Burst.{Ready}

-- ---- Call
module _ (p : Program) (most : ℕ) (fr rg : List ℕ) (d : ℕ) (t : Top) (i : Instr) where
  pub call_deep : most ≤ d → stepped (Err (Trapped CallDepthExceeded)) fr rg ≡ called p most (state fr rg d) t i
  unfolding called too_deep
  call_deep h = rw (le-leb _ _ h)

  module _ (shallow : d < most) where
    pub call_unknown : functions_of p ≤ i.b → stepped (Err (Trapped InvalidFunction)) fr rg ≡ called p most (state fr rg d) t i
    unfolding called too_deep
    call_unknown h = rw (lt-leb _ _ shallow, le-leb _ _ h)

    module _ (exists : i.b < functions_of p) (n : ℕ) (e : n ≡ regs_of p i.b) where
      pub call_window : window_fits t.limit n i ≡ false → stepped (Err (Trapped InvalidRegister)) fr rg ≡ called p most (state fr rg d) t i
      unfolding called too_deep
      call_window w = rw (lt-leb _ _ shallow, lt-leb _ _ exists, ← e, w)

      module _ (w : window_fits t.limit n i ≡ true) where
        pub call_frames : length fr < 4 * (d + 1) → stepped (Err FrameRoom) fr rg ≡ called p most (state fr rg d) t i
        unfolding called too_deep
        call_frames h = rw (lt-leb _ _ shallow, lt-leb _ _ exists, ← e, w, lt-ltb _ _ h)

        module _ (room : 4 * (d + 1) ≤ length fr) where
          pub call_registers : length rg < t.first + t.limit + n → stepped (Err RegisterRoom) fr rg ≡ called p most (state fr rg d) t i
          unfolding called too_deep
          call_registers h = rw (lt-leb _ _ shallow, lt-leb _ _ exists, ← e, w, le-ltb _ _ room, lt-ltb _ _ h)

          pub call_push : t.first + t.limit + n ≤ length rg
              → stepped (Ok (d + 1)) (pushed_frames fr d t i) (pushed_regs rg t i n) ≡ called p most (state fr rg d) t i
          unfolding called too_deep
          call_push h = rw (lt-leb _ _ shallow, lt-leb _ _ exists, ← e, w, le-ltb _ _ room, le-ltb _ _ h)

-- ---- Ret
module _ (p : Program) (fr rg : List ℕ) (d : ℕ) where
  module _ (g : Ready p fr (length rg) d) (two : 2 ≤ d) (below : Top) (e : below ≡ top_of p fr (d - 1)) (dst v : ℕ) (q : dst ≡ dst_word fr (d - 1)) where
    pub hand_fits : dst < below.limit → below.first + dst < length rg
    hand_fits h = let f : below.first + below.limit ≤ length rg = rw e (g.below two).registers in omega arith

    pub hand_on : dst < below.limit → stepped (Ok (d - 1)) fr (set rg (below.first + dst) v) ≡ handed p (state fr rg d) v
    unfolding handed
    hand_on h = let k : dst_word fr (d - 1) < (top_of p fr (d - 1)).limit = rw (q, e) at h in rw (q, e, lt-ltb _ _ k)

    pub hand_no : below.limit ≤ dst → stepped (Err (Trapped InvalidRegister)) fr rg ≡ handed p (state fr rg d) v
    unfolding handed
    hand_no h = let k : (top_of p fr (d - 1)).limit ≤ dst_word fr (d - 1) = rw (q, e) at h in rw (le-ltb _ _ k)

  module _ (t : Top) (i : Instr) where
    pub ret_hand : (x : Stepped) → i.a < t.limit → 1 < d → x ≡ handed p (state fr rg d) (get_or rg (t.first + i.a) 0) → x ≡ returned p (state fr rg d) t i
    unfolding returned
    ret_hand x h k e = e ∙ sym (rw (lt-ltb _ _ h, lt-ltb _ _ k))

    pub ret_ends : i.a < t.limit → d ≤ 1 → stepped (Err (Returned (get_or rg (t.first + i.a) 0))) fr rg ≡ returned p (state fr rg d) t i
    unfolding returned
    ret_ends h k = rw (lt-ltb _ _ h, le-ltb _ _ k)

    pub ret_no : t.limit ≤ i.a → stepped (Err (Trapped InvalidRegister)) fr rg ≡ returned p (state fr rg d) t i
    unfolding returned
    ret_no h = rw (le-ltb _ _ h)
