-- Facts that the proofs of several functions cite: the running frame as it is read, and its instruction. Assumes nothing.
use Prim.Native.Nat.{ℕ, ◌+◌, ◌*◌, ◌-◌, ◌≤◌, ◌<◌}
use mathlib.Core.Path.{◌≡◌, refl, sym, ap, ◌∙◌}
use mathlib.Core.List.{List, ◌++◌}
use native.Mathlib.Omega.{arith}
use lib.ListN.{length, set, take, drop}
use borrow.Author.Tests.{eq-eqb, ne_eqb}
use Rattle.instr.specs.declared.Instr.{Instr}
use Rattle.image.specs.Records.{header_of, function_no, form1, form1_instr, instr_place}
use Rattle.image.specs.WellFormed.{WellFormed}
use Rattle.image.specs.Program.{Program, decode}
use Rattle.image.specs.Parts.{functions_of, regs_of, length_of, code_of, Call}
use Rattle.image.specs.declared.record.FunctionRecord.{FunctionRecord}
use Rattle.image.proofs.Parts.{functions_length, inside}
use Rattle.image.proofs.Numbers.{regs_in, length-in, fetched}
use Rattle.exec.specs.declared.frame.Top.{Top}
use Rattle.exec.specs.declared.burst.Why.{Why}
use Rattle.exec.specs.Price.{Price}
use Rattle.exec.specs.Lent.{part, state, top_of}
use Rattle.exec.specs.Step.{Stepped, called, returned, left, acted, step}
use Rattle.exec.specs.Burst.{halted, burst, paused, landing, stretch, Ready, AtLeave}
use Rattle.exec.proofs.Parts.{part_lent, put_lent}

-- ---- the program of a well-formed image
module _ (s : List ℕ) where
  -- a function of the program is one of the header's
  pub known : (k : ℕ) → k < functions_of (decode form1 s) → k < (header_of s).functions
  known k h = rw (functions_length form1 s) at h

  pub unknown : (k : ℕ) → k < (header_of s).functions → k < functions_of (decode form1 s)
  unknown k h = rw (functions_length form1 s) h

  module _ (W : WellFormed form1 s) (k : ℕ) (h : k < (header_of s).functions) where
    module _ (f : FunctionRecord) (e : f ≡ function_no s k) where
      pub regs_are : f.regs ≡ regs_of (decode form1 s) k
      regs_are = rw e (sym (regs_in form1 s k h))

      pub count_is : f.count ≡ length_of (decode form1 s) k
      count_is = rw e (sym (length-in form1 s k h))

      -- and so are those of its instructions
      pub code_room : (code place : ℕ) → code ≡ instr_place form1 (header_of s).functions f.first → place < f.count → code + 12 * place + 12 ≤ length s
      code_room code place c l =
          let n : (function_no s k).first + (function_no s k).count ≤ (header_of s).instructions = inside form1 s W k h in
          let m : f.first + f.count ≤ (header_of s).instructions = rw e n in
          omega (arith, W.size)

      pub instr_is : (code place : ℕ) (i : Instr) → code ≡ instr_place form1 (header_of s).functions f.first → place < f.count → i ≡ form1_instr s (code + 12 * place)
          → i ≡ code_of (decode form1 s) k place
      instr_is code place i c l q = fetched s k (header_of s).functions f place i refl h e l (q ∙ ap (λ (n : ℕ). form1_instr s (n + 12 * place)) c)

-- ---- the running frame
module _ (p : Program) (fr rg : List ℕ) (d : ℕ) (t : Top) (g : Ready p fr (length rg) d) (e : t ≡ top_of p fr d) where
  pub top_function : t.function < functions_of p
  top_function = rw e g.top.function

  -- its registers are there
  pub top_fits : t.first + t.limit ≤ length rg
  top_fits = rw e g.top.registers

  -- a burst on the lent part, and its place in the record, are the running frame's burst
  pub stretch_is : (price : Price) (fuel : ℕ) (y : Why) (place left : ℕ) (w : List ℕ)
      → halted y place left w ≡ burst p price t.function fuel fuel t.place (take (t.first + t.limit - t.first) (drop t.first rg))
      → paused y left (set fr (4 * (d - 1) + 1) place) (take t.first rg ++ (w ++ drop (t.first + t.limit - t.first) (drop t.first rg)))
      ≡ stretch p price fuel (state fr rg d)
  unfolding stretch
  stretch_is price fuel y place left w h =
      let b = h ∙ ap (burst p price t.function fuel fuel t.place) (part_lent rg t.first t.limit) in
      ap (paused y left (set fr (4 * (d - 1) + 1) place)) (put_lent rg t.first t.limit w)
      ∙ ap (landing (state fr rg d) t) b
      ∙ ap (λ (u : Top). landing (state fr rg d) u (burst p price u.function fuel fuel u.place (part rg u.first u.limit))) e

  -- at a Call or Ret
  module _ (a : AtLeave p fr rg d) where
    pub at_inside : t.place < length_of p t.function
    at_inside = rw e a.inside

    pub step_left : (most : ℕ) → step p most (state fr rg d) ≡ left p most (state fr rg d) (top_of p fr d) (code_of p (top_of p fr d).function (top_of p fr d).place)
    unfolding step acted
    step_left most = rw a.leaves

    module _ (most : ℕ) (i : Instr) (f : i ≡ code_of p t.function t.place) where
      left_step : left p most (state fr rg d) t i ≡ step p most (state fr rg d)
      left_step = rw (f, e) (sym (step_left most))

      pub leave_call : (x : Stepped) → x ≡ called p most (state fr rg d) t i → i.op ≡ Call → x ≡ step p most (state fr rg d)
      unfolding left
      leave_call x h o = h ∙ (sym (rw (eq-eqb i.op Call o)) ∙ left_step)

      pub leave_ret : (x : Stepped) → x ≡ returned p (state fr rg d) t i → (i.op ≡ Call → ⊥) → x ≡ step p most (state fr rg d)
      unfolding left
      leave_ret x h n = h ∙ (sym (rw (ne_eqb i.op Call n)) ∙ left_step)

-- ---- the instruction at which the running frame of a well-formed image is left, as it is read
module _ (s : List ℕ) (W : WellFormed form1 s) (fr rg : List ℕ) (d : ℕ) (a : AtLeave (decode form1 s) fr rg d) (g : Ready (decode form1 s) fr (length rg) d)
    (t : Top) (e : t ≡ top_of (decode form1 s) fr d) where
  pub left_function : t.function < (header_of s).functions
  left_function = known s t.function (top_function (decode form1 s) fr rg d t g e)

  module _ (f : FunctionRecord) (q : f ≡ function_no s t.function) (code : ℕ) (c : code ≡ instr_place form1 (header_of s).functions f.first) where
    left_inside : t.place < f.count
    left_inside = rw (count_is s W t.function left_function f q) (at_inside (decode form1 s) fr rg d t g e a)

    pub left_room : code + 12 * t.place + 12 ≤ length s
    left_room = code_room s W t.function left_function f q code t.place c left_inside

    pub left_instr : (i : Instr) → i ≡ form1_instr s (code + 12 * t.place) → i ≡ code_of (decode form1 s) t.function t.place
    left_instr i h = instr_is s W t.function left_function f q code t.place i c left_inside h
