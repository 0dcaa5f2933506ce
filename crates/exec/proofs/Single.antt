-- A stretch with fuel for one instruction is one step. Assumes nothing.
use Prim.Native.Nat.{ℕ, ◌+◌}
use mathlib.Core.Path.{◌≡◌, refl, sym, ap, ◌∙◌}
use mathlib.Core.Bool.{Bool, true, false}
use mathlib.Core.List.{List}
use native.Mathlib.Omega.{arith}
use lib.Dec.{leb, eqb}
use lib.ListN.{length}
use borrow.Author.Tests.{leb-true, leb-false, le-leb, lt-leb, eq-eqb, ne_eqb}
use Rattle.std.specs.Prelude.{Ok, Err, Result}
use Rattle.basis.specs.Choice.{pick}
use Rattle.runtime.specs.declared.CoreTrap.{CoreTrap}
use Rattle.runtime.specs.declared.CoreTrap.TheVariants.{InvalidPc}
use Rattle.instr.specs.declared.Instr.{Instr}
use Rattle.image.specs.Program.{Program}
use Rattle.image.specs.Parts.{length_of, code_of}
use Rattle.straight.specs.declared.Went.{Went}
use Rattle.straight.specs.declared.Went.TheVariants as went
use Rattle.straight.specs.Straight.{Local, straight}
use Rattle.straight.proofs.Stays.{Stays, straight_stays}
use Rattle.exec.specs.declared.burst.Why.{Why}
use Rattle.exec.specs.declared.burst.Why.TheVariants.{Past, Dry, Fails, Leaves}
use Rattle.exec.specs.declared.Ending.TheVariants.{Trapped}
use Rattle.exec.specs.Price.{unit}
use Rattle.exec.specs.Lent.{part, state, top_of}
use Rattle.exec.specs.Step.{Stepped, stepped, goes, step, round}
use Rattle.exec.specs.Burst.{Halted, halted, further, burst, Paused, paused, stretch, Ready}
use Rattle.exec.proofs.Parts.{length_part}
use Rattle.exec.proofs.Bursts.{burst_past, burst_step}
use Rattle.exec.proofs.Stretches.{at, lands, at_start, inside_at, past_at, step_at, leaves_at}

-- what a stretch that began with one unit and stopped with m says of the step
abbrev told : Program → ℕ → ℕ → Why → ℕ → List ℕ → List ℕ → Stepped
told p most d Past m fr rg = pick (eqb m 0) (stepped (Ok d) fr rg) (stepped (Err (Trapped InvalidPc)) fr rg)
told p most d Dry m fr rg = stepped (Ok d) fr rg
told p most d (Fails t) m fr rg = stepped (Err (Trapped t)) fr rg
told p most d Leaves m fr rg = step p most (state fr rg d)

module _ (p : Program) (most : ℕ) (fr rg : List ℕ) (d : ℕ) (g : Ready p fr (length rg) d) where
  abbrev f : ℕ
  f = (top_of p fr d).function

  abbrev place : ℕ
  place = (top_of p fr d).place

  abbrev w : List ℕ
  w = part rg (top_of p fr d).first (top_of p fr d).limit

  long : length w ≡ (top_of p fr d).limit
  long = length_part rg (top_of p fr d).first (top_of p fr d).limit g.top.registers

  abbrev told_of : Halted → Stepped
  told_of h = told p most d h.why h.left (at p fr rg d h.place h.regs).frames (at p fr rg d h.place h.regs).regs

  -- where the unit is used up the frame has gone on
  rested : (q : ℕ) (v : List ℕ) → told_of (burst p unit f 0 0 q v) ≡ goes (at p fr rg d q v)
  unfolding burst
  rested q v = go (leb (length_of p f) q)
    where
      go : (b : Bool) → told_of (pick b (halted Past q 0 v) (halted Dry q 0 v)) ≡ goes (at p fr rg d q v)
      go true = refl
      go false = refl

  taken : (x : Stepped) (a : Result Went CoreTrap) (v : List ℕ) → lands p fr rg d place w x a v ≡ step p most (at p fr rg d place w) → Stays w a v
      → told_of (further a v place 0 (λ q u. burst p unit f 0 0 q u)) ≡ step p most (at p fr rg d place w)
  taken x (Ok went.On) v e y = rested (place + 1) v ∙ e
  taken x (Ok (went.To q)) v e y = rested q v ∙ e
  taken x (Err t) v e y = rw y e
  taken x (Ok went.Leaves) v e y = rw y

  one_at : told_of (burst p unit f 1 1 place w) ≡ round p most (at p fr rg d place w)
  unfolding round unit
  one_at = go (leb (length_of p f) place) refl
    where
      go : (b : Bool) → leb (length_of p f) place ≡ b → told_of (burst p unit f 1 1 place w) ≡ round p most (at p fr rg d place w)
      go true q = rw (burst_past p unit f place w 1 1 (leb-true _ _ q), le-leb _ _ (past_at p most fr rg d g place w (leb-true _ _ q)))
      go false q =
          let i : Instr = code_of p f place in
          let l : Local = straight i w in
          rw (burst_step p unit f place w 0 1 l.went l.regs (leb-false _ _ q) (omega arith) refl, lt-leb _ _ (inside_at p most fr rg d g place w (leb-false _ _ q)))
          (taken (leaves_at p most fr rg d g place w) l.went l.regs (sym (step_at p most fr rg d g place w long)) (straight_stays i w))

  whole : (y : Why) (m : ℕ) (fr' rg' : List ℕ) → paused y m fr' rg' ≡ stretch p unit 1 (state fr rg d) → told p most d y m fr' rg' ≡ round p most (state fr rg d)
  unfolding stretch
  whole y m fr' rg' e = ap (λ (x : Paused). told p most d x.why x.left x.frames x.regs) e ∙ (one_at ∙ ap (round p most) (at_start p most fr rg d g))

  module _ (m : ℕ) (fr' rg' : List ℕ) where
    pub one_on : paused Past m fr' rg' ≡ stretch p unit 1 (state fr rg d) → m ≡ 0 → stepped (Ok d) fr' rg' ≡ round p most (state fr rg d)
    one_on e z = sym (rw (eq-eqb m 0 z)) ∙ whole Past m fr' rg' e

    pub one_past : paused Past m fr' rg' ≡ stretch p unit 1 (state fr rg d) → (m ≡ 0 → ⊥) → stepped (Err (Trapped InvalidPc)) fr' rg' ≡ round p most (state fr rg d)
    one_past e z = sym (rw (ne_eqb m 0 z)) ∙ whole Past m fr' rg' e

    pub one_dry : paused Dry m fr' rg' ≡ stretch p unit 1 (state fr rg d) → stepped (Ok d) fr' rg' ≡ round p most (state fr rg d)
    one_dry e = whole Dry m fr' rg' e

    pub one_fails : (t : CoreTrap) → paused (Fails t) m fr' rg' ≡ stretch p unit 1 (state fr rg d) → stepped (Err (Trapped t)) fr' rg' ≡ round p most (state fr rg d)
    one_fails t e = whole (Fails t) m fr' rg' e

    pub one_leaves : paused Leaves m fr' rg' ≡ stretch p unit 1 (state fr rg d) → step p most (state fr' rg' d) ≡ round p most (state fr rg d)
    one_leaves e = whole Leaves m fr' rg' e
