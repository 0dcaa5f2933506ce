-- How a run goes on, and how it ends, for every fair price. Assumes nothing.
use Prim.Native.Nat.{ℕ, zero, suc, ◌+◌, ◌-◌, ◌≤◌, ◌<◌}
use mathlib.Core.Path.{◌≡◌, refl, sym, ap, ◌∙◌}
use mathlib.Core.Bool.{Bool, true, false}
use mathlib.Core.List.{List}
use lib.ListN.{length}
use lib.Dec.{ltb}
use native.Mathlib.Nat.{zero-add, add-zero, add_assoc}
use native.Mathlib.Omega.{arith}
use borrow.Author.Tests.{le-leb, lt-leb, le-ltb, lt-ltb, leb-true, leb-false, ltb-true, ltb-false}
use Rattle.std.specs.Prelude.{Result, Ok, Err}
use Rattle.runtime.specs.declared.CoreTrap.TheVariants.{InvalidPc, FuelExceeded}
use Rattle.image.specs.Program.{Program}
use Rattle.image.specs.Parts.{length_of}
use Rattle.exec.specs.declared.Ending.{Ending}
use Rattle.exec.specs.declared.Ending.TheVariants.{Trapped}
use Rattle.exec.specs.Price.{Price, Fair, unit}
use Rattle.exec.specs.Lent.{State, state, top_at}
use Rattle.exec.specs.Step.{stepped, next_instr, step, is_past, Inside}
use Rattle.exec.specs.Run.{Final, final, later, onward, cost_at, run_for, run}
use Rattle.exec.specs.Burst.{Good}

pub unit_fair : Fair unit
unfolding unit
unit_fair = record { some = λ op. omega arith }

pub later_zero : (f : Final) → later 0 f ≡ f
later_zero f = rw zero-add

pub later_later : (m n : ℕ) (f : Final) → later m (later n f) ≡ later (m + n) f
later_later m n f = rw add_assoc

-- the charge can be taken before the step
pub onward_later : (c : ℕ) (x : Result ℕ Ending) (fr rg : List ℕ) (k : State → Final) → onward c x fr rg k ≡ later c (onward 0 x fr rg k)
onward_later c (Ok d) fr rg k = rw zero-add
onward_later c (Err e) fr rg k = rw add-zero

pub onward_same : (c : ℕ) (x : Result ℕ Ending) (fr rg : List ℕ) (k l : State → Final) → ((t : State) → k t ≡ l t) → onward c x fr rg k ≡ onward c x fr rg l
onward_same c (Ok d) fr rg k l h = ap (later c) (h (state fr rg d))
onward_same c (Err e) fr rg k l h = refl

-- one round, by its tests
module _ (p : Program) (price : Price) (most : ℕ) where
  pub for_past : (n left : ℕ) (s : State) → length_of p (top_at p s).function ≤ (top_at p s).place → run_for p price most n left s ≡ final (Trapped InvalidPc) 0 s.frames s.regs
  unfolding run_for
  for_past zero left s h = rw (le-leb _ _ h)
  for_past (suc n) left s h = rw (le-leb _ _ h)

  pub for_dry : (n left : ℕ) (s : State) → Inside p s → left < cost_at p price s → run_for p price most n left s ≡ final (Trapped FuelExceeded) left s.frames s.regs
  unfolding run_for
  for_dry zero left s h c = rw (lt-leb _ _ h)
  for_dry (suc n) left s h c = rw (lt-leb _ _ h, lt-ltb _ _ c)

  pub for_step : (n left : ℕ) (s : State) (x : Result ℕ Ending) (fr rg : List ℕ) → Inside p s → cost_at p price s ≤ left → stepped x fr rg ≡ step p most s
      → run_for p price most (suc n) left s ≡ onward (cost_at p price s) x fr rg (λ t. run_for p price most n (left - cost_at p price s) t)
  unfolding run_for
  for_step n left s x fr rg h c e = rw (lt-leb _ _ h, le-ltb _ _ c, ← e)

  -- the bound on instructions does not matter, if it is not below the fuel
  ended : (m n left : ℕ) (s : State) (b : Bool) → is_past p s ≡ b → left < cost_at p price s → run_for p price most m left s ≡ run_for p price most n left s
  ended m n left s true e c = for_past m left s (leb-true _ _ e) ∙ sym (for_past n left s (leb-true _ _ e))
  ended m n left s false e c = for_dry m left s (leb-false _ _ e) c ∙ sym (for_dry n left s (leb-false _ _ e) c)

  pub enough : Fair price → (m n left : ℕ) (s : State) → left ≤ m → left ≤ n → run_for p price most m left s ≡ run_for p price most n left s
  enough f zero n left s a b = ended zero n left s _ refl (omega (arith, f.some (next_instr p s).op))
  enough f (suc m) zero left s a b = ended (suc m) zero left s _ refl (omega (arith, f.some (next_instr p s).op))
  enough f (suc m) (suc n) left s a b = go (is_past p s) refl (ltb left (cost_at p price s)) refl (λ k t. enough f m n k t)
    where
      go : (x : Bool) → is_past p s ≡ x → (y : Bool) → ltb left (cost_at p price s) ≡ y
          → ((k : ℕ) (t : State) → k ≤ m → k ≤ n → run_for p price most m k t ≡ run_for p price most n k t)
          → run_for p price most (suc m) left s ≡ run_for p price most (suc n) left s
      go true e y u ih = for_past (suc m) left s (leb-true _ _ e) ∙ sym (for_past (suc n) left s (leb-true _ _ e))
      go false e true u ih = ended (suc m) (suc n) left s false e (ltb-true _ _ u)
      go false e false u ih =
          let c : 1 ≤ cost_at p price s = f.some (next_instr p s).op in
          let x : Result ℕ Ending = (step p most s).answer in
          let fr : List ℕ = (step p most s).frames in
          let rg : List ℕ = (step p most s).regs in
          for_step m left s x fr rg (leb-false _ _ e) (ltb-false _ _ u) refl
          ∙ onward_same (cost_at p price s) x fr rg _ _ (λ t. ih (left - cost_at p price s) t (omega arith) (omega arith))
          ∙ sym (for_step n left s x fr rg (leb-false _ _ e) (ltb-false _ _ u) refl)

-- what is left to run where an instruction is charged and has not acted yet
abbrev pub after_charge : Program → Price → ℕ → ℕ → State → Final
after_charge p price most left s =
    let o = step p most s in
    onward 0 o.answer o.frames o.regs (λ t. run p price most left t)

-- what the outer loop keeps: all frames stand, and what is left to run, after the fuel used, is the whole run
pub record Running (p : Program) (price : Price) (most fuel : ℕ) (fr₀ rg₀ fr rg : List ℕ) (d left : ℕ) : Type 0 where
  pub good : Good p fr (length rg) d
  pub fuel_left : left ≤ fuel
  pub frames_length : length fr ≡ length fr₀
  pub regs_length : length rg ≡ length rg₀
  pub runs : run p price most fuel (state fr₀ rg₀ 1) ≡ later (fuel - left) (run p price most left (state fr rg d))
