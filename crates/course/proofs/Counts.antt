-- The fuel that a run uses is the number of instructions that it begins. Assumes nothing.
use Prim.Native.Nat.{ℕ, zero, suc, ◌-◌, ◌≤◌, ◌<◌}
use mathlib.Core.Path.{◌≡◌, refl}
use mathlib.Core.Bool.{Bool, true, false}
use mathlib.Core.List.{List, [], ◌∷◌}
use native.Mathlib.Omega.{arith}
use lib.Dec.{ltb}
use lib.ListN.{length}
use borrow.Author.Tests.{ltb-true}
use Rattle.basis.specs.Choice.{pick}
use Rattle.runtime.specs.declared.CoreTrap.TheVariants.{InvalidPc, FuelExceeded}
use Rattle.image.specs.Program.{Program}
use Rattle.exec.specs.declared.Ending.TheVariants.{Trapped}
use Rattle.exec.specs.Price.{unit}
use Rattle.exec.specs.Lent.{State, state}
use Rattle.exec.specs.Step.{step, is_past}
use Rattle.exec.specs.Run.{Final, final, onward, run_for, run}
use Rattle.exec.specs.Begun.{begun_after, begun_for, begun}
use Rattle.std.specs.Prelude.{Result, Ok, Err}
use Rattle.exec.specs.declared.Ending.{Ending}

after_counts : (x : Result ℕ Ending) (fr rg : List ℕ) (k : State → Final) (l : State → List State) → ((t : State) → (k t).used ≡ length (l t))
    → (onward 1 x fr rg k).used ≡ suc (length (begun_after x fr rg l))
after_counts (Ok d) fr rg k l h = let e : (k (state fr rg d)).used ≡ length (l (state fr rg d)) = h (state fr rg d) in omega arith
after_counts (Err e) fr rg k l h = refl

module _ (p : Program) (most : ℕ) where
  for_counts : (n left : ℕ) (s : State) → left ≤ n → (run_for p unit most n left s).used ≡ length (begun_for p unit most n left s)
  unfolding run_for begun_for unit
  for_counts zero left s h = go (is_past p s)
    where
      go : (b : Bool) → (pick b (final (Trapped InvalidPc) 0 s.frames s.regs) (final (Trapped FuelExceeded) left s.frames s.regs)).used ≡ 0
      go true = refl
      go false = omega arith
  for_counts (suc n) left s h = go (is_past p s) (ltb left 1) refl (λ t k. for_counts n (left - 1) t k)
    where
      go : (b : Bool) (c : Bool) → ltb left 1 ≡ c → ((t : State) → left - 1 ≤ n → (run_for p unit most n (left - 1) t).used ≡ length (begun_for p unit most n (left - 1) t))
          → (pick b (final (Trapped InvalidPc) 0 s.frames s.regs) (pick c (final (Trapped FuelExceeded) left s.frames s.regs)
          (onward 1 (step p most s).answer (step p most s).frames (step p most s).regs (λ t. run_for p unit most n (left - 1) t)))).used
          ≡ length {A = State} (pick b [] (pick c [] (s ∷ begun_after (step p most s).answer (step p most s).frames (step p most s).regs (λ t. begun_for p unit most n (left - 1) t))))
      go true c q ih = refl
      go false true q ih = let l : left < 1 = ltb-true left 1 q in let z : left ≡ 0 = omega arith in z
      go false false q ih =
          after_counts (step p most s).answer (step p most s).frames (step p most s).regs (λ t. run_for p unit most n (left - 1) t) (λ t. begun_for p unit most n (left - 1) t) (λ t. ih t (omega arith))

  pub used_begun : (fuel : ℕ) (s : State) → (run p unit most fuel s).used ≡ length (begun p unit most fuel s)
  used_begun fuel s = for_counts fuel fuel s (omega arith)
