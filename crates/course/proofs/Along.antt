-- What every step keeps holds where the steps of a run lead. Assumes nothing.
use Prim.Native.Nat.{ℕ, zero, suc}
use mathlib.Core.Path.{◌≡◌, subst}
use mathlib.Core.List.{List}
use Rattle.image.specs.Program.{Program}
use Rattle.exec.specs.declared.Ending.{Ending}
use Rattle.exec.specs.Lent.{State, state}
use Rattle.exec.specs.Step.{Stepped, stops, step, Inside}
use Rattle.course.specs.Course.{ahead, next, after, GoesOn, Leads}
use Rattle.std.specs.Prelude.{Result, Ok, Err}

-- of a step: P holds of the state that it goes on to, or E of what it ends with
abbrev pub Kept : (State → Type 0) → (Ending → Type 0) → Result ℕ Ending → List ℕ → List ℕ → Type 0
Kept P E (Ok d) frames regs = P (state frames regs d)
Kept P E (Err e) frames regs = E e

abbrev pub Keeps : (State → Type 0) → (Ending → Type 0) → Stepped → Type 0
Keeps P E o = Kept P E o.answer o.frames o.regs

module _ (p : Program) (most : ℕ) (P : State → Type 0) (E : Ending → Type 0) (keeps : (s : State) → P s → Inside p s → Keeps P E (step p most s)) where
  ahead_keeps : (s : State) (x : Result ℕ Ending) (fr rg : List ℕ) → Kept P E x fr rg → GoesOn x → P (ahead s x fr rg)
  ahead_keeps s (Ok d) fr rg k g = k
  ahead_keeps s (Err e) fr rg k g = absurd g

  pub along : (n : ℕ) (s : State) → Leads p most n s → P s → P (after p most n s)
  unfolding after Leads
  along zero s l h = h
  along (suc n) s l h =
      along n (next p most s) l.1.1
      (ahead_keeps s (step p most s).answer (step p most s).frames (step p most s).regs (keeps s h l.0) l.1.0)

  pub at_end : (s : State) (e : Ending) → P s → Inside p s → step p most s ≡ stops s (Err e) → E e
  at_end s e h i q = subst (λ (o : Stepped). Keeps P E o) q (keeps s h i)
