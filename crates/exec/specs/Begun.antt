-- The instructions that a run begins: the states at which it does, in order.
use Rattle.std.specs.Prelude.{ℕ, zero, suc, ◌-◌, List, [], ◌∷◌, ltb, Result, Ok, Err}
use Rattle.basis.specs.Choice.{pick}
use Rattle.image.specs.Program.{Program}
use Rattle.exec.specs.declared.Ending.{Ending}
use Rattle.exec.specs.Price.{Price}
use Rattle.exec.specs.Lent.{State, state}
use Rattle.exec.specs.Step.{step, is_past}
use Rattle.exec.specs.Run.{cost_at}

-- those after a step
abbrev pub begun_after : Result ℕ Ending → List ℕ → List ℕ → (State → List State) → List State
begun_after (Ok d) frames regs rest = rest (state frames regs d)
begun_after (Err e) frames regs rest = []

unfoldable pub begun_for : Program → Price → ℕ → ℕ → ℕ → State → List State
begun_for p price most zero left s = []
begun_for p price most (suc n) left s =
    let c = cost_at p price s in
    let o = step p most s in
    pick (is_past p s) []
    (pick (ltb left c) []
    (s ∷ begun_after o.answer o.frames o.regs (λ t. begun_for p price most n (left - c) t)))

abbrev pub begun : Program → Price → ℕ → ℕ → State → List State
begun p price most fuel s = begun_for p price most fuel fuel s
