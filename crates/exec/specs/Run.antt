-- A run: step after step until one ends it, or the fuel does.
use Rattle.std.specs.Prelude.{ℕ, zero, suc, ◌+◌, ◌-◌, List, ltb, Result, Ok, Err}
use Rattle.basis.specs.Choice.{pick}
use Rattle.runtime.specs.declared.CoreTrap.TheVariants.{InvalidPc, FuelExceeded}
use Rattle.image.specs.Program.{Program}
use Rattle.exec.specs.declared.Ending.{Ending}
use Rattle.exec.specs.declared.Ending.TheVariants.{Trapped}
use Rattle.exec.specs.Price.{Price}
use Rattle.exec.specs.Lent.{State, state}
use Rattle.exec.specs.Step.{next_instr, step, is_past}

-- how a run ended, the fuel that it used, and the lent words then
pub record Final : Type 0 where
  pub what : Ending
  pub used : ℕ
  pub frames : List ℕ
  pub regs : List ℕ

abbrev pub final : Ending → ℕ → List ℕ → List ℕ → Final
final what used frames regs = record { what = what; used = used; frames = frames; regs = regs }

-- n units were used before
abbrev pub later : ℕ → Final → Final
later n f = final f.what (n + f.used) f.frames f.regs

-- after a step that was charged c: what is left of the run, or the end
abbrev pub onward : ℕ → Result ℕ Ending → List ℕ → List ℕ → (State → Final) → Final
onward c (Ok d) frames regs rest = later c (rest (state frames regs d))
onward c (Err e) frames regs rest = final e c frames regs

-- the charge for the instruction that is next
abbrev pub cost_at : Program → Price → State → ℕ
cost_at p price s = price (next_instr p s).op

-- a place at or past the length traps, and nothing is charged for it
abbrev pub past_end : State → Final
past_end s = final (Trapped InvalidPc) 0 s.frames s.regs

-- a charge that does not fit uses up all that is left
abbrev pub out_of_fuel : ℕ → State → Final
out_of_fuel left s = final (Trapped FuelExceeded) left s.frames s.regs

-- a run with `left` units, for at most n instructions: the place is tested, then the next instruction is charged, then it acts
unfoldable pub run_for : Program → Price → ℕ → ℕ → ℕ → State → Final
run_for p price most zero left s = pick (is_past p s) (past_end s) (out_of_fuel left s)
run_for p price most (suc n) left s =
    let c = cost_at p price s in
    let o = step p most s in
    pick (is_past p s) (past_end s)
    (pick (ltb left c) (out_of_fuel left s)
    (onward c o.answer o.frames o.regs (λ t. run_for p price most n (left - c) t)))

-- an instruction costs at least one unit, so a run has no more instructions than fuel (proofs/Runs: enough)
abbrev pub run : Program → Price → ℕ → ℕ → State → Final
run p price most fuel s = run_for p price most fuel fuel s
