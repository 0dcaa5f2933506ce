-- An execution of a program by its first tests: the entry, a record, registers, and then a run. Assumes nothing.
use Prim.Native.Nat.{ℕ, ◌≤◌, ◌<◌}
use mathlib.Core.List.{List}
use lib.ListN.{length}
use Rattle.runtime.specs.declared.CoreTrap.TheVariants.{InvalidFunction}
use Rattle.image.specs.Program.{Program}
use Rattle.image.specs.Parts.{functions_of, regs_of}
use Rattle.exec.specs.declared.Ending.TheVariants.{Trapped, FrameRoom, RegisterRoom}
use Rattle.exec.specs.Price.{Price}
use Rattle.exec.specs.Run.{Final, final, run}
use Rattle.exec.specs.Execute.{entry_state, started, entered}
use Rattle.exec.proofs.Entry.{made_cases}

pub record EntryCases (p : Program) (price : Price) (most fuel : ℕ) (fr rg : List ℕ) (Q : Final → Type 0) : Type 0 where
  pub unknown : functions_of p ≤ p.entry → Q (final (Trapped InvalidFunction) 0 fr rg)
  pub frames : p.entry < functions_of p → length fr < 4 → Q (final FrameRoom 0 fr rg)
  pub registers : p.entry < functions_of p → 4 ≤ length fr → length rg < regs_of p p.entry → Q (final RegisterRoom 0 fr rg)
  pub runs : p.entry < functions_of p → 4 ≤ length fr → regs_of p p.entry ≤ length rg → Q (run p price most fuel (entry_state p fr rg))

pub entered_cases : (p : Program) (price : Price) (most fuel : ℕ) (fr rg : List ℕ) (Q : Final → Type 0) → EntryCases p price most fuel fr rg Q
    → Q (entered p price most fuel fr rg)
unfolding entered
entered_cases p price most fuel fr rg Q c =
    made_cases p fr rg (λ o. Q (started o.answer o.frames o.regs (λ s. run p price most fuel s))) (record {
      unknown = c.unknown;
      frames = c.frames;
      registers = c.registers;
      goes_on = c.runs;
    })
