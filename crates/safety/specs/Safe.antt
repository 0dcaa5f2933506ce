-- What admission is for: a run of an accepted program never meets a register or a function that is not there, and a place that is not
-- there only right behind the last instruction of its function.
use Rattle.std.specs.Prelude.{ℕ, ◌≤◌, ◌≡◌, ◌≢◌}
use Rattle.runtime.specs.declared.CoreTrap.TheVariants.{InvalidPc, InvalidRegister, InvalidFunction}
use Rattle.image.specs.Program.{Program}
use Rattle.image.specs.Parts.{length_of}
use Rattle.exec.specs.declared.Ending.TheVariants.{Trapped}
use Rattle.exec.specs.Lent.{State, top_at}
use Rattle.exec.specs.Run.{Final}
use Rattle.course.specs.Course.{after, Leads}

-- the steps of a run from s have led to the end of a function: the place is the function's length, and the lent words are those there.
-- There was one step at least, because a function that is admitted has an instruction
pub record AtLength (p : Program) (most : ℕ) (s : State) (f : Final) : Type 0 where
  pub steps : ℕ
  pub some : 1 ≤ steps
  pub leads : Leads p most steps s
  pub place : (top_at p (after p most steps s)).place ≡ length_of p (top_at p (after p most steps s)).function
  pub frames : f.frames ≡ (after p most steps s).frames
  pub regs : f.regs ≡ (after p most steps s).regs

-- how a run from s ended
pub record Safe (p : Program) (most : ℕ) (s : State) (f : Final) : Type 0 where
  pub registers : f.what ≢ Trapped InvalidRegister
  pub functions : f.what ≢ Trapped InvalidFunction
  pub places : f.what ≡ Trapped InvalidPc → AtLength p most s f
