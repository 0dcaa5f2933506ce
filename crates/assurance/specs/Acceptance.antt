-- What is signed for: the third condition of the project, with what goes with it, over the engine's definitions of admission and run.
-- Each line holds for every layout of records, every list of bytes, profile, program, fuel, depth limit and lent memory.
use Rattle.std.specs.Prelude.{ℕ, ◌≡◌, List, [], ◌↔◌}
use Rattle.runtime.specs.declared.CoreAdmissionProfile.{CoreAdmissionProfile}
use Rattle.value.specs.Value.{HoldsValue}
use Rattle.image.specs.Records.{RecordLayout}
use Rattle.image.specs.WellFormed.{WellFormed}
use Rattle.image.specs.Program.{Program, decode}
use Rattle.admission.specs.Verdict.{verdict}
use Rattle.admission.specs.Admissible.{Admissible}
use Rattle.exec.specs.declared.Ending.TheVariants.{Returned}
use Rattle.exec.specs.Price.{unit}
use Rattle.exec.specs.Run.{Final}
use Rattle.exec.specs.Execute.{entry_state, entered, execution}
use Rattle.course.specs.Course.{Refused, Fuelled}
use Rattle.safety.specs.Safe.{Safe}
use Rattle.room.specs.Room.{Enough}
use Rattle.twins.specs.Twins.{Agree, SameEnd, Refusal, NoRoom}
use Rattle.assurance.specs.Edges.{Each, edges}

-- an execution of a program, one unit for each instruction
abbrev pub runs : Program → ℕ → ℕ → List ℕ → List ℕ → Final
runs p most fuel frames regs = entered p unit most fuel frames regs

pub record Acceptance : Type 0 where
  -- admission finds nothing wrong exactly in a well-formed image whose program is admissible under the profile
  pub accepts : (L : RecordLayout) (bytes : List ℕ) (profile : CoreAdmissionProfile)
      → (verdict L bytes profile ≡ []) ↔ (WellFormed L bytes × Admissible profile (decode L bytes))
  -- an accepted program never traps InvalidRegister or InvalidFunction, and InvalidPc only at its function's length
  pub safe : (L : RecordLayout) (bytes : List ℕ) (profile : CoreAdmissionProfile) → verdict L bytes profile ≡ []
      → (most fuel : ℕ) (frames regs : List ℕ)
      → Safe (decode L bytes) most (entry_state (decode L bytes) frames regs) (runs (decode L bytes) most fuel frames regs)
  -- the fuel used counts the instructions begun, is never above the limit, and is the limit on FuelExceeded
  pub fuelled : (p : Program) (most fuel : ℕ) (frames regs : List ℕ)
      → Fuelled p most fuel frames regs (runs p most fuel frames regs)
  -- with the room that document 01 names no execution is refused for room, of any program, admitted or not
  pub roomy : (p : Program) (most fuel : ℕ) (frames regs : List ℕ) → Enough p most frames regs
      → Refused (runs p most fuel frames regs).what → ⊥
  -- how it ends and what it uses does not depend on the lent words, their contents or their number, where neither is refused; words
  -- that agreed still do
  pub independent : (p : Program) (k m : ℕ) (frames regs frames' regs' : List ℕ) → Agree k frames frames' → Agree m regs regs'
      → (most fuel : ℕ)
      → (Refused (runs p most fuel frames regs).what → ⊥)
      → (Refused (runs p most fuel frames' regs').what → ⊥)
      → SameEnd k m (runs p most fuel frames regs) (runs p most fuel frames' regs')
  -- one that is refused is the other up to the refused push
  pub refused : (p : Program) (k m : ℕ) (frames regs frames' regs' : List ℕ) → Agree k frames frames' → Agree m regs regs'
      → (most fuel : ℕ)
      → Refused (runs p most fuel frames regs).what
      → (Refused (runs p most fuel frames' regs').what → ⊥)
      → Refusal p unit most fuel k m frames regs frames' regs' (runs p most fuel frames regs) (runs p most fuel frames' regs')
  -- the answer's numbers are the same in any two lent memories where neither is a refusal for room, whatever the bytes
  pub answers : (L : RecordLayout) (bytes : List ℕ) (most fuel : ℕ) (frames regs frames' regs' : List ℕ)
      → NoRoom (execution L unit bytes most fuel frames regs).answer
      → NoRoom (execution L unit bytes most fuel frames' regs').answer
      → (execution L unit bytes most fuel frames' regs').answer ≡ (execution L unit bytes most fuel frames regs).answer
  -- what a well-formed image's execution hands back is a value
  pub values : (L : RecordLayout) (bytes : List ℕ) → WellFormed L bytes → (most fuel : ℕ) (frames regs : List ℕ) (word : ℕ)
      → (runs (decode L bytes) most fuel frames regs).what ≡ Returned word → HoldsValue word
  -- the worked cases
  pub worked : Each edges
