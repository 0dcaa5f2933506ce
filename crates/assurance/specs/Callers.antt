-- What callers can rely on, said of the numbers that an execution answers with: its number, and for 0 status, kind, payload and fuel
-- used, for 6 and 7 the fuel used. `execute_outcome` answers with these numbers, and over the C boundary they are the number returned
-- and the words written.
use Rattle.std.specs.Prelude.{Ok, ℕ, ◌≤◌, ◌<◌, ◌^◌, Bool, ◌≡◌, List, [], ◌∷◌, ◌≢◌, eqb, length, get_or, take}
use Rattle.basis.specs.Choice.{pick}
use Rattle.runtime.specs.declared.CoreAdmissionProfile.{CoreAdmissionProfile}
use Rattle.runtime.specs.declared.CoreTrap.TheVariants.{InvalidPc, InvalidRegister, FuelExceeded, InvalidFunction}
use Rattle.value.specs.declared.result.CoreStatus.TheVariants.{Trapped}
use Rattle.value.specs.Result.{status_word}
use Rattle.image.specs.Records.{form1}
use Rattle.image.specs.Program.{decode}
use Rattle.admission.specs.Verdict.{verdict}
use Rattle.admission.proofs.validate_program.Reads as validate_program
use Rattle.lent.specs.Records.{words_of, records_of}
use Rattle.exec.specs.Price.{unit}
use Rattle.exec.specs.Execute.{outcome_numbers, entry_state}
use Rattle.exec.proofs.execute_outcome.Reads as execute_outcome
use Rattle.exec.proofs.CoreExecutor.execute_outcome.Reads as executor
use Rattle.firm.specs.Walked.{tells·exec::in_frames::execute_outcome_in_frames}
use Rattle.text.specs.Line.{ran}
use Rattle.capi.proofs.knit_validate.Reads as knit_validate
use Rattle.capi.proofs.knit_execute.Reads as knit_execute
use Rattle.capi.proofs.knit_event_id.Reads as knit_event_id
use Rattle.exec.specs.Begun.{begun}
use Rattle.course.specs.Course.{Made}
use Rattle.safety.specs.Safe.{AtLength}
use Rattle.room.specs.Room.{Enough}
use Rattle.twins.specs.Twins.{NoRoom}
use Rattle.assurance.specs.Acceptance.{runs}

-- ---- an answer's numbers
abbrev pub number_in : List ℕ → ℕ
number_in ns = get_or ns 0 0

abbrev pub status_in : List ℕ → ℕ
status_in ns = get_or ns 1 0

abbrev pub used_in : List ℕ → ℕ
used_in ns = pick (eqb (get_or ns 0 0) 0) (get_or ns 4 0) (get_or ns 1 0)

-- there was a run: the number is none of an image's faults
abbrev pub Ran : ℕ → Type 0
Ran number = 1 ≤ number → number ≤ 5 → ⊥

-- ---- the answer to an image, a depth limit, fuel and lent memory
pub record Reliable (bytes : List ℕ) (most fuel : ℕ) (frames regs ns : List ℕ) : Type 0 where
  -- the fuel used is never above the limit, counts the instructions begun, if any could, and is the limit on FuelExceeded
  pub within : Ran (number_in ns) → used_in ns ≤ fuel
  pub counts : Ran (number_in ns) → Made (decode form1 bytes) frames regs
      → used_in ns ≡ length (begun (decode form1 bytes) unit most fuel (entry_state (decode form1 bytes) frames regs))
  pub none : Ran (number_in ns) → (Made (decode form1 bytes) frames regs → ⊥) → used_in ns ≡ 0
  pub whole : number_in ns ≡ 0 → status_in ns ≡ status_word (Trapped FuelExceeded) → used_in ns ≡ fuel
  -- with enough lent memory it is no refusal for room
  pub room : Enough (decode form1 bytes) most frames regs → NoRoom ns
  -- of a program that is admitted, under any profile: neither InvalidRegister nor InvalidFunction, and InvalidPc at the length
  pub registers : (profile : CoreAdmissionProfile) → verdict form1 bytes profile ≡ []
      → number_in ns ≡ 0 → status_in ns ≢ status_word (Trapped InvalidRegister)
  pub functions : (profile : CoreAdmissionProfile) → verdict form1 bytes profile ≡ []
      → number_in ns ≡ 0 → status_in ns ≢ status_word (Trapped InvalidFunction)
  pub places : (profile : CoreAdmissionProfile) → verdict form1 bytes profile ≡ []
      → number_in ns ≡ 0 → status_in ns ≡ status_word (Trapped InvalidPc)
      → AtLength (decode form1 bytes) most (entry_state (decode form1 bytes) frames regs) (runs (decode form1 bytes) most fuel frames regs)

-- ---- by what the functions' own contracts tell of arguments a, an answer and the parameters at exit e
abbrev pub ExecuteOutcomeReliable : Type 0
ExecuteOutcomeReliable = (κs : _) (a : _) (r : _) (e : _) → execute_outcome.Learnt κs a r e
    → Reliable a.0.now a.1.0.max_call_depth a.1.0.fuel a.1.1.0.now a.1.1.1.0.now (outcome_numbers r)

abbrev pub ExecutorReliable : Type 0
ExecutorReliable = (κs : _) (a : _) (r : _) (e : _) → executor.Learnt κs a r e
    → Reliable a.1.0.now a.0.config.max_call_depth a.0.config.fuel a.1.1.0.now a.1.1.1.0.now (outcome_numbers r)

abbrev pub KnitExecuteReliable : Type 0
KnitExecuteReliable = (κs : _) (a : _) (n : _) (e : _) → knit_execute.Learnt κs a n e
    → Reliable a.0.now a.1.1.0 a.1.0 a.1.1.1.0.now a.1.1.1.1.0.now (n ∷ e.1.1.1.1.1.0.now)

-- the profile of five limits
abbrev pub profile_of : ℕ → ℕ → ℕ → ℕ → ℕ → CoreAdmissionProfile
profile_of registers functions depth instrs fuel =
    record {
      max_registers = registers;
      max_functions = functions;
      max_call_depth = depth;
      max_instrs_per_function = instrs;
      max_fuel = fuel;
    }

-- `Ok`, and 0 over the C boundary, are the verdict that is spoken of above
abbrev pub ValidateProgramAdmits : Type 0
ValidateProgramAdmits = (κs : _) (a : _) (v : _) (e : _) → validate_program.Learnt κs a v e → v ≡ Ok tt
    → verdict form1 a.0.now a.1.0 ≡ []

abbrev pub KnitValidateAdmits : Type 0
KnitValidateAdmits = (κs : _) (a : _) (n : _) (e : _) → knit_validate.Learnt κs a n e → n ≡ 0
    → verdict form1 a.0.now (profile_of a.1.0 a.1.1.0 a.1.1.1.0 a.1.1.1.1.0 a.1.1.1.1.1.0) ≡ []

-- two calls with the same image, fuel and depth limit, in whatever memory, have the same numbers where neither is refused for room;
-- over the C boundary the digest is among them
abbrev pub ExecuteOutcomeSame : Type 0
ExecuteOutcomeSame = (κs : _) (a : _) (r : _) (e : _) (κt : _) (b : _) (q : _) (f : _)
    → execute_outcome.Learnt κs a r e → execute_outcome.Learnt κt b q f
    → b.0.now ≡ a.0.now → b.1.0.fuel ≡ a.1.0.fuel → b.1.0.max_call_depth ≡ a.1.0.max_call_depth
    → NoRoom (outcome_numbers r) → NoRoom (outcome_numbers q) → outcome_numbers q ≡ outcome_numbers r

abbrev pub KnitExecuteSame : Type 0
KnitExecuteSame = (κs : _) (a : _) (n : _) (e : _) (κt : _) (b : _) (m : _) (f : _)
    → knit_execute.Learnt κs a n e → knit_execute.Learnt κt b m f
    → b.0.now ≡ a.0.now → b.1.0 ≡ a.1.0 → b.1.1.0 ≡ a.1.1.0
    → NoRoom (n ∷ []) → NoRoom (m ∷ []) → (m ≡ n) × (f.1.1.1.1.1.0.now ≡ e.1.1.1.1.1.0.now)

-- ---- frame records as structs
-- the same is so of a call over records, said of the records' words
abbrev pub InFramesReliable : Type 0
InFramesReliable = (κs : _) (a : _) (r : _) (e : _) → tells·exec::in_frames::execute_outcome_in_frames κs a r e
    → Reliable a.0.now a.1.0.max_call_depth a.1.0.fuel (words_of a.1.1.0.now) a.1.1.1.0.now (outcome_numbers r)

-- so are the numbers of two such calls, in whatever memory
abbrev pub InFramesIndependent : Type 0
InFramesIndependent = (κs : _) (a : _) (r : _) (e : _) (κt : _) (b : _) (q : _) (f : _)
    → tells·exec::in_frames::execute_outcome_in_frames κs a r e → tells·exec::in_frames::execute_outcome_in_frames κt b q f
    → b.0.now ≡ a.0.now → b.1.0.fuel ≡ a.1.0.fuel → b.1.0.max_call_depth ≡ a.1.0.max_call_depth
    → NoRoom (outcome_numbers r) → NoRoom (outcome_numbers q) → outcome_numbers q ≡ outcome_numbers r

-- a call with words, any number of them, and one with the records that they hold, otherwise the same: the same numbers, refusals
-- included, the same registers at exit, and the records at exit are the words at exit, read four at a time
abbrev pub InFramesSame : Type 0
InFramesSame = (κs : _) (a : _) (r : _) (e : _) (κt : _) (b : _) (q : _) (f : _)
    → execute_outcome.Learnt κs a r e → tells·exec::in_frames::execute_outcome_in_frames κt b q f
    → b.0.now ≡ a.0.now → b.1.0.fuel ≡ a.1.0.fuel → b.1.0.max_call_depth ≡ a.1.0.max_call_depth
    → b.1.1.0.now ≡ records_of a.1.1.0.now → b.1.1.1.0.now ≡ a.1.1.1.0.now
    → (outcome_numbers q ≡ outcome_numbers r) × (f.1.1.0.now ≡ records_of e.1.1.0.now) × (f.1.1.1.0.now ≡ e.1.1.1.0.now)

-- ---- event identifiers
-- two calls that write, with a lesson of 32 bits and a digest of 64: the first 25 bytes are equal exactly when both numbers are
abbrev pub KnitEventIdApart : Type 0
KnitEventIdApart = (κs : _) (a : _) (n : _) (e : _) (κt : _) (b : _) (m : _) (f : _)
    → knit_event_id.Learnt κs a n e → knit_event_id.Learnt κt b m f → n ≡ 0 → m ≡ 0
    → a.0 < 2 ^ 32 → a.1.0 < 2 ^ 64 → b.0 < 2 ^ 32 → b.1.0 < 2 ^ 64
    → (take 25 e.1.1.0.now ≡ take 25 f.1.1.0.now → (a.0 ≡ b.0) × (a.1.0 ≡ b.1.0))
    × ((a.0 ≡ b.0) × (a.1.0 ≡ b.1.0) → take 25 e.1.1.0.now ≡ take 25 f.1.1.0.now)

-- ---- the runner
-- with 64 records, as many as the default configuration's depth limit, it never answers 6
abbrev pub RunnerHasRecords : Type 0
RunnerHasRecords = (bytes : List ℕ) (more : Bool) (frames regs : List ℕ) → 256 ≤ length frames → number_in (ran bytes more frames regs).answer ≢ 6
