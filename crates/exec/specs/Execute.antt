-- An execution: the image is checked, the entry frame is made, and it runs.
use Rattle.std.specs.Prelude.{ℕ, List, [], ◌∷◌, ◌&&◌, ltb, leb, eqb, length, get_or, take, replicate, Option, Some, None, Result, Ok, Err}
use Rattle.std.proofs.lemmas.List.Edits.{sets}
use Rattle.basis.specs.Choice.{pick}
use Rattle.basis.specs.Answers.{is_fine}
use Rattle.runtime.specs.declared.CoreTrap.{CoreTrap}
use Rattle.runtime.specs.declared.CoreTrap.TheVariants.{InvalidFunction}
use Rattle.value.specs.declared.result.CoreStatus.{CoreStatus}
use Rattle.value.specs.declared.result.CoreStatus.TheVariants as status
use Rattle.value.specs.declared.result.CoreResult.{CoreResult}
use Rattle.value.specs.declared.word.CoreValue.{CoreValue}
use Rattle.value.specs.declared.word.CoreValue.TheVariants.{Unit}
use Rattle.value.specs.Value.{kind_of, payload_of, value_at}
use Rattle.value.specs.Result.{status_word, returned_with, trapped_with}
use Rattle.image.specs.Records.{RecordLayout}
use Rattle.image.specs.Image.{fault_numbers, image_fault}
use Rattle.image.specs.Program.{Program, decode}
use Rattle.image.specs.Parts.{functions_of, regs_of}
use Rattle.exec.specs.declared.Ending.{Ending}
use Rattle.exec.specs.declared.Ending.TheVariants as ending
use Rattle.exec.specs.declared.Refusal.{Refusal}
use Rattle.exec.specs.declared.Refusal.TheVariants.{Image, FrameRoom, RegisterRoom}
use Rattle.exec.specs.Price.{Price}
use Rattle.lent.specs.Records.{record_of, frame_words}
use Rattle.exec.specs.Lent.{unit_word, State, state}
use Rattle.exec.specs.Step.{Stepped, stepped, goes}
use Rattle.exec.specs.Run.{Final, final, run}

-- ---- answers as numbers
-- a result's: its status, its value's kind and payload, the fuel used
abbrev pub result_numbers : CoreResult → List ℕ
result_numbers r = status_word r.status ∷ kind_of r.return_value ∷ payload_of r.return_value ∷ r.fuel_used ∷ []

-- the paper's number of a refusal and what it answers with
abbrev pub refusal_numbers : Refusal → List ℕ
refusal_numbers (Image fault) = fault_numbers fault
refusal_numbers (FrameRoom used) = 6 ∷ used ∷ []
refusal_numbers (RegisterRoom used) = 7 ∷ used ∷ []

-- 0 and the result, or a refusal's
abbrev pub outcome_numbers : Result CoreResult Refusal → List ℕ
outcome_numbers (Ok r) = 0 ∷ result_numbers r
outcome_numbers (Err refusal) = refusal_numbers refusal

-- ---- how a run ended
-- the value that a register word holds. A word that holds none counts as Unit; no execution of a well-formed image hands one back
-- (safety/proofs/WellFormed: value_returned)
unfoldable pub value_in : Option CoreValue → CoreValue
value_in (Some v) = v
value_in None = Unit

abbrev pub outcome_of : Ending → ℕ → Result CoreResult Refusal
outcome_of (ending.Returned word) used = Ok (returned_with (value_in (value_at word)) used)
outcome_of (ending.Trapped t) used = Ok (trapped_with t used)
outcome_of ending.FrameRoom used = Err (FrameRoom used)
outcome_of ending.RegisterRoom used = Err (RegisterRoom used)

-- ---- the entry frame: every register Unit and place 0, at any depth limit
abbrev pub entry_state : Program → List ℕ → List ℕ → State
entry_state p frames regs =
    state (sets frames 0 (record_of p.entry 0 0 0)) (sets regs 0 (replicate (regs_of p p.entry) unit_word)) 1

-- it comes as the first frame; an entry that does not exist comes before any room, and where the frame is refused nothing is written
unfoldable pub made : Program → List ℕ → List ℕ → Stepped
made p frames regs =
    pick (leb (functions_of p) p.entry) (stepped (Err (ending.Trapped InvalidFunction)) frames regs)
    (pick (ltb (length frames) frame_words) (stepped (Err ending.FrameRoom) frames regs)
    (pick (ltb (length regs) (regs_of p p.entry)) (stepped (Err ending.RegisterRoom) frames regs)
    (goes (entry_state p frames regs))))

-- and it runs; where it is refused no fuel is used
abbrev pub started : Result ℕ Ending → List ℕ → List ℕ → (State → Final) → Final
started (Ok d) frames regs rest = rest (state frames regs d)
started (Err e) frames regs rest = final e 0 frames regs

unfoldable pub entered : Program → Price → ℕ → ℕ → List ℕ → List ℕ → Final
entered p price most fuel frames regs =
    let o = made p frames regs in
    started o.answer o.frames o.regs (λ s. run p price most fuel s)

-- ---- the whole: an answer and the lent words
pub record Executed : Type 0 where
  pub answer : List ℕ
  pub frames : List ℕ
  pub regs : List ℕ

abbrev pub executed : List ℕ → List ℕ → List ℕ → Executed
executed answer frames regs = record { answer = answer; frames = frames; regs = regs }

abbrev pub ended : Final → Executed
ended f = executed (outcome_numbers (outcome_of f.what f.used)) f.frames f.regs

-- faults of the image come first and write nothing. Of a configuration this takes the fuel and the depth limit: neither its policy
-- nor its flag nor its profile occurs
unfoldable pub execution : RecordLayout → Price → List ℕ → ℕ → ℕ → List ℕ → List ℕ → Executed
execution layout price bytes most fuel frames regs =
    pick (is_fine (image_fault layout bytes)) (ended (entered (decode layout bytes) price most fuel frames regs))
    (executed (image_fault layout bytes) frames regs)

-- ---- `execute` hands back a trap by itself, without the fuel
abbrev pub by_status : CoreStatus → CoreResult → Result CoreResult CoreTrap
by_status status.Returned r = Ok r
by_status (status.Trapped t) r = Err t

unfoldable pub settled : Result CoreResult Refusal → Result (Result CoreResult CoreTrap) Refusal
settled (Ok r) = Ok (by_status r.status r)
settled (Err refusal) = Err refusal

-- a trap's numbers are 0 and its status
abbrev pub execution_numbers : Result (Result CoreResult CoreTrap) Refusal → List ℕ
execution_numbers (Ok (Ok r)) = 0 ∷ result_numbers r
execution_numbers (Ok (Err t)) = 0 ∷ status_word (status.Trapped t) ∷ []
execution_numbers (Err refusal) = refusal_numbers refusal

-- of an answer with number 0 and a status above 0 these two are left
abbrev pub trap_alone : Executed → Executed
trap_alone e =
    executed (pick (eqb (get_or e.answer 0 0) 0 && ltb 0 (get_or e.answer 1 0)) (take 2 e.answer) e.answer) e.frames e.regs
