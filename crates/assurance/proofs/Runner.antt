-- The runner has records for all the frames that its depth limit allows. Assumes nothing.
use Prim.Native.Nat.{ℕ}
use mathlib.Core.Bool.{true, false}
use mathlib.Core.Path.{◌≡◌}
use mathlib.Core.List.{List, [], ◌∷◌}
use native.Mathlib.Omega.{arith}
use Rattle.basis.specs.Choice.{pick}
use Rattle.basis.specs.Answers.{is_fine}
use Rattle.image.specs.Records.{form1}
use Rattle.image.specs.Image.{image_fault}
use Rattle.image.specs.Program.{decode}
use Rattle.exec.specs.declared.Ending.{Ending}
use Rattle.exec.specs.declared.Ending.TheVariants.{Returned, Trapped, FrameRoom, RegisterRoom}
use Rattle.exec.specs.Price.{unit}
use Rattle.exec.specs.Execute.{outcome_of, outcome_numbers, entered, executed, ended, execution}
use Rattle.exec.specs.Run.{Final}
use Rattle.exec.proofs.Runs.{unit_fair}
use Rattle.text.specs.Line.{ran}
use Rattle.room.specs.Room.{records, WantsRecord}
use Rattle.room.proofs.Recorded.{records_enough}
use Rattle.assurance.specs.Callers.{number_in, RunnerHasRecords}
use Rattle.assurance.proofs.Numbered.{Numbered, image_numbered}

-- an ending whose number is 6
six : (e : Ending) (used : ℕ) → number_in (outcome_numbers (outcome_of e used)) ≡ 6 → WantsRecord e
six (Returned word) used q = let z : ◌≡◌ {A = ℕ} 0 6 = q in absurd (omega arith)
six (Trapped t) used q = let z : ◌≡◌ {A = ℕ} 0 6 = q in absurd (omega arith)
six FrameRoom used q = tt
six RegisterRoom used q = let z : ◌≡◌ {A = ℕ} 7 6 = q in absurd (omega arith)

-- by the image's fault, if it has one
checked : (fault : List ℕ) → Numbered 5 fault → (f : Final) (frames regs : List ℕ) → (WantsRecord f.what → ⊥)
    → number_in (pick (is_fine fault) (ended f) (executed fault frames regs)).answer ≡ 6 → ⊥
checked [] h f frames regs served q = served (six f.what f.used q)
checked (n ∷ ns) h f frames regs served q = omega (arith, h.1)

pub runner_has_records : RunnerHasRecords
unfolding ran execution records
runner_has_records bytes true frames regs room q = let z : ◌≡◌ {A = ℕ} 8 6 = q in omega arith
runner_has_records bytes false frames regs room q =
    checked (image_fault form1 bytes) (image_numbered form1 bytes) (entered (decode form1 bytes) unit 64 1000000 frames regs) frames regs
    (records_enough (decode form1 bytes) unit unit_fair 64 1000000 frames regs room) q
