-- A run whose frame records are lent as structs, said by the words of those records. The promise of `execute_outcome_in_frames` does not
-- mention what stands here: its loop is proved against it.
use Rattle.std.specs.Prelude.{ℕ, ◌+◌, ◌-◌, ◌≤◌, ◌<◌, ◌≡◌, List, eqb, ltb, length, set, take, replicate, Result, Ok, Err}
use Rattle.basis.specs.Choice.{pick}
use Rattle.image.specs.Records.{form1}
use Rattle.image.specs.WellFormed.{WellFormed}
use Rattle.image.specs.Program.{Program, decode}
use Rattle.lent.specs.declared.FrameRecord.{FrameRecord}
use Rattle.lent.specs.Records.{no_record, record_at, words_of}
use Rattle.exec.specs.declared.Ended.{Ended}
use Rattle.exec.specs.declared.in_frames.Machine.{Machine}
use Rattle.exec.specs.declared.in_frames.Moved.{Moved}
use Rattle.exec.specs.Price.{unit}
use Rattle.exec.specs.Lent.{state}
use Rattle.exec.specs.Run.{Final, final, later, run}
use Rattle.exec.specs.Execute.{entered}
use Rattle.exec.specs.Burst.{Good}

-- a machine that goes on with as many frames
abbrev pub on_with : Machine → ℕ → ℕ → FrameRecord → Machine
on_with m depth left top =
    record { depth = depth; records = m.records; most = m.most; fuel = m.fuel; left = left; top = top }

-- the lent records, with the one that the machine holds in its place
abbrev pub held : Machine → List FrameRecord → List FrameRecord
held m frames = set frames (m.depth - 1) m.top

-- what a machine, or one that has ended, comes to: the end, and the words of all that is lent
unfoldable pub comes_to : Program → Result Machine Ended → List FrameRecord → List ℕ → Final
comes_to p (Ok m) frames regs = later (m.fuel - m.left) (run p unit m.most m.left (state (words_of (held m frames)) regs m.depth))
comes_to p (Err e) frames regs = final e.what e.used (words_of frames) regs

-- what holds while it runs, with n registers lent
pub record Stands (bytes : List ℕ) (m : Machine) (frames : List FrameRecord) (n : ℕ) : Type 0 where
  pub well_formed : WellFormed form1 bytes
  pub good : Good (decode form1 bytes) (words_of (held m frames)) n m.depth
  pub records : m.records ≡ length frames
  pub fuel : m.left ≤ m.fuel

abbrev pub Fit : List ℕ → Result Machine Ended → List FrameRecord → ℕ → Type 0
Fit bytes (Ok m) frames n = Stands bytes m frames n
Fit bytes (Err e) frames n = Unit

-- what it began with, for any records as many as it was told
abbrev pub Enters : List ℕ → ℕ → ℕ → ℕ → List ℕ → Result Machine Ended → List ℕ → Type 0
Enters bytes most fuel records regs x regs' =
    (frames : List FrameRecord) → length frames ≡ records
    → Fit bytes x frames (length regs')
    × (comes_to (decode form1 bytes) x frames regs' ≡ entered (decode form1 bytes) unit most fuel (words_of frames) regs)

-- a machine that goes on has taken fuel
abbrev pub Less : Result Machine Ended → ℕ → Type 0
Less (Ok m) left = m.left < left
Less (Err e) left = Unit

-- a turn changes nothing of what the run comes to, and it takes fuel
pub record Onward (bytes : List ℕ) (m : Machine) (frames : List FrameRecord) (regs : List ℕ) (x : Result Machine Ended) (frames' : List FrameRecord) (regs' : List ℕ) : Type 0 where
  pub same : comes_to (decode form1 bytes) x frames' regs' ≡ comes_to (decode form1 bytes) (Ok m) frames regs
  pub fit : Fit bytes x frames' (length regs')
  pub less : Less x m.left

-- ---- the window of a turn: the running frame's record, the one below it if there is one, and one to push a frame on if there is one
abbrev pub shown : ℕ → ℕ
shown depth = pick (eqb depth 1) 1 2

abbrev pub window_of : ℕ → ℕ → ℕ
window_of depth records = pick (ltb depth records) (shown depth + 1) (shown depth)

abbrev pub seen : Machine → FrameRecord → List FrameRecord
seen m below = take (window_of m.depth m.records) (set (set (replicate 3 no_record) 0 below) (shown m.depth - 1) m.top)

-- the record below the running frame's, of records that the machine stands on
pub record Under (bytes : List ℕ) (m : Machine) (n : ℕ) (below : FrameRecord) : Type 0 where
  pub frames : List FrameRecord
  pub stands : Stands bytes m frames n
  pub found : below ≡ record_at frames (m.depth - 2)

-- a turn with that record, and one record to store, for any such records
abbrev pub Advances : List ℕ → Machine → List ℕ → FrameRecord → Moved → List ℕ → Type 0
Advances bytes m regs below t regs' =
    (frames : List FrameRecord) → Stands bytes m frames (length regs) → below ≡ record_at frames (m.depth - 2)
    → Onward bytes m frames regs t.next (set frames t.at t.stored) regs'
