-- A run as its steps: where they lead, what they are charged, and what ends them.
use Rattle.std.specs.Prelude.{ℕ, zero, suc, ◌+◌, ◌-◌, ◌≤◌, ◌<◌, ◌≡◌, List, [], ◌∷◌, length}
use Rattle.runtime.specs.declared.CoreTrap.TheVariants.{InvalidPc, FuelExceeded}
use Rattle.image.specs.Program.{Program}
use Rattle.image.specs.Parts.{functions_of, regs_of, length_of}
use Rattle.exec.specs.declared.Ending.{Ending}
use Rattle.exec.specs.declared.Ending.TheVariants.{Returned, Trapped, FrameRoom, RegisterRoom}
use Rattle.exec.specs.Price.{Price, unit}
use Rattle.lent.specs.Records.{frame_words}
use Rattle.exec.specs.Lent.{State, state, top_at}
use Rattle.exec.specs.Step.{stops, step, Inside}
use Rattle.exec.specs.Run.{Final, cost_at}
use Rattle.exec.specs.Begun.{begun}
use Rattle.exec.specs.Execute.{entry_state}
use Rattle.std.specs.Prelude.{Result, Ok, Err}

-- ---- steps one after another
-- a step leads to what it leaves, if it goes on, and nowhere else if it ends the run
abbrev pub ahead : State → Result ℕ Ending → List ℕ → List ℕ → State
ahead s (Ok d) frames regs = state frames regs d
ahead s (Err e) frames regs = s

abbrev pub next : Program → ℕ → State → State
next p most s = ahead s (step p most s).answer (step p most s).frames (step p most s).regs

-- the state that n steps lead to
unfoldable pub after : Program → ℕ → ℕ → State → State
after p most zero s = s
after p most (suc n) s = after p most n (next p most s)

-- the states at which the first n of them begin
unfoldable pub trail : Program → ℕ → ℕ → State → List State
trail p most zero s = []
trail p most (suc n) s = s ∷ trail p most n (next p most s)

abbrev pub GoesOn : Result ℕ Ending → Type 0
GoesOn (Ok d) = Unit {0}
GoesOn (Err e) = ⊥

-- each of the first n steps is one of an instruction, and goes on
unfoldable pub Leads : Program → ℕ → ℕ → State → Type 0
Leads p most zero s = Unit {0}
Leads p most (suc n) s = Inside p s × (GoesOn (step p most s).answer × Leads p most n (next p most s))

-- n instructions begin, one after the other: each step before the last is one of an instruction and goes on, and the last is at one
unfoldable pub Begin : Program → ℕ → ℕ → State → Type 0
Begin p most zero s = Unit {0}
Begin p most (suc n) s = Leads p most n s × Inside p (after p most n s)

-- what they are charged
unfoldable pub charged : Program → Price → ℕ → ℕ → State → ℕ
charged p price most zero s = 0
charged p price most (suc n) s = cost_at p price s + charged p price most n (next p most s)

-- ---- a run that ends at s, where it has `left` units: how, and what it is charged there
pub data Stop (p : Program) (price : Price) (most left : ℕ) (s : State) (what : Ending) (charge : ℕ) : Type 0 where
  -- the place is at or past the length: nothing
  past : what ≡ Trapped InvalidPc → charge ≡ 0
      → length_of p (top_at p s).function ≤ (top_at p s).place
      → Stop p price most left s what charge
  -- the charge does not fit: all that is left
  dry : what ≡ Trapped FuelExceeded → charge ≡ left
      → Inside p s → left < cost_at p price s
      → Stop p price most left s what charge
  -- the instruction ends it, and writes nothing
  acts : charge ≡ cost_at p price s
      → Inside p s → cost_at p price s ≤ left → step p most s ≡ stops s (Err what)
      → Stop p price most left s what charge

-- it is refused for room
abbrev pub Refused : Ending → Type 0
Refused (Returned word) = ⊥
Refused (Trapped t) = ⊥
Refused FrameRoom = Unit {0}
Refused RegisterRoom = Unit {0}

-- ---- a run is a number of steps and an end; the lent words at its end are those where they lead
pub record Course (p : Program) (price : Price) (most fuel : ℕ) (s : State) (f : Final) : Type 0 where
  pub steps : ℕ
  pub leads : Leads p most steps s
  pub affords : charged p price most steps s ≤ fuel
  pub last : ℕ
  pub stop : Stop p price most (fuel - charged p price most steps s) (after p most steps s) f.what last
  pub used : f.used ≡ charged p price most steps s + last
  pub frames : f.frames ≡ (after p most steps s).frames
  pub regs : f.regs ≡ (after p most steps s).regs

-- ---- the fuel that a run from s uses counts the states at which instructions begin; those are the steps from s on, at each of them one
-- does begin, and none is left out: the run is a course of steps, each charged, and an end
pub record Counted (p : Program) (most fuel : ℕ) (s : State) (f : Final) : Type 0 where
  pub counts : f.used ≡ length (begun p unit most fuel s)
  pub steps : begun p unit most fuel s ≡ trail p most (length (begun p unit most fuel s)) s
  pub begin : Begin p most (length (begun p unit most fuel s)) s
  pub course : Course p unit most fuel s f

-- ---- the entry frame of an execution is made: its function exists, and there are a record and registers for it
pub record Made (p : Program) (fr rg : List ℕ) : Type 0 where
  pub known : p.entry < functions_of p
  pub room : frame_words ≤ length fr
  pub space : regs_of p p.entry ≤ length rg

-- the fuel that an execution uses is never above the limit, and the whole limit on FuelExceeded; where the entry frame is made it counts
-- the instructions begun from there, and else it is 0
pub record Fuelled (p : Program) (most fuel : ℕ) (fr rg : List ℕ) (f : Final) : Type 0 where
  pub within : f.used ≤ fuel
  pub whole : f.what ≡ Trapped FuelExceeded → f.used ≡ fuel
  pub counted : Made p fr rg → Counted p most fuel (entry_state p fr rg) f
  pub none : (Made p fr rg → ⊥) → f.used ≡ 0
