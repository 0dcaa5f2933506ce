-- How much lent memory is enough.
use Rattle.std.specs.Prelude.{ℕ, ◌*◌, ◌≤◌, max, List, [], ◌∷◌, length}
use Rattle.image.specs.Program.{Function, Program}
use Rattle.exec.specs.declared.Ending.{Ending}
use Rattle.exec.specs.declared.Ending.TheVariants.{Returned, Trapped, FrameRoom, RegisterRoom}
use Rattle.lent.specs.Records.{frame_words}

-- a record for each frame that the depth limit allows; the entry frame is there at any limit
unfoldable pub records : ℕ → ℕ
records most = max 1 most

-- the most registers that one of the functions has
unfoldable pub largest : List Function → ℕ
largest [] = 0
largest (f ∷ fs) = max f.regs (largest fs)

-- as many for each record
unfoldable pub words : Program → ℕ → ℕ
words p most = records most * largest p.functions

-- the lent memory is as large
pub record Enough (p : Program) (most : ℕ) (fr rg : List ℕ) : Type 0 where
  pub frames : frame_words * records most ≤ length fr
  pub regs : words p most ≤ length rg

-- ---- records alone
-- a frame was refused because no record was left for it
abbrev pub WantsRecord : Ending → Type 0
WantsRecord (Returned word) = ⊥
WantsRecord (Trapped t) = ⊥
WantsRecord FrameRoom = Unit {0}
WantsRecord RegisterRoom = ⊥
