-- The lent words, and the frames that they hold.
use Rattle.std.specs.Prelude.{ℕ, ◌+◌, ◌*◌, ◌-◌, List, ◌++◌, get_or, take, drop}
use Rattle.value.specs.Value.{unit_kind, register}
use Rattle.image.specs.Program.{Program}
use Rattle.image.specs.Parts.{regs_of}
use Rattle.lent.specs.declared.FrameRecord.{FrameRecord}
use Rattle.lent.specs.Records.{frame_words}
use Rattle.exec.specs.declared.frame.Top.{Top}

-- ---- records
-- the words of record k
abbrev pub function_word : List ℕ → ℕ → ℕ
function_word frames k = get_or frames (frame_words * k) 0

abbrev pub place_word : List ℕ → ℕ → ℕ
place_word frames k = get_or frames (frame_words * k + 1) 0

abbrev pub dst_word : List ℕ → ℕ → ℕ
dst_word frames k = get_or frames (frame_words * k + 2) 0

abbrev pub first_word : List ℕ → ℕ → ℕ
first_word frames k = get_or frames (frame_words * k + 3) 0

-- all four as a struct
abbrev pub record_in : List ℕ → ℕ → FrameRecord
record_in frames k =
    record { function = function_word frames k; place = place_word frames k; dst = dst_word frames k; first = first_word frames k }

-- ---- registers
-- a register of a frame that begins
abbrev pub unit_word : ℕ
unit_word = register unit_kind 0

-- the k words from a on: the registers of one frame
abbrev pub part : List ℕ → ℕ → ℕ → List ℕ
part xs a k = take k (drop a xs)

-- all words, with ys in the place of those k
abbrev pub put : List ℕ → ℕ → ℕ → List ℕ → List ℕ
put xs a k ys = take a xs ++ (ys ++ drop k (drop a xs))

-- ---- the machine: the lent words and the number of frames, of which the last one runs
pub record State : Type 0 where
  pub frames : List ℕ
  pub regs : List ℕ
  pub depth : ℕ

abbrev pub state : List ℕ → List ℕ → ℕ → State
state frames regs depth = record { frames = frames; regs = regs; depth = depth }

-- the last of d frames, with as many registers as its function has
abbrev pub top_of : Program → List ℕ → ℕ → Top
top_of p frames d =
    record {
      function = function_word frames (d - 1);
      place = place_word frames (d - 1);
      first = first_word frames (d - 1);
      limit = regs_of p (function_word frames (d - 1));
    }

abbrev pub top_at : Program → State → Top
top_at p s = top_of p s.frames s.depth
