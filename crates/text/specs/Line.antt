-- The runner's line.
use Rattle.std.specs.Prelude.{ℕ, ◌*◌, Bool, List, [], ◌∷◌, ◌++◌, eqb, length, get_or, drop, replicate}
use Rattle.basis.specs.Choice.{pick}
use Rattle.image.specs.Records.{form1}
use Rattle.exec.specs.Price.{unit}
use Rattle.lent.specs.Records.{frame_words}
use Rattle.exec.specs.Config.{default_config}
use Rattle.exec.specs.Execute.{Executed, executed, execution}
use Rattle.text.specs.Ascii.{ascii}
use Rattle.text.specs.Digits.{decimal}

-- numbers in decimal with a space before each, and the line's end
unfoldable pub fields : List ℕ → List ℕ
fields [] = ascii "\n"
fields (n ∷ ns) = (ascii " " ++ decimal n) ++ fields ns

-- `done` and the values of a result; `refused`, the refusal's number and its answer
unfoldable pub line_of : List ℕ → List ℕ
line_of answer = pick (eqb (get_or answer 0 0) 0) (ascii "done" ++ fields (drop 1 answer)) (ascii "refused" ++ fields answer)

-- no line is longer: a word, four numbers of at most 20 digits, a space before each, a line feed
abbrev pub line_bytes : ℕ
line_bytes = 96

-- ---- the reply to an image
-- refusal 8: the input is longer than what the runner can hold
abbrev pub too_long : List ℕ
too_long = 8 ∷ 0 ∷ []

-- an image is run by the default configuration; of a longer input nothing is run
unfoldable pub ran : List ℕ → Bool → List ℕ → List ℕ → Executed
ran bytes more frames regs =
    pick more (executed too_long frames regs)
    (execution form1 unit bytes default_config.max_call_depth default_config.fuel frames regs)

-- the line's length, the bytes that hold it, and the lent words
pub record Replied : Type 0 where
  pub count : ℕ
  pub line : List ℕ
  pub frames : List ℕ
  pub regs : List ℕ

abbrev pub replied : ℕ → List ℕ → List ℕ → List ℕ → Replied
replied count line frames regs = record { count = count; line = line; frames = frames; regs = regs }

unfoldable pub reply_to : List ℕ → Bool → List ℕ → List ℕ → List ℕ → Replied
reply_to bytes more frames regs line =
    let e = ran bytes more frames regs in
    replied (length (line_of e.answer)) (line_of e.answer ++ drop (length (line_of e.answer)) line) e.frames e.regs

-- ---- the runner's own room: 64 frames and 2,048 registers
abbrev pub runner_frames : List ℕ
runner_frames = replicate (64 * frame_words) 0

abbrev pub runner_regs : List ℕ
runner_regs = replicate 2048 0

-- what it prints for an image, with more bytes after it or not
unfoldable pub printed : List ℕ → Bool → List ℕ
printed bytes more = line_of (ran bytes more runner_frames runner_regs).answer
