-- A burst: what the running frame does by itself, up to the first instruction that leaves it, a trap, its end or the end of the fuel;
-- and a turn: a burst and that instruction.
-- The promises of this crate's public functions do not mention it. The inner loop is proved against it, and proofs/Stretches joins it
-- to the run.
use Rattle.std.specs.Prelude.{ℕ, zero, suc, ◌+◌, ◌*◌, ◌-◌, ◌≤◌, ◌<◌, ◌≡◌, List, leb, ltb, length, Result, Err, Ok}
use Rattle.runtime.specs.declared.CoreTrap.{CoreTrap}
use Rattle.basis.specs.Choice.{pick}
use Rattle.runtime.specs.declared.CoreTrap.TheVariants.{InvalidPc, FuelExceeded}
use Rattle.image.specs.Program.{Program}
use Rattle.image.specs.Parts.{functions_of, regs_of, length_of, code_of}
use Rattle.straight.specs.declared.Went.{Went}
use Rattle.straight.specs.declared.Went.TheVariants as went
use Rattle.straight.specs.Straight.{straight}
use Rattle.exec.specs.declared.Ending.{Ending}
use Rattle.exec.specs.declared.frame.Top.{Top}
use Rattle.exec.specs.declared.burst.Why.{Why}
use Rattle.exec.specs.declared.burst.Why.TheVariants.{Past, Dry, Fails, Leaves}
use Rattle.exec.specs.declared.Ending.TheVariants.{Trapped}
use Rattle.exec.specs.Price.{Price}
use Rattle.lent.specs.Records.{frame_words}
use Rattle.exec.specs.Lent.{function_word, first_word, part, State, state, top_of, top_at}
use Rattle.exec.specs.Step.{moved, step}

-- why it stopped, where, with how much fuel left, and the registers. An instruction that traps or leaves is charged
pub record Halted : Type 0 where
  pub why : Why
  pub place : ℕ
  pub left : ℕ
  pub regs : List ℕ

abbrev pub halted : Why → ℕ → ℕ → List ℕ → Halted
halted why place left w = record { why = why; place = place; left = left; regs = w }

-- after one instruction of the frame, with n units left: on, or the end
abbrev pub further : Result Went CoreTrap → List ℕ → ℕ → ℕ → (ℕ → List ℕ → Halted) → Halted
further (Ok went.On) w place n rest = rest (place + 1) w
further (Ok (went.To q)) w place n rest = rest q w
further (Err t) w place n rest = halted (Fails t) place n w
further (Ok went.Leaves) w place n rest = halted Leaves place n w

-- of function f with `left` units, for at most n instructions
unfoldable pub burst : Program → Price → ℕ → ℕ → ℕ → ℕ → List ℕ → Halted
burst p price f zero left place w = pick (leb (length_of p f) place) (halted Past place left w) (halted Dry place 0 w)
burst p price f (suc n) left place w =
    let i = code_of p f place in
    let c = price i.op in
    let l = straight i w in
    pick (leb (length_of p f) place) (halted Past place left w)
    (pick (ltb left c) (halted Dry place 0 w)
    (further l.went l.regs place (left - c) (λ q v. burst p price f n (left - c) q v)))

-- ---- the burst of the running frame, in the machine
pub record Paused : Type 0 where
  pub why : Why
  pub left : ℕ
  pub frames : List ℕ
  pub regs : List ℕ

abbrev pub paused : Why → ℕ → List ℕ → List ℕ → Paused
paused why left frames regs = record { why = why; left = left; frames = frames; regs = regs }

-- where a burst stopped: its place in the record, its registers back in their place
abbrev pub landing : State → Top → Halted → Paused
landing s t h = paused h.why h.left (moved s t h.place h.regs).frames (moved s t h.place h.regs).regs

unfoldable pub stretch : Program → Price → ℕ → State → Paused
stretch p price fuel s =
    let t = top_at p s in
    landing s t (burst p price t.function fuel fuel t.place (part s.regs t.first t.limit))

-- ---- a turn: the burst of the running frame, and the instruction at which it is left
pub record Turned : Type 0 where
  pub left : ℕ
  pub answer : Result ℕ Ending
  pub frames : List ℕ
  pub regs : List ℕ

abbrev pub turned : ℕ → Result ℕ Ending → List ℕ → List ℕ → Turned
turned left answer frames regs = record { left = left; answer = answer; frames = frames; regs = regs }

-- where the burst stopped, with m units left: an end, or Call or Ret, which is charged and acts now
abbrev pub acting : Program → ℕ → ℕ → Why → ℕ → List ℕ → List ℕ → Turned
acting p most d Past m frames regs = turned m (Err (Trapped InvalidPc)) frames regs
acting p most d Dry m frames regs = turned m (Err (Trapped FuelExceeded)) frames regs
acting p most d (Fails t) m frames regs = turned m (Err (Trapped t)) frames regs
acting p most d Leaves m frames regs =
    let o = step p most (state frames regs d) in
    turned m o.answer o.frames o.regs

unfoldable pub turn : Program → Price → ℕ → ℕ → State → Turned
turn p price most fuel s =
    let h = stretch p price fuel s in
    acting p most s.depth h.why h.left h.frames h.regs

-- ---- what holds of the lent words where the machine works
-- record k is of a function of the program, and its registers are among the n lent ones
pub record Frame (p : Program) (frames : List ℕ) (n : ℕ) (k : ℕ) : Type 0 where
  pub function : function_word frames k < functions_of p
  pub registers : first_word frames k + regs_of p (function_word frames k) ≤ n

-- the running frame's record is, and the one below it if there is one
pub record Ready (p : Program) (frames : List ℕ) (n : ℕ) (d : ℕ) : Type 0 where
  pub some : 1 ≤ d
  pub room : frame_words * d ≤ length frames
  pub top : Frame p frames n (d - 1)
  pub below : 2 ≤ d → Frame p frames n (d - 1 - 1)

-- the running frame is at an instruction that leaves it
pub record AtLeave (p : Program) (frames regs : List ℕ) (d : ℕ) : Type 0 where
  pub inside : (top_of p frames d).place < length_of p (top_of p frames d).function
  pub leaves : (straight (code_of p (top_of p frames d).function (top_of p frames d).place) (part regs (top_of p frames d).first (top_of p frames d).limit)).went ≡ Ok went.Leaves

-- the arguments of a Call fit
pub record Window (limit n base count : ℕ) : Type 0 where
  pub callee : count ≤ n
  pub caller : 1 ≤ count → base + count ≤ limit

-- all frames stand
pub record Good (p : Program) (frames : List ℕ) (n : ℕ) (d : ℕ) : Type 0 where
  pub some : 1 ≤ d
  pub room : frame_words * d ≤ length frames
  pub each : (k : ℕ) → k < d → Frame p frames n k
