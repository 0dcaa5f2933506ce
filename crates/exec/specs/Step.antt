-- One step of the machine: the running frame's instruction acts. Nothing here knows of fuel.
use Rattle.std.specs.Prelude.{ℕ, ◌+◌, ◌*◌, ◌-◌, ◌<◌, Bool, ◌&&◌, ◌||◌, List, ◌++◌, ltb, leb, eqb, length, get_or, set, take, drop, replicate, Option, Some, None, Result, Ok, Err}
use Rattle.runtime.specs.declared.CoreTrap.{CoreTrap}
use Rattle.std.proofs.lemmas.List.Edits.{sets}
use Rattle.basis.specs.Choice.{pick}
use Rattle.basis.specs.Answers.{is_fine}
use Rattle.runtime.specs.declared.CoreTrap.TheVariants.{InvalidPc, InvalidRegister, CallDepthExceeded, InvalidFunction}
use Rattle.instr.specs.declared.Instr.{Instr}
use Rattle.image.specs.Records.{RecordLayout}
use Rattle.image.specs.Image.{image_fault}
use Rattle.image.specs.Program.{Program, decode}
use Rattle.image.specs.Parts.{functions_of, regs_of, length_of, code_of, Call}
use Rattle.straight.specs.declared.Went.{Went}
use Rattle.straight.specs.declared.Went.TheVariants.{On, To, Leaves}
use Rattle.straight.specs.Straight.{straight}
use Rattle.exec.specs.declared.Ending.{Ending}
use Rattle.exec.specs.declared.frame.Top.{Top}
use Rattle.exec.specs.declared.Ending.TheVariants.{Returned, Trapped, FrameRoom, RegisterRoom}
use Rattle.lent.specs.Records.{record_of, frame_words}
use Rattle.exec.specs.Lent.{function_word, dst_word, first_word, unit_word, part, put, State, state, top_of, top_at}

-- ---- what a step answers, and the lent words after it
pub record Stepped : Type 0 where
  pub answer : Result ℕ Ending
  pub frames : List ℕ
  pub regs : List ℕ

abbrev pub stepped : Result ℕ Ending → List ℕ → List ℕ → Stepped
stepped answer frames regs = record { answer = answer; frames = frames; regs = regs }

-- the run ends, and nothing is written
abbrev pub stops : State → Result ℕ Ending → Stepped
stops s answer = stepped answer s.frames s.regs

-- the machine goes on from here
abbrev pub goes : State → Stepped
goes s = stepped (Ok s.depth) s.frames s.regs

-- ---- inside the running frame t
-- it is now at the place n, with the registers w
abbrev pub moved : State → Top → ℕ → List ℕ → State
moved s t n w =
    state (set s.frames (frame_words * (s.depth - 1) + 1) n) (put s.regs t.first t.limit w) s.depth

-- an instruction inside the frame moves it, and a trap writes nothing: the record's place stays at the instruction that failed.
-- `leaving` is what one does that leaves the frame
abbrev pub landed : State → Top → Stepped → Result Went CoreTrap → List ℕ → Stepped
landed s t leaving (Ok On) w = goes (moved s t (t.place + 1) w)
landed s t leaving (Ok (To n)) w = goes (moved s t n w)
landed s t leaving (Err trap) w = stops s (Err (Trapped trap))
landed s t leaving (Ok Leaves) w = leaving

-- ---- Call: dst is in a, the function in b, arg_base in c, arg_count in w
-- there are as many frames as the limit allows, the entry frame among them
unfoldable pub too_deep : ℕ → ℕ → Bool
too_deep most depth = leb most depth

-- no arguments, or all of them within the caller's registers and no more than the callee has
unfoldable pub window_fits : ℕ → ℕ → Instr → Bool
window_fits caller callee i = eqb i.w 0 || (leb (i.c + i.w) caller && leb i.w callee)

-- the caller goes on after the Call once the callee returns; the callee's registers start right after the caller's
unfoldable pub pushed_frames : List ℕ → ℕ → Top → Instr → List ℕ
pushed_frames frames d t i =
    sets (set frames (frame_words * (d - 1) + 1) (t.place + 1)) (frame_words * d) (record_of i.b 0 i.a (t.first + t.limit))

-- the callee has n registers: the arguments first, and Unit after them
unfoldable pub pushed_regs : List ℕ → Top → Instr → ℕ → List ℕ
pushed_regs regs t i n =
    sets regs (t.first + t.limit) (take i.w (drop (t.first + i.c) regs) ++ replicate (n - i.w) unit_word)

-- the tests in their order: depth, function, arguments, a record, registers. A Call that is refused writes nothing, and dst is not
-- looked at
unfoldable pub called : Program → ℕ → State → Top → Instr → Stepped
called p most s t i =
    let n = regs_of p i.b in
    pick (too_deep most s.depth) (stops s (Err (Trapped CallDepthExceeded)))
    (pick (leb (functions_of p) i.b) (stops s (Err (Trapped InvalidFunction)))
    (pick (window_fits t.limit n i)
    (pick (ltb (length s.frames) (frame_words * (s.depth + 1))) (stops s (Err FrameRoom))
    (pick (ltb (length s.regs) (t.first + t.limit + n)) (stops s (Err RegisterRoom))
    (goes (state (pushed_frames s.frames s.depth t i) (pushed_regs s.regs t i n) (s.depth + 1)))))
    (stops s (Err (Trapped InvalidRegister)))))

-- ---- Ret: src is in a
-- the value goes into the register of the frame below that the dropped record names; nothing else is written
unfoldable pub handed : Program → State → ℕ → Stepped
handed p s v =
    let below = top_of p s.frames (s.depth - 1) in
    let dst = dst_word s.frames (s.depth - 1) in
    pick (ltb dst below.limit)
    (goes (state s.frames (set s.regs (below.first + dst) v) (s.depth - 1)))
    (stops s (Err (Trapped InvalidRegister)))

-- from the entry frame it ends the run
unfoldable pub returned : Program → State → Top → Instr → Stepped
returned p s t i =
    let v = get_or s.regs (t.first + i.a) 0 in
    pick (ltb i.a t.limit) (pick (ltb 1 s.depth) (handed p s v) (stops s (Err (Returned v))))
    (stops s (Err (Trapped InvalidRegister)))

unfoldable pub left : Program → ℕ → State → Top → Instr → Stepped
left p most s t i = pick (eqb i.op Call) (called p most s t i) (returned p s t i)

-- ---- one instruction, one step
unfoldable pub acted : Program → ℕ → State → Top → Instr → Stepped
acted p most s t i =
    let l = straight i (part s.regs t.first t.limit) in
    landed s t (left p most s t i) l.went l.regs

-- the instruction that the running frame is at
abbrev pub next_instr : Program → State → Instr
next_instr p s = code_of p (top_at p s).function (top_at p s).place

unfoldable pub step : Program → ℕ → State → Stepped
step p most s = acted p most s (top_at p s) (next_instr p s)

-- ---- a step by itself, of any words
-- the running frame has run past its function's end
abbrev pub is_past : Program → State → Bool
is_past p s = leb (length_of p (top_at p s).function) (top_at p s).place

-- it is at an instruction
abbrev pub Inside : Program → State → Type 0
Inside p s = (top_at p s).place < length_of p (top_at p s).function

-- record k is whole, its function exists, and its registers are among the n lent ones
unfoldable pub stands_at : Program → List ℕ → ℕ → ℕ → Bool
stands_at p frames n k =
    leb (frame_words * (k + 1)) (length frames)
    && (ltb (function_word frames k) (functions_of p) && leb (first_word frames k + regs_of p (function_word frames k)) n)

-- so it is with the record of the last of d frames, and with the one below it if there is one
unfoldable pub stands : Program → List ℕ → ℕ → ℕ → Bool
stands p frames n d = ltb 0 d && (stands_at p frames n (d - 1) && (eqb d 1 || stands_at p frames n (d - 2)))

-- past the end InvalidPc, else the step
unfoldable pub round : Program → ℕ → State → Stepped
round p most s = pick (is_past p s) (stops s (Err (Trapped InvalidPc))) (step p most s)

pub record Found : Type 0 where
  pub answer : Option (Result ℕ Ending)
  pub frames : List ℕ
  pub regs : List ℕ

abbrev pub found : Option (Result ℕ Ending) → List ℕ → List ℕ → Found
found answer frames regs = record { answer = answer; frames = frames; regs = regs }

-- where the bytes are no image, or no frame stands, nothing is written
unfoldable pub step_found : RecordLayout → List ℕ → ℕ → State → Found
step_found layout bytes most s =
    let p = decode layout bytes in
    let o = round p most s in
    pick (is_fine (image_fault layout bytes) && stands p s.frames (length s.regs) s.depth)
    (found (Some o.answer) o.frames o.regs)
    (found None s.frames s.regs)
