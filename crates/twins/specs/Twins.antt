-- One program run twice, in lent memory of other contents and other sizes.
use Rattle.std.specs.Prelude.{ℕ, ◌+◌, ◌*◌, ◌-◌, ◌≤◌, ◌<◌, ◌≡◌, List, ◌≢◌, length, get_or}
use Rattle.image.specs.Program.{Program}
use Rattle.image.specs.Parts.{regs_of}
use Rattle.exec.specs.Price.{Price}
use Rattle.lent.specs.Records.{frame_words}
use Rattle.exec.specs.Lent.{function_word, first_word, State}
use Rattle.exec.specs.Step.{stops, step}
use Rattle.exec.specs.Run.{Final, later, cost_at, run}
use Rattle.exec.specs.Execute.{entry_state}
use Rattle.course.specs.Course.{after, Leads, charged, Made}
use Rattle.std.specs.Prelude.{Err}

-- the first n words are there twice, and the same
pub record Agree (n : ℕ) (xs ys : List ℕ) : Type 0 where
  pub left : n ≤ length xs
  pub right : n ≤ length ys
  pub words : (j : ℕ) → j < n → get_or xs j 0 ≡ get_or ys j 0

-- two machines at one point of a program: they have as many frames, and the first k words of frames and m words of registers agree,
-- among them all records and all registers of these frames
pub record Alike (p : Program) (k m : ℕ) (s t : State) : Type 0 where
  pub depth : t.depth ≡ s.depth
  pub some : 1 ≤ s.depth
  pub frames : Agree k s.frames t.frames
  pub regs : Agree m s.regs t.regs
  pub records : frame_words * s.depth ≤ k
  pub windows : (j : ℕ) → j < s.depth → first_word s.frames j + regs_of p (function_word s.frames j) ≤ m

-- two runs that ended in the same way and with the same fuel used; the first k words of frames and m of registers agree
pub record SameEnd (k m : ℕ) (f g : Final) : Type 0 where
  pub what : g.what ≡ f.what
  pub used : g.used ≡ f.used
  pub frames : Agree k f.frames g.frames
  pub regs : Agree m f.regs g.regs

-- n steps have led both to states that are alike, at least as far as k and m, and were charged the same
pub record Abreast (p : Program) (price : Price) (most k m n : ℕ) (s t : State) : Type 0 where
  pub first : Leads p most n s
  pub second : Leads p most n t
  pub charge : charged p price most n t ≡ charged p price most n s
  pub frames_to : ℕ
  pub regs_to : ℕ
  pub frames : k ≤ frames_to
  pub regs : m ≤ regs_to
  pub alike : Alike p frames_to regs_to (after p most n s) (after p most n t)

-- the run f from s, refused for room, is the run g from t up to the refused push: so many steps later they are abreast, the step there
-- is what f is refused for, the lent words of f are those there, its fuel used is what g has used there, with the Call that f was
-- refused for, and g goes on from there
pub record UpTo (p : Program) (price : Price) (most fuel k m : ℕ) (s t : State) (f g : Final) : Type 0 where
  pub steps : ℕ
  pub abreast : Abreast p price most k m steps s t
  pub refuses : step p most (after p most steps s) ≡ stops (after p most steps s) (Err f.what)
  pub frames : f.frames ≡ (after p most steps s).frames
  pub regs : f.regs ≡ (after p most steps s).regs
  pub used : f.used ≡ charged p price most steps t + cost_at p price (after p most steps t)
  pub goes_on : g
      ≡ later (charged p price most steps t) (run p price most (fuel - charged p price most steps t) (after p most steps t))

-- an execution that was refused for room, f with the lent words fr and rg, beside one that was not, g with fr' and rg'
pub data Refusal (p : Program) (price : Price) (most fuel k m : ℕ) (fr rg fr' rg' : List ℕ) (f g : Final) : Type 0 where
  -- for the entry frame, which could not be made: nothing was written, and no fuel used
  at_entry : (Made p fr rg → ⊥) → f.used ≡ 0 → f.frames ≡ fr → f.regs ≡ rg → Refusal p price most fuel k m fr rg fr' rg' f g
  -- at a Call
  at_call : UpTo p price most fuel k m (entry_state p fr rg) (entry_state p fr' rg') f g → Refusal p price most fuel k m fr rg fr' rg' f g

-- an answer's numbers say no refusal for room
pub record NoRoom (answer : List ℕ) : Type 0 where
  pub frames : get_or answer 0 0 ≢ 6
  pub regs : get_or answer 0 0 ≢ 7
