-- An answer over the C boundary: its number, 0 where nothing is wrong, and five words, which are its values and then zeros.
use Rattle.std.specs.Prelude.{ℕ, ◌≡◌, List, [], ◌∷◌, ◌++◌, eqb, get_or}
use Rattle.basis.specs.Choice.{pick}
use Rattle.value.specs.Digest.{digested}
use Rattle.exec.specs.Execute.{Executed}
use Rattle.text.specs.Identifier.{Identified}
use Rattle.capi.specs.declared.Answer.{Answer}

unfoldable pub number_of : List ℕ → ℕ
number_of answer = get_or answer 0 0

unfoldable pub words_of : List ℕ → List ℕ
words_of answer = get_or answer 1 0 ∷ get_or answer 2 0 ∷ get_or answer 3 0 ∷ get_or answer 4 0 ∷ get_or answer 5 0 ∷ []

-- the answer went over: this number was returned and these words were written
abbrev pub Answered : List ℕ → ℕ → List ℕ → Type 0
Answered answer number words = (number ≡ number_of answer) × (words ≡ words_of answer)

-- number and words together; no answer has more than five values
abbrev pub answer_of : List ℕ → Answer
answer_of answer = record { number = number_of answer; words = words_of answer }

-- ---- an execution
-- a result carries its digest after its four values; a refusal has none
unfoldable pub with_digest : List ℕ → List ℕ
with_digest answer =
    let digest = digested (get_or answer 1 0) (get_or answer 2 0) (get_or answer 3 0) (get_or answer 4 0) in
    pick (eqb (get_or answer 0 0) 0) (answer ++ (digest ∷ [])) answer

-- the number returned, the answer's words, and the lent words then
pub record Crossing : Type 0 where
  pub number : ℕ
  pub words : List ℕ
  pub frames : List ℕ
  pub regs : List ℕ

abbrev pub crossing : ℕ → List ℕ → List ℕ → List ℕ → Crossing
crossing number words frames regs = record { number = number; words = words; frames = frames; regs = regs }

unfoldable pub crossed : Executed → Crossing
crossed e = let answer = with_digest e.answer in crossing (number_of answer) (words_of answer) e.frames e.regs

-- ---- an event identifier
-- the number returned, the answer's words, and the lent bytes then
pub record Naming : Type 0 where
  pub number : ℕ
  pub words : List ℕ
  pub out : List ℕ

abbrev pub naming : ℕ → List ℕ → List ℕ → Naming
naming number words out = record { number = number; words = words; out = out }

unfoldable pub named : Identified → Naming
named i = naming (number_of i.answer) (words_of i.answer) i.out
