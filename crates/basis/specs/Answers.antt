-- Answers as the paper's numbers: [] where nothing is wrong, else a number and its values. An enum that answers has one definition
-- that gives these numbers for each of its cases, and its function's promise is made through that definition.
use Rattle.std.specs.Prelude.{ℕ, zero, suc, Bool, true, false, List, [], ◌∷◌}
use Rattle.basis.specs.Choice.{pick}

-- the answer finds nothing wrong
abbrev pub is_fine : List ℕ → Bool
is_fine [] = true
is_fine (n ∷ ns) = false

-- nothing is wrong where the test holds; else this answer
abbrev pub demand : Bool → List ℕ → List ℕ
demand test answer = pick test [] answer

-- the first of two answers that finds something wrong
abbrev pub or_else : List ℕ → List ℕ → List ℕ
or_else [] b = b
or_else (n ∷ ns) b = n ∷ ns

-- the first of n answers, numbered from 0, that finds something wrong
unfoldable pub first_of : (ℕ → List ℕ) → ℕ → List ℕ
first_of answer zero = []
first_of answer (suc n) = or_else (first_of answer n) (answer n)

-- an answer with a number put before it; where nothing is wrong, nothing is put
abbrev pub under : ℕ → List ℕ → List ℕ
under n [] = []
under n (k ∷ ks) = n ∷ k ∷ ks
