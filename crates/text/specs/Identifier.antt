-- The event identifier: the lesson's number in 8 hexadecimal digits, a minus sign, the digest in 16.
use Rattle.std.specs.Prelude.{ℕ, ◌<◌, ◌^◌, ◌≡◌, Result, Ok, Err, List, [], ◌∷◌, ◌++◌, ltb, length, drop}
use Rattle.basis.specs.Choice.{pick}
use Rattle.text.specs.Ascii.{ascii}
use Rattle.text.specs.Digits.{digits}
use Rattle.text.specs.declared.event.IdRoom.{IdRoom}

unfoldable pub identifier : ℕ → ℕ → List ℕ
identifier lesson digest = digits 16 8 lesson ++ (ascii "-" ++ digits 16 16 digest)

-- 0 and how many bytes were written, or the paper's number of the refusal and its answer
abbrev pub id_numbers : Result (Unit {0}) IdRoom → List ℕ
id_numbers (Ok u) = 0 ∷ 25 ∷ []
id_numbers (Err e) = 9 ∷ 0 ∷ []

-- an answer and the lent bytes then
pub record Identified : Type 0 where
  pub answer : List ℕ
  pub out : List ℕ

abbrev pub identified : List ℕ → List ℕ → Identified
identified answer out = record { answer = answer; out = out }

-- with room for it the identifier takes the first bytes and the rest stay; with less nothing is written
unfoldable pub identification : ℕ → ℕ → List ℕ → Identified
identification lesson digest out =
    pick (ltb (length out) 25) (identified (id_numbers (Err (record {}))) out)
    (identified (id_numbers (Ok tt)) (identifier lesson digest ++ drop 25 out))

-- identifiers of two events are equal exactly when both their numbers are
abbrev pub Apart : Type 0
Apart =
    (lesson digest lesson' digest' : ℕ) → lesson < 2 ^ 32 → digest < 2 ^ 64 → lesson' < 2 ^ 32 → digest' < 2 ^ 64 →
    (identifier lesson digest ≡ identifier lesson' digest' → (lesson ≡ lesson') × (digest ≡ digest')) ×
    ((lesson ≡ lesson') × (digest ≡ digest') → identifier lesson digest ≡ identifier lesson' digest')
