-- How the fields of a line are spelled.
use Rattle.std.specs.Prelude.{ℕ, ◌≡◌, ◌≤◌, ◌<◌, ◌⊎◌, List, [], ◌∷◌, ◌++◌, length, slice_index}
use Rattle.text.specs.Digits.{digits}

-- a number's text with no sign and no leading zeros: a lone 0, or a text that begins with another digit
abbrev pub IsPlain : List ℕ → Type 0
IsPlain text = (text ≡ 48 ∷ []) ⊎ ((49 ≤ slice_index text 0) × (slice_index text 0 ≤ 57))

-- bytes as text, two lower-case hexadecimal digits for each, the greater one first
unfoldable pub pairs : List ℕ → List ℕ
pairs [] = []
pairs (byte ∷ bytes) = digits 16 2 byte ++ pairs bytes

-- an image's text: the pairs of its bytes, of which there is one at least; a lone minus sign is no byte
abbrev pub IsImageOf : List ℕ → List ℕ → Type 0
IsImageOf text image = ((text ≡ 45 ∷ []) × (image ≡ [])) ⊎ ((0 < length text) × (text ≡ pairs image))
