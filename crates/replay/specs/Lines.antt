-- The line that is being read.
use Rattle.std.specs.Prelude.{ℕ, ◌≡◌, ◌+◌, ◌≤◌, ◌++◌, List, Option, Some, None, length}
use Rattle.replay.specs.declared.Line.{Line}
use Rattle.replay.specs.declared.Line.TheVariants.{Held, Skipped}

-- as many bytes as there is room for: the longest line and its line feed
abbrev pub line_room : ℕ
line_room = 16384

-- a line's bytes so far, unless it is too long
abbrev pub held_by : Line → Option (List ℕ)
held_by (Held bytes) = Some bytes.items
held_by (Skipped count) = None

-- how much of the room is taken
abbrev pub taken : Line → ℕ
taken (Held bytes) = length bytes.items
taken (Skipped count) = count

-- more bytes of a line come after those that it has, and of one that is too long they only take room
abbrev pub HoldsMore : Line → List ℕ → Line → Type 0
HoldsMore (Held bytes) more line = length bytes.items + length more ≤ line_room → held_by line ≡ Some (bytes.items ++ more)
HoldsMore (Skipped count) more line = count + length more ≤ line_room → line ≡ Skipped (count + length more)
