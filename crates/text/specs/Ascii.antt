-- A text as bytes, one for each character: its code.
use Rattle.std.specs.Prelude.{ℕ, List, [] as []ᴸ, ◌∷◌ as ◌∷ᴸ◌}
use Prim.Native.Char.{code}
use Prim.Native.String.{String, [], ◌∷◌}

abbrev pub ascii : String → List ℕ
ascii [] = []ᴸ
ascii (c ∷ cs) = code c ∷ᴸ ascii cs
