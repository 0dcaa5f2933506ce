-- What was read of the input.
use Rattle.std.specs.Prelude.{ℕ, ◌≡◌, ◌<◌, ◌↔◌, IsTrue, List, length, take, Ok, Err, Result}
use Rattle.runner.specs.declared.Held.{Held}
use Rattle.runner.specs.declared.Unread.{Unread}

-- how many bytes came, also where a read failed
abbrev pub count_read : Result ℕ Unread → ℕ
count_read (Ok count) = count
count_read (Err unread) = unread.count

-- an image that was read whole from these bytes, as much as it has room for, and whether there are more
pub record IsHeld (xs image : List ℕ) (held : Held) : Type 0 where
  pub bytes : take held.count image ≡ take (length image) xs
  pub more : IsTrue held.more ↔ (length image < length xs)
