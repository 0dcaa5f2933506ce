-- What a report says of a stream that failed.
use Rattle.std.specs.Prelude.{ℕ, ◌≡◌, ◌+◌, ◌<◌, ◌⊎◌, List, length, take, codes}
use Rattle.std.specs.Str.Pattern.{HasTextAt, LacksTextAt}
use Rattle.failure.specs.declared.Failure.{Failure}
use Rattle.failure.specs.declared.Failure.TheVariants.{Unread, Unwritten}

-- what comes before the number of an error, in brackets
abbrev pub bracket : List ℕ
bracket = codes " ("

-- the text as far as its first bracket, or whole where it has none
pub record IsShortened (text words : List ℕ) : Type 0 where
  pub front : words ≡ take (length words) text
  pub before : (i : ℕ) → i < length words → LacksTextAt bracket text i
  pub end : (words ≡ text) ⊎ HasTextAt bracket text (length words) (length words + 2)

-- the stream that failed
abbrev pub stream_of : Failure → List ℕ
stream_of (Unread error) = codes "standard input"
stream_of (Unwritten error) = codes "standard output"
